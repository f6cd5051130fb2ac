-- What the code asks of each of the 64 places is what a station must be.
use Prim.Native.Nat.{ℕ, ◌+◌, ◌-◌, ◌≤◌, ◌<◌}
use mathlib.Core.Bool.{Bool, false, ◌&&◌, ◌||◌}
use mathlib.Core.Path.{◌≡◌, sym, ap, ap₂, ◌∙◌, subst, subst⁻¹}
use mathlib.Core.List.{List}
use native.Mathlib.Decide.{dec_lt}
use native.Mathlib.Omega.{arith}
use lib.Dec.{T, eqb, ltb}
use lib.ListN.{length, get_or, drop, length-drop}
use lib.Seq.{get_or-drop, length-take-le}
use borrow.Author.Tests.{lt-ltb, le-ltb}
use Rattle.lists.specs.Lists.{every, from}
use Rattle.lists.specs.Words.{in_word}
use Rattle.lists.proofs.Tests.{and_l, and_r, and_i, same_test, every_at, at_every}
use Rattle.lists.proofs.Numbers.{every_from, from_every, length_map_below}
use Rattle.net.specs.declared.Net.{Net}
use Rattle.net.specs.Network.{is_end}
use Rattle.net.specs.Letters.{is_counter}
use Rattle.net.specs.Values.{network_of, link_count, is_zero}
use Rattle.net.specs.Sizes.{link_room}
use Rattle.net.proofs.ValueLaws.{links_of_lem}
use Rattle.reach.specs.Reach.{counter_in}
use Rattle.reach.proofs.Tables.{counter_of_lem}
use Rattle.sets.specs.Sets.{word_by}
use Rattle.marks.specs.declared.Marks.{Marks}
use Rattle.marks.specs.Marks.{marks_at, own_at}
use Rattle.station.specs.declared.Condition.{Condition}
use Rattle.station.specs.declared.Condition.TheVariants.{Down, Waiting, Live}
use Rattle.station.specs.declared.Station.{Station}
use Rattle.station.specs.Holding.{counter, mark, is_live, together, is_off, condition_holds, slot_holds, holding_holds}
use Rattle.station.specs.Values.{holding_of}
use Rattle.station.proofs.Slots.{rule}
use Rattle.station.proofs.Laid.{mark_of, marks_of, table_of_lem, condition_of}
use Rattle.station.proofs.HoldingLaws.{Formed, formed, holds}
use Rattle.state_rules.specs.Formed.{station_formed, station_test}
use Rattle.state_rules.specs.Steps.{every_place, counter_test, condition_marks, marks_test}
use Rattle.state_rules.proofs.PlaceLaws.{place_at, at_place, places_same, in_of}

-- ---- one link: the slot's test is that of the counter and that of the marks
abbrev link_counter : Condition → ℕ → Bool
link_counter x c = is_counter c && (is_live x || eqb c 1)

module _ (own : Bool) (c : ℕ) (m : Marks) where
  slot_split : (x : Condition) → T (slot_holds x own c m) → T (marks_test x own m) × T (link_counter x c)
  slot_split x t =
      let front = is_counter c && together m && (own || is_off m) in
      let f = and_l front _ t in
      let g = and_l (is_counter c && together m) _ f in
      go x (and_l (is_counter c) _ g) (and_i (together m) _ (and_r (is_counter c) _ g) (and_r (is_counter c && together m) _ f))
      (and_r front _ t)
    where
      go : (x : Condition) → T (is_counter c) → T (together m && (own || is_off m)) → T (condition_holds x own c m)
          → T (marks_test x own m) × T (link_counter x c)
      go Down p q r = (and_i (together m && (own || is_off m)) _ q (and_r (eqb c 1) _ r), and_i (is_counter c) _ p (and_l (eqb c 1) _ r))
      go Waiting p q r = (and_i (together m && (own || is_off m)) _ q (and_r (eqb c 1) _ r), and_i (is_counter c) _ p (and_l (eqb c 1) _ r))
      go Live p q r = (and_i (together m && (own || is_off m)) _ q tt, and_i (is_counter c) _ p tt)

  slot_join : (x : Condition) → T (marks_test x own m) → T (link_counter x c) → T (slot_holds x own c m)
  slot_join x t u =
      let q = and_l (together m && (own || is_off m)) _ t in
      let p = and_l (is_counter c) _ u in
      and_i (is_counter c && together m && (own || is_off m)) _
      (and_i (is_counter c && together m) _ (and_i (is_counter c) _ p (and_l (together m) _ q)) (and_r (together m) _ q))
      (go x (and_r (together m && (own || is_off m)) _ t) (and_r (is_counter c) _ u))
    where
      go : (x : Condition) → T (condition_marks x own m) → T (is_live x || eqb c 1) → T (condition_holds x own c m)
      go Down r s = and_i (eqb c 1) _ s r
      go Waiting r s = and_i (eqb c 1) _ s r
      go Live r s = tt

-- a link that is not own, or not there
foreign_off : (x : Condition) (m : Marks) → T (marks_test x false m) → T (is_off m)
foreign_off x m t = and_r (together m) _ (and_l (together m && is_off m) _ t)

off_foreign : (x : Condition) (m : Marks) → T (is_off m) → T (marks_test x false m)
off_foreign x m t = and_i (together m && is_off m) _ (and_i (together m) _ (rule is_off together tt m t) t) (go x)
  where
    go : (x : Condition) → T (condition_marks x false m)
    go Down = t
    go Waiting = tt
    go Live = tt

-- ---- room that is zero from place n on
module _ (room : List ℕ) (n : ℕ) (size : length room ≡ link_room) where
  room_zero : T (every is_zero (drop n room)) → (j : ℕ) → n ≤ j → j < link_room → T (is_zero (get_or room j 0))
  room_zero t j g l =
      let i : ℕ = j - n in
      let z : T (is_zero (get_or (drop n room) i 0)) = every_at is_zero (drop n room) i 0 t (omega (arith, length-drop n room)) in
      subst (λ (x : ℕ). T (is_zero x)) (get_or-drop n room i 0 ∙ ap (λ (x : ℕ). get_or room x 0) (omega arith)) z

  zero_room : ((j : ℕ) → n ≤ j → j < link_room → T (is_zero (get_or room j 0))) → T (every is_zero (drop n room))
  zero_room f =
      at_every is_zero (drop n room) 0 (λ i g. subst⁻¹ (λ (x : ℕ). T (is_zero x)) (get_or-drop n room i 0)
      (f (n + i) (omega arith) (omega (arith, g, length-drop n room))))

-- the same for a test of the places themselves
module _ (p : ℕ → Bool) (n : ℕ) (few : n ≤ link_room) where
  rest_at : T (every p (from n (link_room - n))) → (j : ℕ) → n ≤ j → j < link_room → T (p j)
  rest_at t j g l = subst (λ (x : ℕ). T (p x)) (omega arith) (every_from p (link_room - n) n t (j - n) (omega arith))

  at_rest : ((j : ℕ) → n ≤ j → j < link_room → T (p j)) → T (every p (from n (link_room - n)))
  at_rest f = from_every p (link_room - n) n (λ k h. f (n + k) (omega arith) (omega arith))

-- ---- a station
module _ (net : Net) (s : ℕ) (st : Station) where
  abbrev pub marks_place : ℕ → ℕ → Bool
  marks_place own t = marks_test st.condition (in_word own t) (marks_at st.marks t)

  abbrev pub counter_place : ℕ → Bool → ℕ → Bool
  counter_place m live t = counter_test (ltb t m) live (get_or st.counters t 0)

  abbrev own_marks : ℕ → Bool
  own_marks t = marks_test st.condition (own_at net s t) (marks_at st.marks t)

  abbrev own_counter : ℕ → Bool
  own_counter t = counter_place (link_count net) (is_live st.condition) t

  module _ (size : length st.counters ≡ link_room) where
    slot_is : (k : ℕ) → k < link_count net
        → slot_holds (holding_of net st).condition (is_end (network_of net) k s) (counter (holding_of net st) k) (mark (holding_of net st) k)
        ≡ slot_holds st.condition (is_end (network_of net) k s) (get_or st.counters k 0) (marks_at st.marks k)
    slot_is k h =
        ap (λ (x : Condition). slot_holds x (is_end (network_of net) k s) (counter (holding_of net st) k) (mark (holding_of net st) k))
        (condition_of net st)
        ∙ ap₂ (λ (c : ℕ) (m : Marks). slot_holds st.condition (is_end (network_of net) k s) c m)
        (ap (λ (l : List ℕ). counter_in l k) (table_of_lem net st) ∙ counter_of_lem net st.counters k size h) (mark_of net st k h)

    own_there : (k : ℕ) → k < link_count net → own_marks k ≡ marks_test st.condition (is_end (network_of net) k s) (marks_at st.marks k)
    own_there k h =
        ap (λ (b : Bool). marks_test st.condition (b && is_end (network_of net) k s) (marks_at st.marks k)) (lt-ltb k (link_count net) h)

    own_past : (k : ℕ) → link_count net ≤ k → own_marks k ≡ marks_test st.condition false (marks_at st.marks k)
    own_past k h =
        ap (λ (b : Bool). marks_test st.condition (b && is_end (network_of net) k s) (marks_at st.marks k)) (le-ltb k (link_count net) h)

    counter_there : (k : ℕ) → k < link_count net → own_counter k ≡ link_counter st.condition (get_or st.counters k 0)
    counter_there k h = ap (λ (b : Bool). counter_test b (is_live st.condition) (get_or st.counters k 0)) (lt-ltb k (link_count net) h)

    counter_past : (k : ℕ) → link_count net ≤ k → own_counter k ≡ is_zero (get_or st.counters k 0)
    counter_past k h = ap (λ (b : Bool). counter_test b (is_live st.condition) (get_or st.counters k 0)) (le-ltb k (link_count net) h)

    few : link_count net ≤ link_room
    few = omega arith

    abbrev zeroes : Bool
    zeroes = every is_zero (drop (link_count net) st.counters)

    abbrev offs : Bool
    offs = every (λ t. is_off (marks_at st.marks t)) (from (link_count net) (link_room - link_count net))

    forth : T (every_place own_marks) → T (every_place own_counter) → T (station_formed net s st)
    unfolding station_formed
    forth t u =
        and_i (holding_holds (network_of net) s (holding_of net st) && zeroes) offs
        (and_i (holding_holds (network_of net) s (holding_of net st)) zeroes
        (holds (network_of net) s (holding_of net st) (record {
          table_length = ap length (table_of_lem net st) ∙ length-take-le (link_count net) st.counters (omega arith) ∙ sym (links_of_lem net);
          marks_length = ap length (marks_of net st) ∙ length_map_below (marks_at st.marks) (link_count net) ∙ sym (links_of_lem net);
          slots = λ k h. slot k (subst (λ (n : ℕ). k < n) (links_of_lem net) h);
        }))
        (zero_room st.counters (link_count net) size (λ j g l. subst T (counter_past j g) (place_at own_counter u j l))))
        (at_rest (λ t. is_off (marks_at st.marks t)) (link_count net) few
        (λ j g l. foreign_off st.condition (marks_at st.marks j) (subst T (own_past j g) (place_at own_marks t j l))))
      where
        slot : (k : ℕ) → k < link_count net → T (slot_holds (holding_of net st).condition (is_end (network_of net) k s)
            (counter (holding_of net st) k) (mark (holding_of net st) k))
        slot k h =
            subst⁻¹ T (slot_is k h)
            (slot_join (is_end (network_of net) k s) (get_or st.counters k 0) (marks_at st.marks k) st.condition
            (subst T (own_there k h) (place_at own_marks t k (omega arith)))
            (subst T (counter_there k h) (place_at own_counter u k (omega arith))))

    back : T (station_formed net s st) → T (every_place own_marks) × T (every_place own_counter)
    unfolding station_formed
    back t =
        let front = and_l (holding_holds (network_of net) s (holding_of net st) && zeroes) offs t in
        let f = formed (network_of net) s (holding_of net st) (and_l (holding_holds (network_of net) s (holding_of net st)) zeroes front) in
        let z = and_r (holding_holds (network_of net) s (holding_of net st)) zeroes front in
        let o = and_r (holding_holds (network_of net) s (holding_of net st) && zeroes) offs t in (
          at_place own_marks (λ k l. marks k l f o (dec_lt k (link_count net))),
          at_place own_counter
              (λ k l. count k l f z (dec_lt k (link_count net))),
        )
      where
        both : (k : ℕ) → k < link_count net → Formed (network_of net) s (holding_of net st)
            → T (marks_test st.condition (is_end (network_of net) k s) (marks_at st.marks k)) × T
            (link_counter st.condition (get_or st.counters k 0))
        both k h f =
            slot_split (is_end (network_of net) k s) (get_or st.counters k 0) (marks_at st.marks k) st.condition
            (subst T (slot_is k h) (f.slots k (subst⁻¹ (λ (n : ℕ). k < n) (links_of_lem net) h)))

        marks : (k : ℕ) → k < link_room → Formed (network_of net) s (holding_of net st) → T offs → Dec (k < link_count net) → T (own_marks k)
        marks k l f o (yes h) = subst⁻¹ T (own_there k h) (both k h f).0
        marks k l f o (no h) =
            let g : link_count net ≤ k = omega arith in
            subst⁻¹ T (own_past k g) (off_foreign st.condition (marks_at st.marks k)
            (rest_at (λ t. is_off (marks_at st.marks t)) (link_count net) few o k g l))

        count : (k : ℕ) → k < link_room → Formed (network_of net) s (holding_of net st) → T zeroes → Dec (k < link_count net) → T (own_counter k)
        count k l f z (yes h) = subst⁻¹ T (counter_there k h) (both k h f).1
        count k l f z (no h) =
            let g : link_count net ≤ k = omega arith in
            subst⁻¹ T (counter_past k g) (room_zero st.counters (link_count net) size z k g l)

    parts : (every_place own_marks && every_place own_counter) ≡ station_formed net s st
    parts =
        same_test (every_place own_marks && every_place own_counter) (station_formed net s st)
        (λ t. forth (and_l (every_place own_marks) _ t) (and_r (every_place own_marks) _ t))
        (λ t. and_i (every_place own_marks) _ (back t).0 (back t).1)

    -- by its own links it is the code's test
    pub test_is : (own : ℕ) → own ≡ word_by (own_at net s) → station_test net.links own st ≡ station_formed net s st
    unfolding station_test
    test_is own e =
        ap (λ (b : Bool). b && every_place own_counter) (places_same (marks_place own) own_marks
        (λ t h. ap (λ (b : Bool). marks_test st.condition b (marks_at st.marks t)) (in_of own (own_at net s) e t h)))
        ∙ parts
