-- A place of the stations, by the network's links and the station's own; and a letter, by its sender's.
use Rattle.std.specs.Prelude.{if◌then◌else◌}
use Prim.Native.Nat.{ℕ, ◌%◌, ◌≤◌, ◌<◌, min}
use mathlib.Core.Bool.{Bool, true, false, ◌&&◌, ◌||◌}
use mathlib.Core.Path.{◌≡◌, refl, sym, ap, ap₂, ◌∙◌}
use mathlib.Core.List.{List}
use native.Mathlib.Decide.{dec_lt}
use native.Mathlib.Nat.{mod-eq_of_lt}
use native.Mathlib.Omega.{arith}
use lib.Dec.{T, ltb}
use lib.ListN.{length, get_or}
use borrow.Author.Tests.{ne_eqb, le-ltb}
use Rattle.lists.specs.Lists.{every, below}
use Rattle.lists.specs.Words.{in_word}
use Rattle.lists.proofs.Tests.{and_no, same_test, every_at, at_every}
use Rattle.lists.proofs.Numbers.{below_at, at_below}
use Rattle.net.specs.declared.Letter.{Letter}
use Rattle.net.specs.declared.Net.{Net}
use Rattle.net.specs.Network.{is_end}
use Rattle.net.specs.Letters.{letter_holds}
use Rattle.net.specs.Values.{network_of, link_count, is_zero}
use Rattle.net.specs.Sizes.{station_room, link_room}
use Rattle.net.proofs.ValueLaws.{links_of_lem}
use Rattle.sheet_rules.specs.Values.{net_holds}
use Rattle.sheet_rules.proofs.Ends.{high_real, low_real}
use Rattle.sheet_rules.proofs.Good.{few_places, few_stations, stations_are, sheet_good}
use Rattle.sets.specs.Sets.{word_by}
use Rattle.marks.specs.Marks.{marks_at, own_at, own_words}
use Rattle.marks.proofs.OwnLinks.{own_word}
use Rattle.station.specs.declared.Condition.{Condition}
use Rattle.station.specs.declared.Condition.TheVariants.{Down, Waiting, Live}
use Rattle.station.specs.declared.Station.{Station}
use Rattle.station.specs.Holding.{is_down, is_live}
use Rattle.state_rules.specs.Carried.{letter_test}
use Rattle.state_rules.specs.Formed.{station_formed, station_test}
use Rattle.state_rules.specs.Steps.{every_place, counter_test, marks_test}
use Rattle.state_rules.proofs.LetterTests.{letter_is, way_beyond}
use Rattle.state_rules.proofs.Parts.{test_is}
use Rattle.state_rules.proofs.PlaceLaws.{places_same}
use Rattle.state_rules.proofs.WordTests.{none_is}
use Rattle.state.specs.State.{no_word, is_blank, station_place, place_test, Fits}

-- ---- an unused place of the stations
counters_zero : (cs : List ℕ) → length cs ≡ link_room → every_place (λ t. is_zero (get_or cs t 0)) ≡ every is_zero cs
unfolding every_place
counters_zero cs e =
    same_test (every (λ t. is_zero (get_or cs t 0)) (below link_room)) (every is_zero cs)
    (λ t. at_every is_zero cs 0 (λ i h. below_at (λ t. is_zero (get_or cs t 0)) link_room t i (omega (arith, e))))
    (λ t. at_below (λ t. is_zero (get_or cs t 0)) link_room (λ i h. every_at is_zero cs i 0 t (omega (arith, e))))

module _ (st : Station) (own : ℕ) (f : Fits st) where
  -- with the condition beside it, so that it can be told apart
  blank_by : (x : Condition)
      → (is_down x && (every_place (λ t. marks_test x (in_word own t) (marks_at st.marks t))
      && every_place (λ t. counter_test (ltb t (min 0 link_room)) (is_live x) (get_or st.counters t 0))))
      ≡ ((is_down x && no_word st.marks) && every is_zero st.counters)
  blank_by Down =
      ap₂ (λ (a b : Bool). a && b) (sym (none_is st.marks own f.token f.turn f.testing f.asked f.quiet))
      (places_same (λ t. counter_test (ltb t (min 0 link_room)) false (get_or st.counters t 0)) (λ t. is_zero (get_or st.counters t 0))
      (λ t h. ap (λ (b : Bool). counter_test b false (get_or st.counters t 0)) (le-ltb t (min 0 link_room) (omega arith)))
      ∙ counters_zero st.counters f.counters)
  blank_by Waiting = refl
  blank_by Live = refl

  blank_is : (is_down st.condition && station_test 0 own st) ≡ is_blank st
  unfolding station_test
  blank_is = blank_by st.condition

-- ---- a place of the stations
-- as the code asks
pub place_tested : (links : ℕ) (used : Bool) (own : ℕ) (st : Station) {stands formed : Bool} {there : ℕ}
    → stands ≡ (used || is_down st.condition) → there ≡ (if used then links else 0) → formed ≡ station_test there own st
    → (stands && formed) ≡ place_test links used own st
place_tested links used own st e d p = ap₂ (λ (x y : Bool). x && y) e (p ∙ ap (λ (n : ℕ). station_test n own st) d)

pub place_is : (net : Net) (i : ℕ) (st : Station) (own : ℕ) → Fits st → own ≡ word_by (own_at net i)
    → place_test net.links (ltb i net.stations) own st ≡ station_place net i st
place_is net i st own f e = go (ltb i net.stations) refl
  where
    go : (u : Bool) → ltb i net.stations ≡ u → place_test net.links u own st ≡ (if u then station_formed net i st else is_blank st)
    go true p = test_is net i st f.counters own e
    go false p = blank_is st own f

-- ---- a letter
module _ (net : Net) (x : Letter) (t : T (net_holds net)) where
  links : link_count net ≡ net.links
  links = omega (arith, few_places net t)

  no_end : x.link < link_count net → station_room ≤ x.sender → is_end (network_of net) x.link x.sender ≡ false
  no_end h l =
      let a = low_real (network_of net) (sheet_good net t) x.link (omega (arith, links_of_lem net)) in
      let b = high_real (network_of net) (sheet_good net t) x.link (omega (arith, links_of_lem net)) in
      let n = stations_are net t in
      let m = few_stations net t in
      ap₂ (λ (p q : Bool). p || q) (ne_eqb _ x.sender (λ e. omega arith)) (ne_eqb _ x.sender (λ e. omega arith))

  pub letter_seen : (owns : List ℕ) → owns ≡ own_words net
      → letter_test net.links (get_or owns (x.sender % station_room) 0) x ≡ letter_holds (network_of net) x
  letter_seen owns e =
      ap (λ (n : ℕ). letter_test n own x) (sym links) ∙ go (dec_lt x.link link_room) (dec_lt x.sender station_room)
    where
      own : ℕ
      own = get_or owns (x.sender % station_room) 0

      -- the sender is no end, or the link is not there
      none : station_room ≤ x.sender → Dec (x.link < link_count net)
          → (ltb x.link (link_count net) && is_end (network_of net) x.link x.sender) ≡ false
      none h (yes l) = ap (λ (b : Bool). ltb x.link (link_count net) && b) (no_end l h) ∙ and_no (ltb x.link (link_count net))
      none h (no l) = ap (λ (b : Bool). b && is_end (network_of net) x.link x.sender) (le-ltb x.link (link_count net) (omega arith))

      go : Dec (x.link < link_room) → Dec (x.sender < station_room) → letter_test (link_count net) own x ≡ letter_holds (network_of net) x
      go (yes l) (yes h) =
          letter_is net x own l h
          (ap₂ (λ (w : List ℕ) (k : ℕ). get_or w k 0) e (mod-eq_of_lt h) ∙ own_word net x.sender h)
      go (yes l) (no h) =
          way_beyond net x own
          (ap (λ (b : Bool). ltb x.link link_room && b) (le-ltb x.sender station_room (omega arith)) ∙ and_no (ltb x.link link_room))
          (none (omega arith) (dec_lt x.link (link_count net)))
      go (no l) d =
          way_beyond net x own
          (ap (λ (b : Bool). b && ltb x.sender station_room) (le-ltb x.link link_room (omega arith)))
          (ap (λ (b : Bool). b && is_end (network_of net) x.link x.sender) (le-ltb x.link (link_count net) (omega arith)))
