-- A station's counters by what was gathered of them: all that have a link are counters, none is above 1, nothing stands beyond the links.
use Prim.Native.Nat.{ℕ, ◌+◌, ◌≤◌, ◌<◌, min}
use mathlib.Core.Bool.{Bool, true, false, ◌&&◌, ◌||◌}
use mathlib.Core.Path.{◌≡◌, sym, ap, ap₂, ◌∙◌, subst, subst⁻¹}
use mathlib.Core.List.{List}
use native.Mathlib.Decide.{dec_lt}
use native.Mathlib.Omega.{arith}
use lib.Dec.{T, eqb, leb, ltb, eqb→eq, leb→le}
use lib.ListN.{get_or, length, take, drop, length-take}
use lib.Seq.{get_or-take, get_or-drop}
use borrow.Author.Tests.{lt-ltb, le-ltb, le-leb}
use Rattle.lists.specs.Lists.{every, below}
use Rattle.lists.specs.Words.{in_word}
use Rattle.lists.proofs.Tests.{and_l, and_r, and_i, or_left, T_is, is_T, eq→eqb, same_test}
use Rattle.lists.proofs.Numbers.{below_at, at_below}
use Rattle.net.specs.Letters.{is_counter}
use Rattle.net.specs.Values.{is_zero}
use Rattle.net.specs.Sizes.{link_room}
use Rattle.marks.specs.Marks.{marks_at}
use Rattle.station.specs.declared.Station.{Station}
use Rattle.station.specs.Holding.{is_live}
use Rattle.state_rules.specs.Formed.{station_test}
use Rattle.state_rules.specs.Steps.{every_place, counter_test, marks_test}
use Rattle.state_rules.proofs.PlaceLaws.{place_at, at_place}
use Rattle.state_rules.proofs.Gathered.{gather_more}

module _ (cs : List ℕ) (m : ℕ) where
  abbrev pub counters_hold : ℕ → Bool
  counters_hold k = every (λ t. is_counter (get_or cs t 0)) (below k)

  abbrev pub none_above : ℕ → Bool
  none_above k = every (λ t. leb (get_or cs t 0) 1) (below k)

  abbrev pub none_beyond : ℕ → Bool
  none_beyond k = every (λ t. ltb t m || is_zero (get_or cs t 0)) (below k)

  -- what begins the third: below m nothing is asked
  pub beyond_none : true ≡ none_beyond m
  beyond_none = sym (T_is _ (at_below (λ t. ltb t m || is_zero (get_or cs t 0)) m (λ t h. or_left (ltb t m) _ (is_T _ (lt-ltb t m h)))))

  -- what the two halves of the counters have at a place
  pub place_before : (k : ℕ) → k < length (take m cs) → get_or (take m cs) k 0 ≡ get_or cs k 0
  place_before k h = get_or-take m cs k 0 (omega (arith, length-take m cs))

  pub place_beyond : (n k : ℕ) → k < length (take n (drop m cs))
      → eqb (get_or (take n (drop m cs)) k 0) 0 ≡ (ltb (m + k) m || is_zero (get_or cs (m + k) 0))
  place_beyond n k h =
      ap (λ (c : ℕ). eqb c 0) (get_or-take n (drop m cs) k 0 (omega (arith, length-take n (drop m cs))) ∙ get_or-drop m cs k 0)
      ∙ ap (λ (b : Bool). b || is_zero (get_or cs (m + k) 0)) (sym (le-ltb (m + k) m (omega arith)))

  pub beyond_more : (k : ℕ) (a b : Bool) → a ≡ none_beyond (m + k) → b ≡ (a && (ltb (m + k) m || is_zero (get_or cs (m + k) 0)))
      → b ≡ none_beyond (m + (k + 1))
  beyond_more k a b e d = gather_more (λ t. ltb t m || is_zero (get_or cs t 0)) (m + k) a b e d ∙ ap none_beyond (omega arith)

  module _ (few : m ≤ link_room) where
    abbrev gathered : Bool → Bool
    gathered live = (counters_hold m && (live || none_above m)) && none_beyond link_room

    forth : (live : Bool) → T (gathered live) → (t : ℕ) → t < link_room → Dec (t < m) → T (counter_test (ltb t m) live (get_or cs t 0))
    forth live u t h (yes l) =
        subst⁻¹ (λ (b : Bool). T (counter_test b live (get_or cs t 0))) (lt-ltb t m l)
        (and_i (is_counter (get_or cs t 0)) _ ok (go live (and_r (counters_hold m) _ front)))
      where
        front : T (counters_hold m && (live || none_above m))
        front = and_l (counters_hold m && (live || none_above m)) _ u

        ok : T (is_counter (get_or cs t 0))
        ok = below_at (λ t. is_counter (get_or cs t 0)) m (and_l (counters_hold m) _ front) t l

        go : (live : Bool) → T (live || none_above m) → T (live || eqb (get_or cs t 0) 1)
        go true v = tt
        go false v =
            let a = leb→le (get_or cs t 0) 1 (below_at (λ t. leb (get_or cs t 0) 1) m v t l) in
            let b = leb→le 1 (get_or cs t 0) (and_l (leb 1 (get_or cs t 0)) _ ok) in
            eq→eqb (get_or cs t 0) 1 (omega arith)
    forth live u t h (no l) =
        let d = le-ltb t m (omega arith) in
        subst⁻¹ (λ (b : Bool). T (counter_test b live (get_or cs t 0))) d
        (subst (λ (b : Bool). T (b || is_zero (get_or cs t 0))) d (below_at (λ t. ltb t m || is_zero (get_or cs t 0)) link_room
        (and_r (counters_hold m && (live || none_above m)) _ u) t h))

    back : (live : Bool) → ((t : ℕ) → t < link_room → T (counter_test (ltb t m) live (get_or cs t 0))) → T (gathered live)
    back live f =
        and_i (counters_hold m && (live || none_above m)) _
        (and_i (counters_hold m) _
        (at_below (λ t. is_counter (get_or cs t 0)) m (λ t l. and_l (is_counter (get_or cs t 0)) _ (there t l))) (go live f))
        (at_below (λ t. ltb t m || is_zero (get_or cs t 0)) link_room (λ t h. past t h (dec_lt t m)))
      where
        there : (t : ℕ) → t < m → T (is_counter (get_or cs t 0) && (live || eqb (get_or cs t 0) 1))
        there t l = subst (λ (b : Bool). T (counter_test b live (get_or cs t 0))) (lt-ltb t m l) (f t (omega arith))

        go : (live : Bool) → ((t : ℕ) → t < link_room → T (counter_test (ltb t m) live (get_or cs t 0))) → T (live || none_above m)
        go true f = tt
        go false f =
            at_below (λ t. leb (get_or cs t 0) 1) m (λ t l. is_T _ (le-leb (get_or cs t 0) 1
            (le_of_eq (eqb→eq (get_or cs t 0) 1 (and_r (is_counter (get_or cs t 0)) _
            (subst (λ (b : Bool). T (counter_test b false (get_or cs t 0))) (lt-ltb t m l) (f t (omega arith))))))))
          where
            le_of_eq : {c : ℕ} → c ≡ 1 → c ≤ 1
            le_of_eq e = omega arith

        past : (t : ℕ) → t < link_room → Dec (t < m) → T (ltb t m || is_zero (get_or cs t 0))
        past t h (yes l) = or_left (ltb t m) _ (is_T _ (lt-ltb t m l))
        past t h (no l) =
            let d = le-ltb t m (omega arith) in
            subst⁻¹ (λ (b : Bool). T (b || is_zero (get_or cs t 0))) d
            (subst (λ (b : Bool). T (counter_test b live (get_or cs t 0))) d (f t h))

    pub counters_are : (live : Bool) → gathered live ≡ every_place (λ t. counter_test (ltb t m) live (get_or cs t 0))
    counters_are live =
        same_test (gathered live) (every_place (λ t. counter_test (ltb t m) live (get_or cs t 0)))
        (λ u. at_place (λ t. counter_test (ltb t m) live (get_or cs t 0)) (λ t h. forth live u t h (dec_lt t m)))
        (λ u. back live (place_at (λ t. counter_test (ltb t m) live (get_or cs t 0)) u))

-- ---- a station, in the order in which the code asks
module _ (links own : ℕ) (st : Station) (r : Bool)
    (d : r ≡ every_place (λ t. marks_test st.condition (in_word own t) (marks_at st.marks t))) where
  abbrev counter_place : ℕ → ℕ → Bool
  counter_place m t = counter_test (ltb t m) (is_live st.condition) (get_or st.counters t 0)

  pub mismarked : r ≡ false → false ≡ station_test links own st
  unfolding station_test
  mismarked q = ap (λ (b : Bool). b && every_place (counter_place (min links link_room))) (sym q ∙ d)

  -- by what was gathered up to the places where the loops end, v being what the test comes to before it asks for the counters beyond
  pub by_counters : r ≡ true → (m : ℕ) → m ≡ min links link_room → (k : ℕ) → k ≡ m → (j : ℕ) → m + j ≡ link_room → (w a b v : Bool)
      → w ≡ counters_hold st.counters m k → a ≡ none_above st.counters m k → b ≡ none_beyond st.counters m (m + j)
      → v ≡ (w && (is_live st.condition || a))
      → (v && b) ≡ station_test links own st
  unfolding station_test
  by_counters q m em k ek j ej w a b v ew ea eb ev =
      ap (λ (x : Bool). x && b)
      (ev ∙ ap₂ (λ (x y : Bool). x && (is_live st.condition || y)) (ew ∙ ap (counters_hold st.counters m) ek)
      (ea ∙ ap (none_above st.counters m) ek))
      ∙ ap (λ (x : Bool). (counters_hold st.counters m m && (is_live st.condition || none_above st.counters m m)) && x)
      (eb ∙ ap (none_beyond st.counters m) ej)
      ∙ counters_are st.counters m few (is_live st.condition)
      ∙ ap (λ (n : ℕ). every_place (counter_place n)) em
      ∙ ap (λ (x : Bool). x && every_place (counter_place (min links link_room))) (sym q ∙ d)
    where
      few : m ≤ link_room
      few = omega arith
