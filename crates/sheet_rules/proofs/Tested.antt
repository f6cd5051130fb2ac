-- The sheet rules, as the code tests them.
use Rattle.std.specs.Prelude.{Option, Some, if◌then◌else◌}
use Prim.Native.Nat.{ℕ, zero, suc, ◌+◌, ◌-◌, ◌≤◌, ◌<◌, min}
use mathlib.Core.Bool.{Bool, true, false, ◌&&◌}
use mathlib.Core.Path.{◌≡◌, sym, ap, ap₂, ◌∙◌, subst, subst⁻¹}
use mathlib.Core.List.{List}
use native.Mathlib.Decide.{dec_lt}
use native.Mathlib.Numerals.{add-one}
use native.Mathlib.Omega.{arith}
use lib.Dec.{T, ltb}
use lib.ListN.{length, get_or, drop, length-drop}
use lib.Seq.{get_or-drop}
use borrow.Author.Tests.{lt-ltb, le-ltb, le-leb, lt-leb}
use Rattle.lists.specs.Lists.{every, below}
use Rattle.lists.proofs.Tests.{and_no, and_l, and_r, and_i, same_test, every_at, at_every}
use Rattle.lists.proofs.Numbers.{below_at, at_below}
use Rattle.net.specs.declared.Net.{Net}
use Rattle.net.specs.Network.{Ends, ends}
use Rattle.net.specs.Values.{network_of, place_ends, link_count, is_zero}
use Rattle.sheet_rules.specs.Rules.{precedes, ends_hold, link_holds, sheet_holds}
use Rattle.sheet_rules.specs.Values.{net_holds}
use Rattle.sheet_rules.specs.Steps.{before_at, follows, place_test}
use Rattle.net.specs.Sizes.{station_room, link_room}
use Rattle.net.proofs.ValueLaws.{stations_of, links_of_lem, ends_of}
use Rattle.sheet_rules.proofs.Rules.{after}

-- ---- the links, one after the other
module _ (net : Net) where
  link_is : (k : ℕ) → k < link_count net
      → link_holds (network_of net) k ≡ follows (min net.stations station_room) (before_at net k) (get_or net.low k 0) (get_or net.high k 0)
  link_is zero h =
      ap (λ (x : Ends). ends_hold (network_of net).stations x && true) (ends_of net 0 h)
      ∙ ap (λ (n : ℕ). ends_hold n (place_ends net 0) && true) (stations_of net)
  link_is (suc k) h =
      ap (λ (b : Bool). ends_hold (network_of net).stations (ends (network_of net) (suc k)) && b) (after (network_of net) k)
      ∙ ap₂ (λ (x y : Ends). ends_hold (network_of net).stations y && precedes x y) (ends_of net k (omega arith)) (ends_of net (suc k) h)
      ∙ ap (λ (n : ℕ). ends_hold n (place_ends net (suc k)) && precedes (place_ends net k) (place_ends net (suc k))) (stations_of net)

  -- what a place must be
  abbrev pub place_holds : ℕ → Bool
  place_holds k =
      if ltb k (link_count net) then link_holds (network_of net) k else (is_zero (get_or net.low k 0) && is_zero (get_or net.high k 0))

  -- what the code's answer says of place k
  pub place_seen : (k : ℕ) (before : Option (ℕ × ℕ)) (r x : Bool) → net.stations ≤ station_room → net.links ≤ link_room
      → before ≡ before_at net k → r ≡ place_test net.links net.stations k before (get_or net.low k 0) (get_or net.high k 0) → r ≡ x
      → place_holds k ≡ x
  place_seen k before r x few small b p q = go (dec_lt k net.links) ∙ sym p ∙ q
    where
      lo : ℕ
      lo = get_or net.low k 0

      hi : ℕ
      hi = get_or net.high k 0

      go : Dec (k < net.links) → place_holds k ≡ place_test net.links net.stations k before lo hi
      go (yes h) =
          let l : k < link_count net = omega arith in
          let n : min net.stations station_room ≡ net.stations = omega arith in
          simp (lt-ltb k (link_count net) l, lt-ltb k net.links h)
          (link_is k l ∙ ap (λ (m : ℕ). follows m (before_at net k) lo hi) n
          ∙ ap (λ (e : Option (ℕ × ℕ)). follows net.stations e lo hi) (sym b))
      go (no h) =
          let l : link_count net ≤ k = omega arith in
          let g : net.links ≤ k = omega arith in
          simp (le-ltb k (link_count net) l, le-ltb k net.links g)

  -- behind place k, the link before is that at k
  pub before_more : (k : ℕ) → Some (get_or net.low k 0, get_or net.high k 0) ≡ before_at net (k + 1)
  before_more k = ap (before_at net) (sym (add-one k))

  -- ---- the whole network
  pub few_stations : net.stations < 1 → false ≡ net_holds net
  unfolding net_holds sheet_holds
  few_stations h =
      let e : (network_of net).stations < 1 = subst (λ (n : ℕ). n < 1) (sym (stations_of net)) (omega arith) in
      simp (lt-leb 1 (network_of net).stations e, and_no)

  pub many_stations : station_room < net.stations → false ≡ net_holds net
  unfolding net_holds
  many_stations h = simp (lt-leb net.stations station_room h)

  pub many_links : link_room < net.links → false ≡ net_holds net
  unfolding net_holds
  many_links h = simp (lt-leb net.links link_room h, and_no)

  rules : 1 ≤ net.stations → net.stations ≤ station_room → net.links ≤ link_room
      → sheet_holds (network_of net) ≡ every (link_holds (network_of net)) (below (link_count net))
  unfolding sheet_holds
  rules l h k =
      let e = stations_of net in
      simp (
        le-leb 1 (network_of net).stations (omega arith),
        le-leb (network_of net).stations station_room (omega arith),
        links_of_lem net,
        le-leb
            (link_count net) link_room (omega arith),
      )

  rest : 1 ≤ net.stations → net.stations ≤ station_room → net.links ≤ link_room
      → net_holds net ≡ (every (link_holds (network_of net)) (below (link_count net)) && every is_zero (drop (link_count net) net.low) && every
      is_zero (drop (link_count net) net.high))
  unfolding net_holds
  rest l h k = simp (le-leb net.stations station_room h, le-leb net.links link_room k, rules l h k)

  -- once the sizes are good, every place has to hold
  pub holds_places : 1 ≤ net.stations → net.stations ≤ station_room → net.links ≤ link_room
      → length net.low ≡ link_room → length net.high ≡ link_room → every place_holds (below link_room) ≡ net_holds net
  holds_places l h k ll lh = same_test _ _ whole parts ∙ sym (rest l h k)
    where
      m : ℕ
      m = link_count net

      links : Bool
      links = every (link_holds (network_of net)) (below m)

      lows : Bool
      lows = every is_zero (drop m net.low)

      highs : Bool
      highs = every is_zero (drop m net.high)

      -- place j, by whether it is used
      used : (j : ℕ) → j < m → place_holds j ≡ link_holds (network_of net) j
      used j g = simp (lt-ltb j (link_count net) g)

      unused : (j : ℕ) → m ≤ j → place_holds j ≡ (is_zero (get_or net.low j 0) && is_zero (get_or net.high j 0))
      unused j g = simp (le-ltb j (link_count net) g)

      tail : (room : List ℕ) → length room ≡ link_room → ((j : ℕ) → m ≤ j → j < link_room → T (is_zero (get_or room j 0)))
          → T (every is_zero (drop m room))
      tail room e f =
          at_every is_zero (drop m room) 0 (λ i g. subst⁻¹ (λ (x : ℕ). T (is_zero x)) (get_or-drop m room i 0)
          (f (m + i) (omega arith) (omega (arith, g, length-drop m room))))

      whole : T (every place_holds (below link_room)) → T (links && lows && highs)
      whole t =
          let at = below_at place_holds link_room t in
          and_i (links && lows) _
          (and_i links lows (at_below (link_holds (network_of net)) m (λ j g. subst T (used j g) (at j (omega arith))))
          (tail net.low ll (λ j g n. and_l (is_zero (get_or net.low j 0)) _ (subst T (unused j g) (at j n)))))
          (tail net.high lh (λ j g n. and_r (is_zero (get_or net.low j 0)) _ (subst T (unused j g) (at j n))))

      back : (room : List ℕ) (j : ℕ) → length room ≡ link_room → m ≤ j → j < link_room → T (every is_zero (drop m room))
          → T (is_zero (get_or room j 0))
      back room j e g n t =
          let i : ℕ = j - m in
          let z : T (is_zero (get_or (drop m room) i 0)) = every_at is_zero (drop m room) i 0 t (omega (arith, length-drop m room)) in
          subst (λ (x : ℕ). T (is_zero x)) (get_or-drop m room i 0 ∙ ap (λ (x : ℕ). get_or room x 0) (omega arith)) z

      parts : T (links && lows && highs) → T (every place_holds (below link_room))
      parts t =
          let u = and_l (links && lows) _ t in
          at_below place_holds link_room (λ j n. place j n (and_l links lows u) (and_r links lows u) (and_r (links && lows) _ t) (dec_lt j m))
        where
          place : (j : ℕ) → j < link_room → T links → T lows → T highs → Dec (j < m) → T (place_holds j)
          place j n a b c (yes g) = subst⁻¹ T (used j g) (below_at (link_holds (network_of net)) m a j g)
          place j n a b c (no g) =
              let g' : m ≤ j = omega arith in
              subst⁻¹ T (unused j g') (and_i (is_zero (get_or net.low j 0)) _ (back net.low j ll g' n b) (back net.high j lh g' n c))
