-- The sheet rules as facts, both ways: what a network that keeps them has, and what shows that one keeps them.
use Prim.Native.Nat.{ℕ, zero, suc, ◌-◌, ◌≤◌, ◌<◌}
use mathlib.Core.Bool.{Bool, true, ◌&&◌, ◌||◌}
use mathlib.Core.Path.{◌≡◌, ap, ◌∙◌, subst, subst⁻¹}
use native.Mathlib.Omega.{arith}
use lib.Dec.{T, eqb, leb, ltb, leb→le, le→leb, ltb→lt, lt→ltb, eqb-suc-zero}
use lib.ListN.{length}
use Rattle.lists.proofs.Tests.{and_l, and_r, and_i}
use Rattle.lists.proofs.Numbers.{below_at, at_below}
use Rattle.net.specs.Network.{Ends, Network, ends}
use Rattle.net.specs.Sizes.{station_room, link_room}
use Rattle.sheet_rules.specs.Rules.{precedes, ends_hold, link_holds, sheet_holds}

-- ---- two ends
module _ (n : ℕ) (e : Ends) where
  pub lower_first : T (ends_hold n e) → e.low < e.high
  lower_first t = ltb→lt e.low e.high (and_l (ltb e.low e.high) _ t)

  pub higher_there : T (ends_hold n e) → e.high < n
  higher_there t = ltb→lt e.high n (and_r (ltb e.low e.high) _ t)

  pub of_ends : e.low < e.high → e.high < n → T (ends_hold n e)
  of_ends p q = and_i (ltb e.low e.high) _ (lt→ltb e.low e.high p) (lt→ltb e.high n q)

-- ---- the whole network
pub record Rules (net : Network) : Type 0 where
  pub some_stations : 1 ≤ net.stations
  pub few_stations : net.stations ≤ station_room
  pub few_links : length net.links ≤ link_room
  pub good_ends : (k : ℕ) → k < length net.links → T (ends_hold net.stations (ends net k))
  pub in_order : (k : ℕ) → suc k < length net.links → T (precedes (ends net k) (ends net (suc k)))

module _ (net : Network) where
  abbrev n : ℕ
  n = net.stations

  abbrev m : ℕ
  m = length net.links

  -- a link after the first comes after the one before it
  pub after : (k : ℕ) → (eqb (suc k) 0 || precedes (ends net (suc k - 1)) (ends net (suc k))) ≡ precedes (ends net k) (ends net (suc k))
  after k =
      let p : suc k - 1 ≡ k = omega arith in
      ap (λ (b : Bool). b || precedes (ends net (suc k - 1)) (ends net (suc k))) (eqb-suc-zero k)
      ∙ ap (λ (j : ℕ). precedes (ends net j) (ends net (suc k))) p

  pub rules_of : T (sheet_holds net) → Rules net
  unfolding sheet_holds
  rules_of t =
      let sizes = and_l (leb 1 n && leb n station_room && leb m link_room) _ t in
      let count = and_l (leb 1 n && leb n station_room) _ sizes in
      let link = below_at (link_holds net) m (and_r (leb 1 n && leb n station_room && leb m link_room) _ t) in
      record {
        some_stations = leb→le 1 n (and_l (leb 1 n) _ count);
        few_stations = leb→le n station_room (and_r (leb 1 n) _ count);
        few_links = leb→le m link_room (and_r (leb 1 n && leb n station_room) _ sizes);
        good_ends = λ k h. and_l (ends_hold n (ends net k)) _ (link k h);
        in_order = λ k h. subst T (after k) (and_r (ends_hold n (ends net (suc k))) _ (link (suc k) h));
      }

  pub of_rules : Rules net → T (sheet_holds net)
  unfolding sheet_holds
  of_rules r =
      and_i (leb 1 n && leb n station_room && leb m link_room) _
      (and_i (leb 1 n && leb n station_room) _ (and_i (leb 1 n) _ (le→leb 1 n r.some_stations) (le→leb n station_room r.few_stations))
      (le→leb m link_room r.few_links))
      (at_below (link_holds net) m (λ k h. one k h))
    where
      one : (k : ℕ) → k < m → T (link_holds net k)
      one zero h = and_i (ends_hold n (ends net 0)) true (r.good_ends 0 h) tt
      one (suc k) h = and_i (ends_hold n (ends net (suc k))) _ (r.good_ends (suc k) h) (subst⁻¹ T (after k) (r.in_order k h))
