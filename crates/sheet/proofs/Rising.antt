-- The sheet rules along the list of links: each is good and comes after the one before it.
use Prim.Native.Nat.{ℕ, zero, suc, ◌≤◌, ◌<◌}
use mathlib.Core.Bool.{Bool, true, ◌&&◌}
use mathlib.Core.List.{List, [], ◌∷◌}
use native.Mathlib.Nat.{not-suc-le-zero, le_of_suc-le-suc}
use native.Mathlib.Omega.{arith}
use lib.Dec.{T, leb, ltb, lt→ltb, leb→le, le→leb}
use lib.ListN.{length, get_or}
use Rattle.lists.proofs.Tests.{and_l, and_r, and_i, or_left}
use Rattle.net.specs.Network.{Ends, Network, ends}
use Rattle.net.specs.Sizes.{station_room, link_room}
use Rattle.sheet_rules.specs.Rules.{precedes, ends_hold, sheet_holds}
use Rattle.sheet_rules.proofs.Rules.{lower_first, Rules, rules_of, of_rules}
use Rattle.sheet.specs.Sheet.{stations_hold, no_link}

abbrev pub rising : ℕ → Ends → List Ends → Bool
rising n prev [] = true
rising n prev (e ∷ es) = ends_hold n e && precedes prev e && rising n e es

module _ (n : ℕ) where
  abbrev At : Ends → List Ends → ℕ → Type 0
  At prev es k = T (ends_hold n (get_or es k no_link)) × T (precedes (get_or (prev ∷ es) k no_link) (get_or es k no_link))

  rising_at : (prev : Ends) (es : List Ends) → T (rising n prev es) → (k : ℕ) → k < length es → At prev es k
  rising_at prev [] t k h = absurd (not-suc-le-zero h)
  rising_at prev (e ∷ es) t zero h =
      let u = and_l (ends_hold n e && precedes prev e) _ t in (and_l (ends_hold n e) _ u, and_r (ends_hold n e) _ u)
  rising_at prev (e ∷ es) t (suc k) h = rising_at e es (and_r (ends_hold n e && precedes prev e) _ t) k (le_of_suc-le-suc h)

  at_rising : (prev : Ends) (es : List Ends) → ((k : ℕ) → k < length es → At prev es k) → T (rising n prev es)
  at_rising prev [] f = tt
  at_rising prev (e ∷ es) f =
      let h = f 0 (omega arith) in
      and_i (ends_hold n e && precedes prev e) _ (and_i (ends_hold n e) _ h.0 h.1) (at_rising e es (λ k l. f (suc k) (omega arith)))

  -- every good link comes after 0, 0
  first_any : (e : Ends) → T (ends_hold n e) → T (precedes no_link e)
  first_any e t = go e.low e.high (lower_first n e t)
    where
      go : (a b : ℕ) → a < b → T (precedes no_link (record { low = a; high = b }))
      go zero b h = lt→ltb 0 b h
      go (suc a) b h = or_left (ltb 0 (suc a)) _ (lt→ltb 0 (suc a) (omega arith))

-- the sheet rules, by the parts that a reader of bytes meets
pub record Risen (net : Network) : Type 0 where
  pub count : T (stations_hold net.stations)
  pub few : length net.links ≤ link_room
  pub order : T (rising net.stations no_link net.links)

module _ (net : Network) where
  abbrev stations : ℕ
  stations = net.stations

  pub risen_of : T (sheet_holds net) → Risen net
  risen_of t =
      record {
        count = and_i (leb 1 stations) _ (le→leb 1 stations r.some_stations) (le→leb stations station_room r.few_stations);
        few = r.few_links;
        order = at_rising stations no_link net.links one;
      }
    where
      r : Rules net
      r = rules_of net t

      one : (k : ℕ) → k < length net.links → At stations no_link net.links k
      one zero h = (r.good_ends 0 h, first_any stations (ends net 0) (r.good_ends 0 h))
      one (suc k) h = (r.good_ends (suc k) h, r.in_order k h)

  pub of_risen : Risen net → T (sheet_holds net)
  of_risen r =
      let at = rising_at stations no_link net.links r.order in
      of_rules net (record {
        some_stations = leb→le 1 stations (and_l (leb 1 stations) _ r.count);
        few_stations = leb→le stations station_room (and_r (leb 1 stations) _ r.count);
        few_links = r.few;
        good_ends = λ k h. (at k h).0;
        in_order = λ k h. (at (suc k) h).1;
      })
