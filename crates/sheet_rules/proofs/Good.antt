-- A network value that keeps the sheet rules with its unused room zero, as facts, both ways: its sizes, a meaning that keeps the rules,
-- and no link that the meaning lacks. Such a value is determined by what it means.
use Prim.Native.Nat.{ℕ, ◌+◌, ◌-◌, ◌≤◌, ◌<◌}
use mathlib.Core.Bool.{◌&&◌}
use mathlib.Core.Path.{◌≡◌, sym, ap, ◌∙◌}
use mathlib.Core.List.{List}
use native.Mathlib.Decide.{dec_lt}
use native.Mathlib.Omega.{arith}
use lib.Dec.{T, leb, leb→le, le→leb, eqb→eq}
use lib.ListN.{length, get_or, drop, length-drop}
use lib.Seq.{ext_get_or, get_or-drop}
use Rattle.lists.specs.Lists.{every}
use Rattle.lists.proofs.Tests.{and_l, and_r, and_i, every_at}
use Rattle.net.specs.declared.Net.{Net}
use Rattle.net.specs.declared.Body.{Body}
use Rattle.net.specs.Network.{Ends, Network, ends}
use Rattle.net.specs.Letters.{body_holds}
use Rattle.net.specs.Values.{network_of, place_ends, link_count, is_zero, body_test}
use Rattle.net.specs.Sizes.{station_room, link_room}
use Rattle.net.proofs.ValueLaws.{stations_of, links_of_lem, ends_of}
use Rattle.net.proofs.Bodies.{body_is}
use Rattle.sheet_rules.specs.Rules.{sheet_holds}
use Rattle.sheet_rules.specs.Values.{net_holds}

pub record Holds (net : Net) : Type 0 where
  pub few_stations : net.stations ≤ station_room
  pub few_links : net.links ≤ link_room
  pub sheet : T (sheet_holds (network_of net))
  -- the unused room
  pub low_zero : T (every is_zero (drop (link_count net) net.low))
  pub high_zero : T (every is_zero (drop (link_count net) net.high))

module _ (net : Net) where
  pub holds_of : T (net_holds net) → Holds net
  unfolding net_holds
  holds_of t =
      let few = leb net.stations station_room in
      let sizes = few && leb net.links link_room in
      let sheet = sheet_holds (network_of net) in
      let lows = every is_zero (drop (link_count net) net.low) in
      let c = and_l (sizes && sheet && lows) _ t in
      let b = and_l (sizes && sheet) _ c in
      let a = and_l sizes _ b in
      record {
        few_stations = leb→le net.stations station_room (and_l few _ a);
        few_links = leb→le net.links link_room (and_r few _ a);
        sheet = and_r sizes _ b;
        low_zero = and_r (sizes && sheet) _ c;
        high_zero = and_r (sizes && sheet && lows) _ t;
      }

  pub of_holds : Holds net → T (net_holds net)
  unfolding net_holds
  of_holds h =
      let few = leb net.stations station_room in
      let sizes = few && leb net.links link_room in
      let sheet = sheet_holds (network_of net) in
      let lows = every is_zero (drop (link_count net) net.low) in
      and_i (sizes && sheet && lows) _
      (and_i (sizes && sheet) _ (and_i sizes _ (and_i few _ (le→leb net.stations station_room h.few_stations)
      (le→leb net.links link_room h.few_links)) h.sheet) h.low_zero)
      h.high_zero

module _ (net : Net) (t : T (net_holds net)) where
  pub few_places : net.links ≤ link_room
  few_places = (holds_of net t).few_links

  pub few_stations : net.stations ≤ station_room
  few_stations = (holds_of net t).few_stations

  pub sheet_good : T (sheet_holds (network_of net))
  sheet_good = (holds_of net t).sheet

  -- its meaning has as many links as the value says
  links_count : link_count net ≡ net.links
  links_count = omega (arith, few_places)

  pub links_are : length (network_of net).links ≡ net.links
  links_are = links_of_lem net ∙ links_count

  pub stations_are : (network_of net).stations ≡ net.stations
  stations_are = stations_of net ∙ omega (arith, few_stations)

  pub ends_are : (k : ℕ) → k < net.links → ends (network_of net) k ≡ place_ends net k
  ends_are k h = ends_of net k (omega (arith, few_places))

  pub bodies_are : (b : Body) → body_holds (network_of net) b ≡ body_test net.links b
  bodies_are b = sym (body_is net b) ∙ ap (λ (m : ℕ). body_test m b) links_count

  -- a place that no link uses is zero
  zero_at : (room : List ℕ) → T (every is_zero (drop (link_count net) room)) → (k : ℕ) → net.links ≤ k → k < length room → get_or room k 0 ≡ 0
  zero_at room z k l h =
      let m = link_count net in
      let d : m + (k - m) ≡ k = omega (arith, links_count) in
      ap (λ (x : ℕ). get_or room x 0) (sym d) ∙ sym (get_or-drop m room (k - m) 0)
      ∙ eqb→eq (get_or (drop m room) (k - m) 0) 0 (every_at is_zero (drop m room) (k - m) 0 z (omega (arith, links_count, length-drop m room)))

  pub low_zero : (k : ℕ) → net.links ≤ k → k < length net.low → get_or net.low k 0 ≡ 0
  low_zero = zero_at net.low (holds_of net t).low_zero

  pub high_zero : (k : ℕ) → net.links ≤ k → k < length net.high → get_or net.high k 0 ≡ 0
  high_zero = zero_at net.high (holds_of net t).high_zero

-- A VALUE THAT HOLDS IS DETERMINED BY THE NETWORK THAT IT MEANS.
module _ (v w : Net) (tv : T (net_holds v)) (tw : T (net_holds w)) (e : network_of v ≡ network_of w) where
  same_links : v.links ≡ w.links
  same_links = sym (links_are v tv) ∙ ap (λ (n : Network). length n.links) e ∙ links_are w tw

  same_stations : v.stations ≡ w.stations
  same_stations = sym (stations_are v tv) ∙ ap (λ (n : Network). n.stations) e ∙ stations_are w tw

  same_ends : (k : ℕ) → k < v.links → place_ends v k ≡ place_ends w k
  same_ends k h = sym (ends_are v tv k h) ∙ ap (λ (n : Network). ends n k) e ∙ ends_are w tw k (omega (arith, same_links))

  pub one_value : length v.low ≡ length w.low → length v.high ≡ length w.high → v ≡ w
  one_value l h =
      let lows = ext_get_or 0 v.low w.low l (λ k g. low k g (dec_lt k v.links)) in
      let highs = ext_get_or 0 v.high w.high h (λ k g. high k g (dec_lt k v.links)) in
      λ i. record { stations = same_stations i; links = same_links i; low = lows i; high = highs i }
    where
      low : (k : ℕ) → k < length v.low → Dec (k < v.links) → get_or v.low k 0 ≡ get_or w.low k 0
      low k g (yes u) = ap (λ (x : Ends). x.low) (same_ends k u)
      low k g (no u) = low_zero v tv k (omega arith) g ∙ sym (low_zero w tw k (omega (arith, same_links)) (omega (arith, l, g)))

      high : (k : ℕ) → k < length v.high → Dec (k < v.links) → get_or v.high k 0 ≡ get_or w.high k 0
      high k g (yes u) = ap (λ (x : Ends). x.high) (same_ends k u)
      high k g (no u) = high_zero v tv k (omega arith) g ∙ sym (high_zero w tw k (omega (arith, same_links)) (omega (arith, h, g)))
