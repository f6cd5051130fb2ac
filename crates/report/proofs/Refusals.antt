-- Each number that says no to the reach and to the report alike, when and only when document 01's list says, in the words of the
-- state that is asked. For every state and station; the report's own 10: ReportsRefusals.antt.
use Rattle.std.specs.Prelude.{if◌then◌else◌}
use Prim.Native.Nat.{ℕ, ◌≤◌, ◌<◌}
use mathlib.Core.Bool.{Bool, not, ◌&&◌}
use mathlib.Core.Path.{◌≡◌, refl, sym, ap, ◌∙◌, subst, subst⁻¹}
use mathlib.Core.List.{List, map}
use native.Mathlib.Decide.{dec_lt}
use native.Mathlib.Omega.{arith}
use borrow.Author.Tests.{lt-ltb, le-ltb}
use lib.Dec.{T, leb, ltb, ltb→lt}
use lib.ListN.{length, get_or, take, length-map, length-take, get_or-map, get_or-eq_default}
use lib.Seq.{get_or-take, take-nil}
use Rattle.lists.proofs.Tests.{T_is, T_not_is, is_T, and_l, if_elim}
use Rattle.lists.proofs.Fill.{get_d_any}
use Rattle.net.specs.Network.{Network}
use Rattle.net.specs.Values.{network_of, link_count}
use Rattle.net.specs.Sizes.{letter_room}
use Rattle.sheet_rules.specs.Values.{net_holds}
use Rattle.sheet_rules.proofs.Good as Good
use Rattle.reach.specs.Values.{table_of}
use Rattle.station.specs.declared.Condition.{Condition}
use Rattle.station.specs.declared.Station.{Station}
use Rattle.station.specs.Holding.{Holding, is_live}
use Rattle.station.specs.Values.{holding_of}
use Rattle.world.specs.World.{nobody, holding_at, ask_refusal}
use Rattle.world.proofs.Steps as W
use Rattle.state.specs.declared.State.{State}
use Rattle.state.specs.State.{beyond, station_in, world_of, stations_hold, letters_hold, state_holds}
use Rattle.report.specs.Asking.{number_of}

-- the state is well formed, the station is there and live
pub record Asks (s : State) (a : ℕ) : Type 0 where
  pub good : T (state_holds s)
  pub station : a < s.net.stations
  pub live : T (is_live (station_in s a).condition)

-- ---- the world of a state: what the station a has there is what its place holds
module _ (s : State) where
  pub net_is : (world_of s).net ≡ network_of s.net
  unfolding world_of
  net_is = refl

  module _ (a : ℕ) (h : a < (network_of s.net).stations) where
    abbrev used : List Station
    used = take (network_of s.net).stations s.stations

    -- beyond the places there is nothing in either
    seen : {A : Type 0} (f : Holding → A) → f nobody ≡ f (holding_of s.net beyond)
        → f (holding_at (world_of s) a) ≡ f (holding_of s.net (station_in s a))
    unfolding world_of
    seen f e = go (dec_lt a (length used))
      where
        go : Dec (a < length used) → f (get_or (map (holding_of s.net) used) a nobody) ≡ f (holding_of s.net (station_in s a))
        go (yes l) =
            ap f (get_d_any (map (holding_of s.net) used) a nobody (holding_of s.net beyond)
            (omega (arith, length-map used (holding_of s.net)))
            ∙ get_or-map (holding_of s.net) used a beyond
            ∙ ap (holding_of s.net) (get_or-take (network_of s.net).stations s.stations a beyond h))
        go (no l) =
            ap f (get_or-eq_default (map (holding_of s.net) used) nobody {n = a} (omega (arith, length-map used (holding_of s.net))))
            ∙ e
            ∙ ap (λ (x : Station). f (holding_of s.net x))
            (sym (get_or-eq_default s.stations beyond {n = a}
            (omega (arith, length-take (network_of s.net).stations s.stations))))

    pub table_is : (holding_at (world_of s) a).table ≡ table_of s.net (station_in s a).counters
    unfolding holding_of
    table_is = seen (λ x. x.table) (sym (take-nil (link_count s.net)))

    condition_is : (holding_at (world_of s) a).condition ≡ (station_in s a).condition
    unfolding holding_of
    condition_is = seen (λ x. x.condition) refl

  module _ (t : T (state_holds s)) where
    good_net : T (net_holds s.net)
    unfolding state_holds
    good_net =
        and_l (net_holds s.net) (leb s.flying letter_room)
        (and_l (net_holds s.net && leb s.flying letter_room) (stations_hold s && letters_hold s) t)

    pub stations_are : (network_of s.net).stations ≡ s.net.stations
    stations_are = Good.stations_are s.net good_net

    pub links_are : length (network_of s.net).links ≡ s.net.links
    links_are = Good.links_are s.net good_net

-- ---- 11, 6 and 7, which the reach and the report share
module _ (s : State) (a : ℕ) where
  pub data Why : ℕ → Type 0 where
    none : Asks s a → Why 0
    eleven : T (not (state_holds s)) → Why 11
    six : T (state_holds s) → s.net.stations ≤ a → Why 6
    seven : T (state_holds s) → a < s.net.stations → T (not (is_live (station_in s a).condition)) → Why 7

  abbrev stations : ℕ
  stations = (world_of s).net.stations

  module _ (g : T (state_holds s)) where
    world_stations : stations ≡ s.net.stations
    world_stations = ap (λ (n : Network). n.stations) (net_is s) ∙ stations_are s g

    condition_at : a < s.net.stations → (holding_at (world_of s) a).condition ≡ (station_in s a).condition
    condition_at h = condition_is s a (omega (arith, stations_are s g))

    told : {n : ℕ} → W.AskWhy (world_of s) a n → Why n
    told (W.none x y) =
        let h : a < s.net.stations = omega (arith, ltb→lt a stations x, world_stations) in
        none (record { good = g; station = h; live = subst (λ (c : Condition). T (is_live c)) (condition_at h) y })
    told (W.six x) = six g (le_of (dec_lt a s.net.stations))
      where
        le_of : Dec (a < s.net.stations) → s.net.stations ≤ a
        le_of (yes h) = absurd (subst (λ (b : Bool). T (not b)) (lt-ltb a stations (omega (arith, world_stations))) x)
        le_of (no h) = omega arith
    told (W.seven x y) =
        let h : a < s.net.stations = omega (arith, ltb→lt a stations x, world_stations) in
        seven g h (subst (λ (c : Condition). T (not (is_live c))) (condition_at h) y)

    good_number : {n : ℕ} → W.AskWhy (world_of s) a n → number_of s a ≡ n
    unfolding number_of
    good_number x = ap (λ (b : Bool). if b then ask_refusal (world_of s) a else 11) (T_is (state_holds s) g) ∙ W.why_ask (world_of s) a x

    is_there : a < s.net.stations → T (ltb a (world_of s).net.stations)
    is_there h = is_T _ (lt-ltb a stations (omega (arith, world_stations)))

  -- only then: the number is given for its reason
  pub number_why : Why (number_of s a)
  unfolding number_of
  number_why = if_elim Why (state_holds s) (λ g. told g (W.ask_why (world_of s) a)) eleven

  -- when: where the reason stands, the number is given
  pub why_number : {n : ℕ} → Why n → number_of s a ≡ n
  unfolding number_of
  why_number (none k) =
      good_number k.good (W.none (is_there k.good k.station)
      (subst⁻¹ (λ (c : Condition). T (is_live c)) (condition_at k.good k.station) k.live))
  why_number (eleven x) = ap (λ (b : Bool). if b then ask_refusal (world_of s) a else 11) (T_not_is (state_holds s) x)
  why_number (six g h) =
      good_number g (W.six (subst⁻¹ (λ (b : Bool). T (not b)) (le-ltb a stations (omega (arith, world_stations g))) tt))
  why_number (seven g h x) = good_number g (W.seven (is_there g h) (subst⁻¹ (λ (c : Condition). T (not (is_live c))) (condition_at g h) x))

  pub asks : number_of s a ≡ 0 → Asks s a
  asks q = go number_why q
    where
      go : {n : ℕ} → Why n → n ≡ 0 → Asks s a
      go (none k) e = k
      go (eleven x) e = absurd (omega arith)
      go (six g h) e = absurd (omega arith)
      go (seven g h x) e = absurd (omega arith)
