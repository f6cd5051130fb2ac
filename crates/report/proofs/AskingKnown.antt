-- What the two calls know of the state: the number that they decide, and that what they read in it is what the world has.
use Rattle.std.specs.Prelude.{if◌then◌else◌}
use Prim.Native.Nat.{ℕ, ◌<◌}
use mathlib.Core.Bool.{Bool, true, false, not}
use mathlib.Core.Path.{◌≡◌, refl, sym, ap, ◌∙◌}
use native.Mathlib.Decide.{dec_lt}
use native.Mathlib.Omega.{arith}
use borrow.Author.Tests.{lt-ltb, le-ltb}
use lib.Dec.{T, ltb}
use Rattle.lists.proofs.Tests.{is_T}
use Rattle.net.specs.Network.{Network}
use Rattle.net.specs.Values.{network_of}
use Rattle.net.specs.Sizes.{station_room}
use Rattle.reach.specs.Values.{table_of}
use Rattle.station.specs.Holding.{Holding, is_live}
use Rattle.station.specs.Values.{holding_of}
use Rattle.station.proofs.Laid.{table_of_lem, condition_of}
use Rattle.world.specs.World.{World, holding_at, ask_refusal}
use Rattle.state.specs.declared.State.{State}
use Rattle.state.specs.State.{station_in, world_of, state_holds, Sized}
use Rattle.state.proofs.Meaning as M
use Rattle.report.specs.Asking.{number_of, number_by, refusal_number}
use Rattle.report.specs.declared.Refusal.{Refusal}
use Rattle.report.specs.declared.Refusal.TheVariants.{BadState, NoStation, NotLive, OutputShort}
use Rattle.sets.specs.Rooms.{in_room}

-- ---- a well-formed state
module _ (s : State) (z : Sized s) (t : T (state_holds s)) where
  abbrev w : World
  w = world_of s

  pub world_net : w.net ≡ network_of s.net
  world_net = M.net_is s z t

  pub world_stations : w.net.stations ≡ s.net.stations
  world_stations = ap (λ (n : Network). n.stations) world_net ∙ M.count_is s z t

  module _ (a me : ℕ) (pe : me ≡ in_room a) where
    -- the station that a names stands at its place
    pub me_is : a < s.net.stations → me ≡ a
    me_is h = pe ∙ ap (λ (b : Bool). if b then a else 0) (lt-ltb a station_room (omega (arith, M.few s z t)))

    module _ (h : a < s.net.stations) where
      holding_is : holding_at w a ≡ holding_of s.net (station_in s me)
      holding_is = M.world_holding s z t a h ∙ ap (λ (k : ℕ). holding_of s.net (station_in s k)) (sym (me_is h))

      pub condition_is : (holding_at w a).condition ≡ (station_in s me).condition
      condition_is = ap (λ (x : Holding). x.condition) holding_is ∙ condition_of s.net (station_in s me)

      pub table_is : (holding_at w a).table ≡ table_of s.net (station_in s me).counters
      table_is = ap (λ (x : Holding). x.table) holding_is ∙ table_of_lem s.net (station_in s me)

    -- the world's number, as the code decides it
    ask_is : number_by true s.net.stations a (station_in s me).condition ≡ ask_refusal w a
    unfolding ask_refusal
    ask_is =
        go (dec_lt a s.net.stations) ∙ ap (λ (n : ℕ). if not (ltb a n) then 6
        else (if not (is_live (holding_at w a).condition) then 7 else 0)) (sym world_stations)
      where
        flip : (b : Bool) → ◌≡◌ {A = ℕ} (if b then 0 else 7) (if not b then 7 else 0)
        flip true = refl
        flip false = refl

        go : Dec (a < s.net.stations) → number_by true s.net.stations a
            (station_in s me).condition ≡ (if not (ltb a s.net.stations) then 6
            else (if not (is_live (holding_at w a).condition) then 7 else 0))
        go (yes h) = simp (lt-ltb a s.net.stations h, condition_is h) (flip (is_live (station_in s me).condition))
        go (no h) = let l = le-ltb a s.net.stations (omega arith) in simp l

-- ---- no refusal has the number 0
pub refuses : (e : Refusal) → refusal_number e ≡ 0 → ⊥
refuses BadState z = omega arith
refuses NoStation z = omega arith
refuses NotLive z = omega arith
refuses OutputShort z = omega arith

-- ---- what a call read: the test's answer, the place, and the number
pub record Read (s : State) (a : ℕ) (good : Bool) (me number : ℕ) : Type 0 where
  pub tested : good ≡ state_holds s
  pub sized : good ≡ true → Sized s
  pub place : me ≡ in_room a
  pub says : number ≡ number_by good s.net.stations a (station_in s me).condition

module _ {s : State} {a : ℕ} {good : Bool} {me number : ℕ} (r : Read s a good me number) where
  pub holds : good ≡ true → T (state_holds s)
  holds p = is_T _ (sym r.tested ∙ p)

  pub number_is : number ≡ number_of s a
  unfolding number_of
  number_is = r.says ∙ go good refl
    where
      go : (b : Bool) → good ≡ b → number_by good s.net.stations a
          (station_in s me).condition ≡ (if state_holds s then ask_refusal (world_of s) a else 11)
      go true p =
          ap (λ (b : Bool). number_by b s.net.stations a (station_in s me).condition) p ∙ ask_is s (r.sized p) (holds p) a me r.place
          ∙ ap (λ (b : Bool). if b then ask_refusal (world_of s) a else 11) (sym p ∙ r.tested)
      go false p =
          ap (λ (b : Bool). number_by b s.net.stations a (station_in s me).condition) p
          ∙ ap (λ (b : Bool). if b then ask_refusal (world_of s) a else 11) (sym p ∙ r.tested)

  -- where no number refuses, the state is well formed and the station is there
  module _ (q : number ≡ 0) where
    pub is_good : good ≡ true
    is_good = go good refl
      where
        go : (b : Bool) → good ≡ b → good ≡ true
        go true p = p
        go false p =
            let e : number ≡ 11 = r.says ∙ ap (λ (b : Bool). number_by b s.net.stations a (station_in s me).condition) p in absurd
            (omega arith)

    pub there : a < s.net.stations
    there = go (dec_lt a s.net.stations)
      where
        go : Dec (a < s.net.stations) → a < s.net.stations
        go (yes h) = h
        go (no h) =
            let l = le-ltb a s.net.stations (omega arith) in
            let e : number ≡ 6 = r.says ∙ simp (is_good, l) in
            absurd (omega arith)
