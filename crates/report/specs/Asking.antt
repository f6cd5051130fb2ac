-- The number that refuses whoever asks a station, in the world's words, and what the steps of the code answer. Document 01, "The
-- numbers that say no".
use Rattle.std.specs.Prelude.{ℕ, Bool, ltb, Result, Ok, Err, if◌then◌else◌}
use Rattle.station.specs.declared.Condition.{Condition}
use Rattle.station.specs.Holding.{is_live}
use Rattle.world.specs.World.{ask_refusal}
use Rattle.state.specs.declared.State.{State}
use Rattle.state.specs.State.{world_of, state_holds}
use Rattle.report.specs.declared.Refusal.{Refusal}
use Rattle.report.specs.declared.Refusal.TheVariants.{BadState, NoStation, NotLive, OutputShort}

-- 11 where the state isn't well formed, then 6 for no such station, 7 for one that isn't live
unfoldable pub number_of : State → ℕ → ℕ
number_of s a = if state_holds s then ask_refusal (world_of s) a else 11

-- ---- what an answer means: the paper's number of each refusal, 0 where there is none
abbrev pub refusal_number : Refusal → ℕ
refusal_number BadState = 11
refusal_number NoStation = 6
refusal_number NotLive = 7
refusal_number OutputShort = 10

abbrev pub number_in : {A : Type 0} → Result A Refusal → ℕ
number_in (Ok x) = 0
number_in (Err e) = refusal_number e

-- ---- the steps
abbrev pub number_by : Bool → ℕ → ℕ → Condition → ℕ
number_by good stations a condition =
    if good then (if ltb a stations then (if is_live condition then 0 else 7) else 6) else 11
