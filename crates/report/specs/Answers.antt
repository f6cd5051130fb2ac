-- What the call answers, in the world's words: the reach. Document 01, "The numbers that say no".
use Rattle.std.specs.Prelude.{ℕ, eqb, Result, Ok, Err, if◌then◌else◌}
use Rattle.reach.specs.declared.Reached.{Reached}
use Rattle.world.specs.World.{reach_at}
use Rattle.state.specs.declared.State.{State}
use Rattle.state.specs.State.{world_of}
use Rattle.report.specs.declared.Refusal.{Refusal}
use Rattle.report.specs.Asking.{number_of, refusal_number}

-- a number, and on 0 the reach
pub record Asked : Type 0 where
  pub answer : ℕ
  pub reached : Reached

-- beside a refusal there is none
abbrev pub no_reach : Reached
no_reach = record { word = 0; ones = 0; lowest = 0 }

unfoldable pub asked_of : State → ℕ → Asked
asked_of s a =
    if eqb (number_of s a) 0 then (record { answer = 0; reached = reach_at (world_of s) a })
    else (record { answer = number_of s a; reached = no_reach })

-- what an answer of the code means
abbrev pub asked_in : Result Reached Refusal → Asked
asked_in (Ok r) = record { answer = 0; reached = r }
asked_in (Err e) = record { answer = refusal_number e; reached = no_reach }
