-- What a step of the network answers: the world's step of what the state means, laid out in zero room.
use Rattle.std.specs.Prelude.{ℕ, eqb, if◌then◌else◌}
use Rattle.station.specs.Events.{counting}
use Rattle.world.specs.World.{Event, comes, refusal, after}
use Rattle.state.specs.declared.State.{State}
use Rattle.state.specs.State.{world_of, state_of, state_holds}
use Rattle.step_rules.specs.declared.Stepped.{Stepped}

abbrev pub event : ℕ → ℕ → ℕ → Event
event kind a b = record { kind = kind; a = a; b = b }

-- a refusal hands back the state that it was given
abbrev pub refusing : ℕ → State → Stepped
refusing n s = record { answer = n; counts = counting 0 0 0; state = s }

abbrev pub accepting : State → Event → Stepped
accepting s e = record { answer = 0; counts = (comes (world_of s) e).counts; state = state_of s.net (after (world_of s) e) }

-- 11 where the state isn't well formed, then the world's refusals in their order
unfoldable pub number_of : State → Event → ℕ
number_of s e = if state_holds s then refusal (world_of s) e else 11

unfoldable pub stepped_of : State → ℕ → ℕ → ℕ → Stepped
stepped_of s kind a b =
    if eqb (number_of s (event kind a b)) 0 then accepting s (event kind a b) else refusing (number_of s (event kind a b)) s
