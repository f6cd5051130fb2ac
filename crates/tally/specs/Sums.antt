-- Counts of 64 bits that stay at their largest value once there, and the tally after a step.
use Rattle.std.specs.Prelude.{ℕ, ◌+◌, ◌-◌, ◌^◌, min}
use Rattle.tally.specs.declared.Tally.{Tally}

-- the largest value of 64 bits
abbrev pub largest : ℕ
largest = 2 ^ 64 - 1

-- a count with n more
abbrev pub added : ℕ → ℕ → ℕ
added count n = min (count + n) largest

-- the tally after a step that settled, raised and dropped so many
abbrev pub tallied : Tally → Tally → Tally
tallied t n =
    record { settled = added t.settled n.settled; raised = added t.raised n.raised; dropped = added t.dropped n.dropped }
