-- A station's number that is read in the room of 32.
use Rattle.std.specs.Prelude.{ℕ, ltb, if◌then◌else◌}

-- one that has a place there; any other becomes 0
abbrev pub in_room : ℕ → ℕ
in_room n = if ltb n 32 then n else 0
