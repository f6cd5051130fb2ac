-- Where a line ends in a piece of the input.
use Rattle.std.specs.Prelude.{ℕ, suc, ◌+◌, Bool, true, false, List, [], ◌∷◌, eqb, drop, if◌then◌else◌, Option, Some, None}

-- the line at the front of the bytes to come: how many bytes it has before its newline, or as far as they go
abbrev pub line_size : List ℕ → ℕ
line_size [] = 0
line_size (b ∷ bytes) = if eqb b 10 then 0 else suc (line_size bytes)

-- whether there is that newline
abbrev pub line_ends : List ℕ → Bool
line_ends [] = false
line_ends (b ∷ bytes) = if eqb b 10 then true else line_ends bytes

-- where the line ends that begins or goes on at a place: the place of its newline, if there is one
unfoldable pub end_from : List ℕ → ℕ → Option ℕ
end_from bytes from = if line_ends (drop from bytes) then Some (from + line_size (drop from bytes)) else None
