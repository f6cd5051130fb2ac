-- "The last newline may be missing": where the input ends inside a line, that line ends too.
use Rattle.std.specs.Prelude.{Bool, ◌||◌, not, eqb}
use Rattle.event_lines.specs.declared.Reading.{Reading}

-- a byte of the line under way is read
abbrev pub is_begun : Reading → Bool
is_begun r = not (eqb r.place 0) || not (eqb r.digits 0)
