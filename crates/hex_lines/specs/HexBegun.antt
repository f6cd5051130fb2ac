-- "The last newline may be missing": where the input ends inside a line, that line ends too.
use Rattle.std.specs.Prelude.{Bool, not, eqb}
use Rattle.hex_lines.specs.declared.HexReading.{HexReading}

-- a byte of the line under way is read
abbrev pub is_hex_begun : HexReading → Bool
is_hex_begun r = not (eqb r.count 0)
