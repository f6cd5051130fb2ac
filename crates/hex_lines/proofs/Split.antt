-- The reader of hexadecimal lines takes the bytes of a text one by one and answers for each of its lines, in order.
use Prim.Native.Nat.{ℕ}
use mathlib.Core.Bool.{false}
use mathlib.Core.Path.{◌≡◌}
use mathlib.Core.List.{List, map}
use Rattle.event_lines.specs.Split.{lines_of, answers}
use Rattle.event_lines.proofs.Split.{each_line}
use Rattle.hex_lines.specs.declared.HexReading.{HexReading}
use Rattle.hex_lines.specs.Hex.{HexText, hex_line}
use Rattle.hex_lines.specs.HexSteps.{hex_start, read_hex, hex_end, hex_says}
use Rattle.hex_lines.proofs.Hex.{read_hex_line}

-- what a hexadecimal line says that ends here
abbrev pub hex_answer : HexReading → HexText
hex_answer r = hex_says (hex_end r) r.bytes

pub hex_lines : (bytes : List ℕ) → answers hex_start read_hex hex_answer hex_start false bytes ≡ map hex_line (lines_of bytes)
hex_lines = each_line hex_start read_hex hex_answer hex_line read_hex_line
