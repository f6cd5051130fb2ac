-- What the code answers for a piece of the input, and for every network value. proofs/Program.antt: the pieces of an input give what
-- specs/Wire.antt says of the whole of it.
use Rattle.std.specs.Prelude.{ℕ, ◌*◌, List, length}
use Rattle.fields.specs.Output.{Writing, denied, writes, with_room}
use Rattle.hex_lines.specs.declared.HexReading.{HexReading}
use Rattle.hex_lines.specs.Hex.{HexText, malformed, octets}
use Rattle.hex_lines.specs.HexSteps.{hex_start, read_hex, hex_end, hex_says}
use Rattle.net.specs.declared.Net.{Net}
use Rattle.console.specs.Feeding.{read_after, text_after}
use Rattle.wire_program.specs.LetterLineLine.{read_line}
use Rattle.wire_program.specs.declared.Passed.{Passed}
use Rattle.wire_program.specs.Wire.{malformed_line}

-- what a line says that ends here
abbrev pub said_by : HexReading → HexText
said_by r = hex_says (hex_end r) r.bytes

-- a line against a network value
abbrev pub spoken : Net → HexText → List ℕ
spoken net malformed = malformed_line
spoken net (octets bytes) = read_line net bytes

-- no line changes the network
abbrev pub acted : Net → HexText → Net
acted net said = net

abbrev pub line_after : Net → HexReading → List ℕ → HexReading
line_after = read_after hex_start read_hex said_by acted spoken

abbrev pub texts : Net → HexReading → List ℕ → List ℕ
texts = text_after hex_start read_hex said_by acted spoken

-- ---- with lent output: 64 bytes for each byte of the input, or 10
abbrev pub written : Net → HexReading → List ℕ → List ℕ → Writing
written net r bytes old = with_room (64 * length bytes) (texts net r bytes) old

abbrev pub passed_as : ℕ → ℕ → HexReading → Passed
passed_as answer written r = record { answer = answer; written = written; reading = r }

abbrev pub passed_by : Writing → Net → HexReading → List ℕ → Passed
passed_by (denied k) net r bytes = passed_as k 0 r
passed_by (writes text) net r bytes = passed_as 0 (length text) (line_after net r bytes)
