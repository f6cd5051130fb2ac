-- The wire program: the sheet written back, then each line as a letter, read and written back.
use Rattle.std.specs.Prelude.{ℕ, List, [], ◌∷◌, ◌++◌, map}
use Rattle.lists.specs.Places.{collect}
use Rattle.event_lines.specs.Split.{lines_of}
use Rattle.hex_lines.specs.Hex.{HexText, malformed, octets, hex_line}
use Rattle.net.specs.Network.{Network}
use Rattle.sheet.specs.Sheet as Sheets
use Rattle.letters.specs.Letters.{read_letter}
use Rattle.console.specs.Sheets.{file_sheet}
use Rattle.wire_program.specs.Line.{sheet_text}
use Rattle.wire_program.specs.LetterLineLine.{read_text}

-- "malformed" and a newline
abbrev pub malformed_line : List ℕ
malformed_line = 109 ∷ 97 ∷ 108 ∷ 102 ∷ 111 ∷ 114 ∷ 109 ∷ 101 ∷ 100 ∷ 10 ∷ []

-- what is printed for a line
abbrev pub line_text : Network → HexText → List ℕ
line_text net malformed = malformed_line
line_text net (octets bytes) = read_text net (read_letter net bytes)

-- ---- the whole output, from the sheet's file and the bytes of standard input: for a refused sheet nothing more
abbrev pub output_by : Sheets.Sheet → List HexText → List ℕ
output_by (Sheets.refused n) said = sheet_text (Sheets.refused n)
output_by (Sheets.sheet net) said = sheet_text (Sheets.sheet net) ++ collect (line_text net) said

unfoldable pub wire_program : List ℕ → List ℕ → List ℕ
wire_program file input = output_by (file_sheet file) (map hex_line (lines_of input))
