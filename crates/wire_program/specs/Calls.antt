-- What the wire program's calls print, one after the other: `put_sheet`; `open_sheet`, and for a good sheet `run_letters` for each piece of
-- the input, with one newline more where the last line has none. proofs/Program.antt: it is exactly what specs/Wire.antt says of the file
-- and the whole input.
use Rattle.std.specs.Prelude.{ℕ, List, [], ◌++◌, eqb, if◌then◌else◌}
use Rattle.hex_lines.specs.HexSteps.{hex_start, read_hex}
use Rattle.console.specs.Sheets.{Opened, file_sheet, opened_by}
use Rattle.hex_lines.specs.HexBegun.{is_hex_begun}
use Rattle.console.specs.Feeding.{whole_text}
use Rattle.wire_program.specs.Line.{sheet_text}
use Rattle.wire_program.specs.Passing.{said_by, acted, spoken}

abbrev pub opened_text : Opened → List (List ℕ) → List ℕ
opened_text o pieces = if eqb o.number 0 then whole_text hex_start read_hex said_by acted spoken is_hex_begun o.net pieces else []

unfoldable pub calls_text : List ℕ → List (List ℕ) → List ℕ
calls_text file pieces = sheet_text (file_sheet file) ++ opened_text (opened_by (file_sheet file)) pieces
