-- The wire program's first line.
use Rattle.std.specs.Prelude.{ℕ, List, [], ◌∷◌, ◌++◌, length}
use Rattle.text.specs.Text.{digits}
use Rattle.sheet.specs.Sheet as Sheets
use Rattle.text.specs.Parts.{field_text, hex_text, newline}

-- "sheet ", "sheet 0 "
abbrev pub sheet_word : List ℕ
sheet_word = 115 ∷ 104 ∷ 101 ∷ 101 ∷ 116 ∷ 32 ∷ []

abbrev pub good_word : List ℕ
good_word = 115 ∷ 104 ∷ 101 ∷ 101 ∷ 116 ∷ 32 ∷ 48 ∷ 32 ∷ []

-- no such line is longer
abbrev pub sheet_most : ℕ
sheet_most = 700

-- `sheet 0 STATIONS LINKS HEX`, or `sheet N` alone for a refused one
unfoldable pub sheet_text : Sheets.Sheet → List ℕ
sheet_text (Sheets.refused n) = sheet_word ++ digits n ++ newline
sheet_text (Sheets.sheet net) =
    good_word ++ field_text net.stations ++ field_text (length net.links) ++ hex_text (Sheets.write_sheet net) ++ newline
