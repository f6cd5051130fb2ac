-- The file `network.sheet`, as the programs read it.
use Rattle.std.specs.Prelude.{ℕ, List, [], ◌∷◌, ◌++◌, ltb, length, if◌then◌else◌, Result}
use Rattle.text.specs.Text.{digits}
use Rattle.sheet.specs.Sheet.{Sheet, refused, read_sheet}
use Rattle.net.specs.declared.Net.{Net}
use Rattle.sheet.specs.declared.SheetError.{SheetError}
use Rattle.sheet.specs.Values.{number_of, net_in, sheet_number, sheet_net}

-- "one above 4,096 bytes is refused as 2"
unfoldable pub file_sheet : List ℕ → Sheet
file_sheet file = if ltb 4096 (length file) then refused 2 else read_sheet file

-- the number, and the value beside it: a refused sheet gives no network
pub record Opened : Type 0 where
  pub number : ℕ
  pub net : Net

abbrev pub opened_by : Sheet → Opened
opened_by s = record { number = sheet_number s; net = sheet_net s }

-- what an answer of the code means
abbrev pub opened_in : Result Net SheetError → Opened
opened_in r = record { number = number_of r; net = net_in r }

-- "A refused sheet prints its number alone"
unfoldable pub refusal_text : ℕ → List ℕ
refusal_text n = digits n ++ 10 ∷ []
