-- What the code's answers mean: the paper's number for each case, and the value beside it.
use Rattle.std.specs.Prelude.{ℕ, ◌-◌, not, ◌≡◌, List, [], ◌∷◌, ◌++◌, map, length, replicate, if◌then◌else◌, Result, Ok, Err}
use Rattle.fields.specs.Output.{Writing, denied, fitting}
use Rattle.net.specs.declared.Net.{Net}
use Rattle.net.specs.Network.{Network}
use Rattle.net.specs.Values.{network_of}
use Rattle.net.specs.Sizes.{link_room}
use Rattle.sheet_rules.specs.Values.{net_holds}
use Rattle.sheet.specs.declared.SheetError.{SheetError}
use Rattle.sheet.specs.declared.SheetError.TheVariants.{Short, Malformed, OutOfRange, OutOfOrder, TooManyLinks}
use Rattle.sheet.specs.declared.WriteError.{WriteError}
use Rattle.sheet.specs.declared.WriteError.TheVariants.{OutputShort, BadNetwork}
use Rattle.sheet.specs.Sheet.{Sheet, refused, sheet, write_sheet}

-- ---- reading
-- the paper's number of each refusal
abbrev pub error_number : SheetError → ℕ
error_number Short = 1
error_number Malformed = 2
error_number OutOfRange = 3
error_number OutOfOrder = 4
error_number TooManyLinks = 5

-- the paper's number of each answer
abbrev pub number_of : Result Net SheetError → ℕ
number_of (Ok net) = 0
number_of (Err e) = error_number e

-- the number of a sheet's reading; 0 for one that gives a network
abbrev pub sheet_number : Sheet → ℕ
sheet_number (refused k) = k
sheet_number (sheet net) = 0

-- a room of 64 places, of which those that are not used are zero
unfoldable pub room_of : List ℕ → List ℕ
room_of xs = xs ++ replicate (link_room - length xs) 0

-- the value of a network
unfoldable pub value_of : Network → Net
value_of net =
    record {
      stations = net.stations;
      links = length net.links;
      low = room_of (map (λ e. e.low) net.links);
      high = room_of (map (λ e. e.high) net.links);
    }

-- the value that stands for no network: zero throughout
abbrev pub zero_net : Net
zero_net = record { stations = 0; links = 0; low = room_of []; high = room_of [] }

-- the network value of a sheet's reading: a refused sheet gives none
abbrev pub sheet_net : Sheet → Net
sheet_net (refused k) = zero_net
sheet_net (sheet net) = value_of net

-- the network value of an answer: a refusal gives none
abbrev pub net_in : Result Net SheetError → Net
net_in (Ok net) = net
net_in (Err e) = zero_net

-- an answer says what a sheet's reading gives: its number, and its network
pub record Says (r : Result Net SheetError) (s : Sheet) : Type 0 where
  pub number : number_of r ≡ sheet_number s
  pub net : net_in r ≡ sheet_net s

-- ---- writing
unfoldable pub writing : Net → List ℕ → Writing
writing net old =
    if not (net_holds net) then denied 11
    else fitting (write_sheet (network_of net)) old

-- the paper's number of each refusal
abbrev pub write_error_number : WriteError → ℕ
write_error_number OutputShort = 10
write_error_number BadNetwork = 11

-- the number, and how many bytes were written
abbrev pub wrote_numbers : Result ℕ WriteError → List ℕ
wrote_numbers (Ok n) = 0 ∷ n ∷ []
wrote_numbers (Err e) = write_error_number e ∷ []
