-- The lines of the input as the list of numbers that a call over many events is given: three numbers an event, as the line has them.
use Rattle.std.specs.Prelude.{ℕ, ◌*◌, List, [], ◌∷◌, length, get_or, Result, Ok, Err}
use Rattle.fields.specs.Output.{Writing, denied, writes, with_room}
use Rattle.event_lines.specs.declared.Reading.{Reading}
use Rattle.event_lines.specs.Steps.{start, read_on, line_end}
use Rattle.console.specs.Feeding.{read_after, text_after}
use Rattle.event_lines.specs.declared.Event.{Event}
use Rattle.event_list.specs.declared.Listed.{Listed}
use Rattle.event_list.specs.declared.ListShort.{ListShort}

-- the numbers of a line that is given by what it says (crate `event_lines`, event_line). A malformed one says 6 alone: its numbers are 0,
-- and there is no kind 0
abbrev pub three_of : List ℕ → List ℕ
three_of said = get_or said 1 0 ∷ get_or said 2 0 ∷ get_or said 3 0 ∷ []

abbrev pub asked_by : List ℕ → Event
asked_by said = record { kind = get_or said 1 0; a = get_or said 2 0; b = get_or said 3 0 }

-- ---- the lines that end in some bytes, from the reading of a line under way; nothing but that reading is held between two lines
unfoldable pub passes : Unit {0} → List ℕ → Unit {0}
passes u said = u

unfoldable pub lists : Unit {0} → List ℕ → List ℕ
lists u said = three_of said

abbrev pub numbers_in : Reading → List ℕ → List ℕ
numbers_in r bytes = text_after start read_on line_end passes lists tt r bytes

abbrev pub line_after : Reading → List ℕ → Reading
line_after r bytes = read_after start read_on line_end passes lists tt r bytes

-- ---- with a list that is lent: three places for each byte of the input, or 10
unfoldable pub listing : Reading → List ℕ → List ℕ → Writing
listing r bytes old = with_room (3 * length bytes) (numbers_in r bytes) old

abbrev pub listed_by : Writing → Reading → List ℕ → Result Listed ListShort
listed_by (denied n) r bytes = Err (record {})
listed_by (writes numbers) r bytes = Ok (record { size = length numbers; reading = line_after r bytes })
