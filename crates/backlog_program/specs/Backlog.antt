-- The backlog program: what it prints in all, from the sheet's file and the bytes of standard input.
use Rattle.std.specs.Prelude.{ℕ, List, ◌∷◌, ◌++◌, map}
use Rattle.lists.specs.Places.{collect}
use Rattle.tally.specs.Sums.{added}
use Rattle.text.specs.Text.{digits}
use Rattle.event_lines.specs.Events.{event_line}
use Rattle.event_lines.specs.Split.{lines_of}
use Rattle.sheet.specs.Sheet.{Sheet, refused, sheet}
use Rattle.sheet.specs.Values.{value_of}
use Rattle.world.specs.World.{fresh}
use Rattle.state.specs.State.{state_of}
use Rattle.backlog_rules.specs.declared.Taken.{Taken}
use Rattle.backlog_rules.specs.Backlog.{backlog_of}
use Rattle.console.specs.Sheets.{file_sheet, refusal_text}
use Rattle.event_list.specs.Lines.{three_of}
use Rattle.event_program.specs.Events.{no_tally, answer_text}
use Rattle.event_program.specs.Stations.{stations_text}

-- how many events were taken, and behind it what the event program prints for one: the number that said no, or 0, the letters in flight
-- and the notices settled
unfoldable pub first_text : ℕ → ℕ → ℕ → ℕ → List ℕ
first_text taken answer flying settled = digits taken ++ 32 ∷ answer_text answer flying settled

-- no such line is longer: two numbers of at most 20 digits, one of 3 and one of 5, with the bytes between and behind
abbrev pub first_most : ℕ
first_most = 52

-- the count has 64 bits, as the tally's have, and stays at its largest value once there
abbrev pub taken_text : Taken → List ℕ
taken_text x =
    first_text (added 0 x.taken) x.answer x.state.flying x.tally.settled ++ stations_text x.state

-- the whole list, three numbers a line. Those of a malformed one are 0 0 0, and there is no kind 0: it is refused as 6, and the call stops
-- there (proofs/Malformed.antt)
abbrev pub numbers_of : List (List ℕ) → List ℕ
numbers_of said = collect three_of said

-- ---- the whole output: one call over the numbers of all lines, from the fresh state and with nothing counted
abbrev pub output_by : Sheet → List (List ℕ) → List ℕ
output_by (refused n) said = refusal_text n
output_by (sheet net) said = taken_text (backlog_of (state_of (value_of net) (fresh net)) no_tally (numbers_of said))

unfoldable pub backlog_program : List ℕ → List ℕ → List ℕ
backlog_program file input = output_by (file_sheet file) (map event_line (lines_of input))
