-- What the event program's calls print, one after the other: `open_sheet`; for a refused sheet `put_refusal`; else `begin`, for each piece
-- of the input, the last one as `put_piece` ends it, `run_lines` and `put_answers` of its trace (whole, or in parts of whole events, which
-- is the same: proofs/Sayings.antt, `answers_joined`), and at the end `put_stations`.
-- proofs/Program.antt: it is exactly what specs/Events.antt says of the file and the whole input.
use Rattle.std.specs.Prelude.{ℕ, List, [], ◌∷◌, ◌++◌, eqb, if◌then◌else◌}
use Rattle.fields.specs.Output.{Writing, denied, writes}
use Rattle.event_lines.specs.Begun.{is_begun}
use Rattle.event_list.specs.Lines.{numbers_in}
use Rattle.state.specs.State.{state_holds}
use Rattle.backlog_rules.specs.Answers.{turns}
use Rattle.console.specs.Sheets.{Opened, file_sheet, opened_by, refusal_text}
use Rattle.console.specs.Feeding.{closing_by}
use Rattle.event_program.specs.declared.Ran.{Ran}
use Rattle.event_program.specs.Stations.{stations_text}
use Rattle.event_program.specs.Runs.{ran_by, first_ran, answers_text}

-- a piece, with room enough in the list and the trace: 11, or the trace of its lines (proofs/Sayings.antt, `room_enough`)
unfoldable pub traced : Ran → List ℕ → Writing
traced n bytes = if state_holds n.state then writes (turns n.state n.tally (numbers_in n.reading bytes)) else denied 11

unfoldable pub ran_after : Ran → List ℕ → Ran
ran_after n bytes = ran_by (traced n bytes) n.state n.tally n.reading bytes

-- what is printed for it: the lines of its trace; none after a refusal, which leaves nothing there
abbrev pub printed_by : Writing → List ℕ
printed_by (denied k) = []
printed_by (writes trace) = answers_text trace

unfoldable pub pieces_ran : Ran → List (List ℕ) → Ran
pieces_ran n [] = n
pieces_ran n (piece ∷ others) = pieces_ran (ran_after n piece) others

unfoldable pub pieces_text : Ran → List (List ℕ) → List ℕ
pieces_text n [] = []
pieces_text n (piece ∷ others) = printed_by (traced n piece) ++ pieces_text (ran_after n piece) others

-- the end of the input
abbrev pub last_piece : Ran → List ℕ
last_piece n = closing_by (is_begun n.reading)

unfoldable pub run_text : Ran → List (List ℕ) → List ℕ
run_text n pieces =
    let last = pieces_ran n pieces in
    (pieces_text n pieces ++ printed_by (traced last (last_piece last))) ++ stations_text (ran_after last (last_piece last)).state

abbrev pub opened_text : Opened → List (List ℕ) → List ℕ
opened_text o pieces = if eqb o.number 0 then run_text (first_ran o.net) pieces else refusal_text o.number

unfoldable pub calls_text : List ℕ → List (List ℕ) → List ℕ
calls_text file pieces = opened_text (opened_by (file_sheet file)) pieces
