-- What the backlog program's calls print, one after the other: `open_sheet`; for a refused sheet `put_refusal`; else `begin`, `take_lines`
-- for each piece of the input, the last one as `put_piece` ends it, `put_backlog`, and `event_program`'s `put_stations`.
-- proofs/Program.antt: it is exactly what specs/Backlog.antt says of the file and the whole input.
use Rattle.std.specs.Prelude.{ℕ, List, [], ◌∷◌, ◌++◌, eqb, if◌then◌else◌}
use Rattle.event_lines.specs.Begun.{is_begun}
use Rattle.backlog_rules.specs.Backlog.{backlog_of}
use Rattle.console.specs.Sheets.{Opened, file_sheet, opened_by, refusal_text}
use Rattle.console.specs.Feeding.{closing_by}
use Rattle.event_list.specs.Lines.{numbers_in, line_after}
use Rattle.event_program.specs.Stations.{stations_text}
use Rattle.backlog_program.specs.declared.Ran.{Ran}
use Rattle.backlog_program.specs.Backlog.{first_text}
use Rattle.backlog_program.specs.Runs.{ran_on, first_ran}

-- a piece, with room enough in the list: after an answer that is not 0 none is taken
unfoldable pub ran_after : Ran → List ℕ → Ran
ran_after n bytes =
    if eqb n.answer 0
    then ran_on n (line_after n.reading bytes) (backlog_of n.state n.tally (numbers_in n.reading bytes))
    else n

unfoldable pub pieces_ran : Ran → List (List ℕ) → Ran
pieces_ran n [] = n
pieces_ran n (piece ∷ others) = pieces_ran (ran_after n piece) others

unfoldable pub whole_ran : Ran → List (List ℕ) → Ran
whole_ran n pieces = let last = pieces_ran n pieces in ran_after last (closing_by (is_begun last.reading))

abbrev pub ran_text : Ran → List ℕ
ran_text n = first_text n.taken n.answer n.state.flying n.tally.settled ++ stations_text n.state

abbrev pub opened_text : Opened → List (List ℕ) → List ℕ
opened_text o pieces = if eqb o.number 0 then ran_text (whole_ran (first_ran o.net) pieces) else refusal_text o.number

unfoldable pub calls_text : List ℕ → List (List ℕ) → List ℕ
calls_text file pieces = opened_text (opened_by (file_sheet file)) pieces
