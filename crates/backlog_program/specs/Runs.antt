-- What the code answers for a piece of the input, byte by byte and for every state. proofs/Program.antt: from a fresh state the pieces of
-- an input give what specs/Backlog.antt says of the whole of it.
use Rattle.std.specs.Prelude.{ℕ, List, eqb, if◌then◌else◌}
use Rattle.fields.specs.Output.{Writing, denied, writes}
use Rattle.tally.specs.Sums.{added}
use Rattle.event_lines.specs.declared.Reading.{Reading}
use Rattle.event_lines.specs.Steps.{start}
use Rattle.net.specs.declared.Net.{Net}
use Rattle.state.specs.Beginning.{begun_of}
use Rattle.backlog_rules.specs.declared.Taken.{Taken}
use Rattle.backlog_rules.specs.Backlog.{backlog_of}
use Rattle.event_list.specs.Lines.{line_after, listing}
use Rattle.event_program.specs.Events.{no_tally}
use Rattle.backlog_program.specs.declared.Ran.{Ran}

-- ---- with a list that is lent: nothing more is listed once an answer was not 0
abbrev pub listing_of : Ran → List ℕ → List ℕ → Writing
listing_of n bytes old = if eqb n.answer 0 then listing n.reading bytes old else denied n.answer

-- the call over a list: its events are added to those taken before
abbrev pub ran_on : Ran → Reading → Taken → Ran
ran_on n r x = record { answer = x.answer; taken = added n.taken x.taken; reading = r; tally = x.tally; state = x.state }

abbrev pub ran_by : Writing → Ran → List ℕ → Ran
ran_by (denied k) n bytes = record { answer = k; taken = n.taken; reading = n.reading; tally = n.tally; state = n.state }
ran_by (writes numbers) n bytes = ran_on n (line_after n.reading bytes) (backlog_of n.state n.tally numbers)

-- ---- before the first line: a fresh state; the number is that of `fresh`
abbrev pub first_ran : Net → Ran
first_ran net =
    record { answer = (begun_of net).answer; taken = 0; reading = start; tally = no_tally; state = (begun_of net).state }
