-- What the code answers for a piece of the input, for every state, and what is printed for a trace. proofs/Program.antt: from a fresh state
-- the pieces of an input give what specs/Events.antt says of the whole of it.
use Rattle.std.specs.Prelude.{ℕ, ◌*◌, List, [], ◌∷◌, ◌++◌, ltb, length, if◌then◌else◌}
use Rattle.fields.specs.Output.{Writing, denied, writes}
use Rattle.tally.specs.declared.Tally.{Tally}
use Rattle.event_lines.specs.declared.Reading.{Reading}
use Rattle.event_lines.specs.Steps.{start}
use Rattle.event_list.specs.Lines.{numbers_in, line_after}
use Rattle.net.specs.declared.Net.{Net}
use Rattle.state.specs.declared.State.{State}
use Rattle.state.specs.Beginning.{begun_of}
use Rattle.backlog_rules.specs.Answers.{last_state, last_tally, tracing}
use Rattle.event_program.specs.declared.Ran.{Ran}
use Rattle.event_program.specs.Events.{no_tally, answer_text}

-- ---- a piece: the lines that end in it, as one run with answers
-- 10 where the list is too short for any input of so many bytes; else what the call over the lines' numbers says
unfoldable pub running : State → Tally → Reading → List ℕ → List ℕ → List ℕ → Writing
running s t r bytes list trace = if ltb (length list) (3 * length bytes) then denied 10 else tracing s t (numbers_in r bytes) trace

abbrev pub ran_as : ℕ → ℕ → Reading → Tally → State → Ran
ran_as answer size r t s = record { answer = answer; size = size; reading = r; tally = t; state = s }

abbrev pub ran_by : Writing → State → Tally → Reading → List ℕ → Ran
ran_by (denied n) s t r bytes = ran_as n 0 r t s
ran_by (writes trace) s t r bytes =
    ran_as 0 (length trace) (line_after r bytes) (last_tally s t (numbers_in r bytes)) (last_state s (numbers_in r bytes))

-- ---- before the first line: a fresh state; the number is that of `fresh`
abbrev pub first_ran : Net → Ran
first_ran net = ran_as (begun_of net).answer 0 start no_tally (begun_of net).state

-- ---- what is printed for a trace: a line for each three numbers of it
unfoldable pub answers_text : List ℕ → List ℕ
answers_text [] = []
answers_text (answer ∷ []) = []
answers_text (answer ∷ flying ∷ []) = []
answers_text (answer ∷ flying ∷ settled ∷ trace) = answer_text answer flying settled ++ answers_text trace

-- no longer than this: a number has at most 20 digits, and one byte stands behind it
abbrev pub answers_most : List ℕ → ℕ
answers_most trace = 21 * length trace
