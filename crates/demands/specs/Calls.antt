-- The calls of which the demands are claimed. One record for each: what the call is given, what it hands back, and what its promise says
-- of that (the `ensures` of the function in src/lib.rt of its crate), and nothing else. What is lent with `&mut` has two values: one
-- before the call, which is given, and one after it.
use Rattle.std.specs.Prelude.{ℕ, ◌≡◌, List, Result}
use Rattle.fields.specs.Output.{writing_numbers, writing_output}
use Rattle.tally.specs.declared.Tally.{Tally}
use Rattle.net.specs.declared.Letter.{Letter}
use Rattle.net.specs.declared.Net.{Net}
use Rattle.sheet.specs.declared.SheetError.{SheetError}
use Rattle.sheet.specs.declared.WriteError as SheetWrite
use Rattle.sheet.specs.Sheet.{read_sheet}
use Rattle.sheet.specs.Values as SheetValues
use Rattle.letters.specs.declared.LetterError.{LetterError}
use Rattle.letters.specs.declared.WriteError as LetterWrite
use Rattle.letters.specs.Values as LetterValues
use Rattle.world.specs.World.{Event}
use Rattle.state.specs.declared.State.{State}
use Rattle.state.specs.declared.Begun.{Begun}
use Rattle.state.specs.Beginning.{begun_of}
use Rattle.step_rules.specs.declared.Stepped.{Stepped}
use Rattle.step_rules.specs.Step.{stepped_of}
use Rattle.step_rules.specs.Counting.{tallied_by}
use Rattle.backlog_rules.specs.declared.Taken.{Taken}
use Rattle.backlog_rules.specs.declared.Answered.{Answered}
use Rattle.backlog_rules.specs.Backlog.{backlog_of}
use Rattle.backlog_rules.specs.Answers.{tracing, answered_by}
use Rattle.reach.specs.declared.Reached.{Reached}
use Rattle.report.specs.declared.Refusal.{Refusal}
use Rattle.report.specs.Asking.{number_in}
use Rattle.report.specs.Answers.{asked_in, asked_of}
use Rattle.report.specs.ReportsAnswers.{answer_of, output_of}

-- sheet::read(bytes)
pub record ReadsSheet (bytes : List ℕ) : Type 0 where
  pub answer : Result Net SheetError
  pub promise : SheetValues.Says answer (read_sheet bytes)

-- sheet::write(net, out)
pub record WritesSheet (net : Net) (old : List ℕ) : Type 0 where
  pub answer : Result ℕ SheetWrite.WriteError
  pub output : List ℕ
  pub promise : SheetValues.wrote_numbers answer ≡ writing_numbers (SheetValues.writing net old)
  pub promise_output : output ≡ writing_output (SheetValues.writing net old) old

-- letters::read(net, bytes)
pub record ReadsLetter (net : Net) (bytes : List ℕ) : Type 0 where
  pub answer : Result Letter LetterError
  pub promise : LetterValues.letters_of answer ≡ LetterValues.reading net bytes

-- letters::write(net, letter, out)
pub record WritesLetter (net : Net) (x : Letter) (old : List ℕ) : Type 0 where
  pub answer : Result ℕ LetterWrite.WriteError
  pub output : List ℕ
  pub promise : LetterValues.wrote_numbers answer ≡ writing_numbers (LetterValues.writing net x old)
  pub promise_output : output ≡ writing_output (LetterValues.writing net x old) old

-- beginning::fresh(net)
pub record Begins (net : Net) : Type 0 where
  pub answer : Begun
  pub promise : answer ≡ begun_of net

-- network::step(s, kind, a, b)
pub record Steps (s : State) (e : Event) : Type 0 where
  pub answer : Stepped
  pub promise : answer ≡ stepped_of s e.kind e.a e.b

-- counting::step_counted(&mut tally, s, kind, a, b)
pub record StepsCounted (before : Tally) (s : State) (e : Event) : Type 0 where
  pub answer : Stepped
  pub tally : Tally
  pub promise : answer ≡ stepped_of s e.kind e.a e.b
  pub promise_tally : tally ≡ tallied_by (stepped_of s e.kind e.a e.b) before

-- backlog_counted::backlog(&mut tally, s, events)
pub record TakesBacklog (before : Tally) (s : State) (events : List ℕ) : Type 0 where
  pub answer : Taken
  pub tally : Tally
  pub promise : answer ≡ backlog_of s before events
  pub promise_tally : tally ≡ (backlog_of s before events).tally

-- backlog_counted::run(&mut tally, s, events, &mut trace)
pub record RunsAnswered (before : Tally) (s : State) (events old : List ℕ) : Type 0 where
  pub answer : Answered
  pub tally : Tally
  pub trace : List ℕ
  pub promise : answer ≡ answered_by (tracing s before events old) s before events
  pub promise_tally : tally ≡ (answered_by (tracing s before events old) s before events).tally
  pub promise_trace : trace ≡ writing_output (tracing s before events old) old

-- report::reach(s, a)
pub record AsksReach (s : State) (a : ℕ) : Type 0 where
  pub answer : Result Reached Refusal
  pub promise : asked_in answer ≡ asked_of s a

-- report::report(s, a, out)
pub record AsksReport (s : State) (a : ℕ) (old : List ℕ) : Type 0 where
  pub answer : Result (Unit {0}) Refusal
  pub output : List ℕ
  pub promise : number_in answer ≡ answer_of s a old
  pub promise_output : output ≡ output_of s a old
