-- THE DEMANDS OF THE TWO CALLS OVER MANY EVENTS: the backlog's call, which stops at the first refused event, and the run with answers,
-- which goes on and leaves three numbers for each event in a lent trace. One record for each demand, with its proof; the records of
-- Demands.antt have them as fields. `taken_by`: the events that the backlog's call took. `all_events`: all events of the run's list, of
-- which one or two numbers left over are one more, of no kind.
use Prim.Native.Nat.{ℕ, ◌+◌, ◌*◌, ◌<◌}
use mathlib.Core.Path.{◌≡◌}
use mathlib.Core.Logic.{◌↔◌}
use mathlib.Core.List.{List, [], ◌∷◌, ◌++◌}
use lib.Dec.{T}
use lib.ListN.{length, take, drop}
use Rattle.tally.specs.declared.Tally.{Tally}
use Rattle.tally.specs.Sums.{largest, added, tallied}
use Rattle.tally.proofs.Sums.{Fits}
use Rattle.world.specs.World.{World, Event, refusal}
use Rattle.world.specs.History.{run, ever_settled}
use Rattle.state.specs.declared.State.{State}
use Rattle.state.specs.State.{world_of, Sized}
use Rattle.step_rules.proofs.Bridge.{Good}
use Rattle.backlog_rules.specs.Backlog.{stopping, and_before}
use Rattle.backlog_rules.proofs.Threes.{stopped_at}
use Rattle.backlog_rules.proofs.OneByOne.{taken_by, OneByOne}
use Rattle.backlog_rules.proofs.Tracing.{no_kind as no_kind_lem}
use Rattle.backlog_rules.proofs.Answering.{no_kind, all_events, Answers}
use Rattle.laws.specs.Flood.{only_notices}
use Rattle.laws.specs.Tallied.{ever_counted}
use Rattle.step_counted.proofs.Runs.{LentCalls}
use Rattle.demands.specs.Calls.{TakesBacklog, RunsAnswered}
use Rattle.demands.specs.StateReasons.{BadState, GoodState, Backlog, trace_size, Run}
use Rattle.demands.proofs.Runs.{accepted_of, LentDiesOut}
use Rattle.demands.proofs.Backlogs as Backlogs
use Rattle.demands.proofs.AnsweredRuns as AnsweredRuns

-- DEMAND 1: each number for its reason, and what a refusal keeps.
pub record Demand1 : Type 0 where
  -- The backlog's call: 11 for a state that isn't well formed, whatever the list; else the number of the first event that the step
  -- refuses, or 6 where one or two numbers are left over, else 0.
  pub backlog_number : (before : Tally) (s : State) (events : List ℕ) (c : TakesBacklog before s events) (n : ℕ)
      → (c.answer.answer ≡ n) ↔ Backlog s events n
  -- 11 takes nothing and leaves state and tally as they were. What any other refusal keeps is the state and the tally after the events
  -- taken: the numbers of these alone, given to the same call, are answered by 0, with the same state and the same tally.
  pub backlog_bad : (before : Tally) (s : State) (events : List ℕ) (c : TakesBacklog before s events) → BadState s
      → (c.answer ≡ stopping 11 before s) × (c.tally ≡ before)
  pub backlog_keeps : (before : Tally) (s : State) (events : List ℕ) (c : TakesBacklog before s events) → GoodState s
      → (d : TakesBacklog before s (take (3 * c.answer.taken) events))
      → (d.answer ≡ stopped_at 0 c.answer.taken c.answer.tally c.answer.state) × (d.tally ≡ c.tally)
  -- The run with answers: 11 for a state that isn't well formed, 10 for a trace that is too short, else 0, whatever the events.
  pub run_number : (before : Tally) (s : State) (events old : List ℕ) (c : RunsAnswered before s events old) (n : ℕ)
      → (c.answer.answer ≡ n) ↔ Run s events old n
  -- An event that is refused has its number in the trace (Demand2, run-told). One or two numbers left over are an event of no kind, which
  -- every world refuses as 6.
  pub left_over_six : (w : World) → refusal w no_kind ≡ 6
  -- Refused, it leaves state, tally and trace as they were; a longer trace keeps its tail where it is not.
  pub run_refused : (before : Tally) (s : State) (events old : List ℕ) (c : RunsAnswered before s events old) → (c.answer.answer ≡ 0 → ⊥)
      → (c.answer.state ≡ s) × ((c.tally ≡ before) × (c.trace ≡ old))
  pub run_tail : (before : Tally) (s : State) (events old : List ℕ) (c : RunsAnswered before s events old) → c.answer.answer ≡ 0
      → drop (trace_size events) c.trace ≡ drop (trace_size events) old

pub demand1 : Demand1
demand1 =
    record {
      backlog_number = Backlogs.backlog_numbers;
      backlog_bad = Backlogs.backlog_bad;
      backlog_keeps = Backlogs.backlog_keeps;
      run_number = AnsweredRuns.run_numbers;
      left_over_six = λ w. no_kind_lem w 0 0;
      run_refused = AnsweredRuns.run_refused;
      run_tail = AnsweredRuns.run_tail;
    }

-- DEMAND 2: the calls of the step one by one, each on the state that the one before it handed back, each lent the same tally.
pub record Demand2 : Type 0 where
  -- In the backlog's call each is answered by 0; and then either nothing is left of the list, or one or two numbers, which is 6, or the
  -- next call refuses the next event, with that number.
  pub backlog_exact : (before : Tally) (s : State) (events : List ℕ) (c : TakesBacklog before s events) → GoodState s
      → OneByOne s before events c.answer
  pub backlog_tally : (before : Tally) (s : State) (events : List ℕ) (c : TakesBacklog before s events) → c.tally ≡ c.answer.tally
  -- So the rules accept each event taken, in the world that those before it leave, and the state means the world after all of them.
  pub backlog_accepted : (before : Tally) (s : State) (events : List ℕ) (c : TakesBacklog before s events) → Good s
      → (ds fs : List Event) (e : Event) → taken_by c.answer events ≡ ds ++ (e ∷ fs) → refusal (run (world_of s) ds) e ≡ 0
  pub backlog_means : (before : Tally) (s : State) (events : List ℕ) (c : TakesBacklog before s events) → Good s
      → world_of c.answer.state ≡ run (world_of s) (taken_by c.answer events)
  -- Two lists, one after the other, the first taken whole, are the same as both in one call.
  pub backlog_joined : (before : Tally) (s : State) → Sized s → (xs ys : List ℕ) (c : TakesBacklog before s xs) → c.answer.answer ≡ 0
      → (d : TakesBacklog c.tally c.answer.state ys) (b : TakesBacklog before s (xs ++ ys))
      → (b.answer ≡ and_before c.answer.taken d.answer) × (b.tally ≡ d.tally)
  -- In the run they go through all events, whatever each is answered by. What they answer is the front of the trace.
  pub run_exact : (before : Tally) (s : State) (events old : List ℕ) (c : RunsAnswered before s events old) → c.answer.answer ≡ 0
      → Sized s → Answers s before (all_events events) (take (trace_size events) c.trace) c.answer.state c.tally
  pub run_tally : (before : Tally) (s : State) (events old : List ℕ) (c : RunsAnswered before s events old) → c.tally ≡ c.answer.tally
  -- So the state means the world that the rules leave after all of them; and for each event the trace has the number that the rules answer
  -- in the world that those before it leave, the letters in flight in the world after it, and the notices settled so far, with the count
  -- that the lent tally began with (it stays at its largest value once there).
  pub run_means : (before : Tally) (s : State) (events old : List ℕ) (c : RunsAnswered before s events old) → c.answer.answer ≡ 0
      → Sized s → world_of c.answer.state ≡ run (world_of s) (all_events events)
  pub run_told : (before : Tally) (s : State) (events old : List ℕ) (c : RunsAnswered before s events old) → c.answer.answer ≡ 0
      → Sized s → Fits before → (ds fs : List Event) (e : Event) → all_events events ≡ ds ++ (e ∷ fs)
      → take 3 (drop (3 * length ds) c.trace)
      ≡ refusal (run (world_of s) ds) e ∷ length (run (world_of s) (ds ++ (e ∷ []))).letters
      ∷ added before.settled (ever_settled (world_of s) (ds ++ (e ∷ []))) ∷ []
  -- A list of whole events and then another, which is lent the rest of the trace, are the same as both in one call.
  pub run_joined : (before : Tally) (s : State) (xs ys old : List ℕ) (n : ℕ) → length xs ≡ 3 * n → (c : RunsAnswered before s xs old)
      → c.answer.answer ≡ 0
      → (d : RunsAnswered c.tally c.answer.state ys (drop (3 * n) c.trace)) → d.answer.answer ≡ 0
      → (b : RunsAnswered before s (xs ++ ys) old)
      → (b.answer ≡ d.answer) × ((b.tally ≡ d.tally) × (b.trace ≡ take (3 * n) c.trace ++ d.trace))
  -- Where the backlog's call takes every event, the two leave the same state and the same tally.
  pub run_as_backlog : (before : Tally) (s : State) (events old : List ℕ) (c : RunsAnswered before s events old) → c.answer.answer ≡ 0
      → (b : TakesBacklog before s events) → b.answer.answer ≡ 0 → (c.answer.state ≡ b.answer.state) × (c.tally ≡ b.tally)

pub demand2 : Demand2
demand2 =
    record {
      backlog_exact = Backlogs.backlog_exact;
      backlog_tally = Backlogs.tally_answered;
      backlog_accepted = Backlogs.backlog_accepted;
      backlog_means = Backlogs.backlog_means;
      backlog_joined = Backlogs.backlog_joined;
      run_exact = AnsweredRuns.run_exact;
      run_tally = AnsweredRuns.tally_answered;
      run_means = AnsweredRuns.run_means;
      run_told = AnsweredRuns.run_told;
      run_joined = AnsweredRuns.run_joined;
      run_as_backlog = AnsweredRuns.run_as_backlog;
    }

-- DEMAND 3: runs of calls that are lent a tally. Where the events accepted are only notices, what they add to the tally's settled count
-- stays within the bound, and so does how many they are; no counter falls or passes the highest one. What they add is how many notices they
-- settle, as long as the count is below its largest value.
pub record Demand3 : Type 0 where
  -- The backlog's call is such a run over the events taken,
  pub backlog_is_run : (before : Tally) (s : State) (events : List ℕ) (c : TakesBacklog before s events) → GoodState s
      → LentCalls s before (taken_by c.answer events) c.answer.state c.tally
  pub backlog_bounded : (before : Tally) (s : State) (events : List ℕ) (c : TakesBacklog before s events) → Good s → Fits before
      → T (only_notices (world_of s) (taken_by c.answer events)) → LentDiesOut s c.answer.state before c.tally c.answer.taken
  pub backlog_settled : (before : Tally) (s : State) (events : List ℕ) (c : TakesBacklog before s events) → Good s → Fits before
      → c.tally.settled < largest → c.tally.settled ≡ before.settled + ever_settled (world_of s) (taken_by c.answer events)
  -- and the run with answers over all events, whatever is refused between the notices.
  pub run_is_run : (before : Tally) (s : State) (events old : List ℕ) (c : RunsAnswered before s events old) → c.answer.answer ≡ 0
      → Sized s → LentCalls s before (all_events events) c.answer.state c.tally
  pub run_bounded : (before : Tally) (s : State) (events old : List ℕ) (c : RunsAnswered before s events old) → c.answer.answer ≡ 0
      → Sized s → Fits before
      → let taken = accepted_of (world_of s) (all_events events) in
      T (only_notices (world_of s) taken) → LentDiesOut s c.answer.state before c.tally (length taken)
  pub run_settled : (before : Tally) (s : State) (events old : List ℕ) (c : RunsAnswered before s events old) → c.answer.answer ≡ 0
      → Sized s → Fits before
      → c.tally.settled < largest → c.tally.settled ≡ before.settled + ever_settled (world_of s) (all_events events)

pub demand3 : Demand3
demand3 =
    record {
      backlog_is_run = Backlogs.backlog_run;
      backlog_bounded = Backlogs.taken_die_out;
      backlog_settled = Backlogs.settled_is;
      run_is_run = AnsweredRuns.run_calls;
      run_bounded = AnsweredRuns.run_dies_out;
      run_settled = AnsweredRuns.run_settled;
    }

-- THE COUNTS: the tally lent, with the history's three counts added; and the state handed back is well formed.
pub record Counts : Type 0 where
  pub backlog_history : (before : Tally) (s : State) (events : List ℕ) (c : TakesBacklog before s events) → Good s → Fits before
      → c.tally ≡ tallied before (ever_counted (world_of s) (taken_by c.answer events))
  pub backlog_well : (before : Tally) (s : State) (events : List ℕ) (c : TakesBacklog before s events) → Good s → Good c.answer.state
  pub run_history : (before : Tally) (s : State) (events old : List ℕ) (c : RunsAnswered before s events old) → c.answer.answer ≡ 0
      → Sized s → Fits before → c.tally ≡ tallied before (ever_counted (world_of s) (all_events events))
  pub run_well : (before : Tally) (s : State) (events old : List ℕ) (c : RunsAnswered before s events old) → Good s
      → Good c.answer.state

pub counts : Counts
counts =
    record {
      backlog_history = Backlogs.backlog_history;
      backlog_well = Backlogs.backlog_well;
      run_history = AnsweredRuns.run_history;
      run_well = AnsweredRuns.run_well;
    }
