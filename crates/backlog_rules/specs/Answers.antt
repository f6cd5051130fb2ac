-- A run with answers: the calls of the step one by one, as for a backlog, but a refused event changes nothing and the run goes on. What
-- each event came to stands in a trace that is lent: three numbers an event, as the event has three.
use Rattle.std.specs.Prelude.{ℕ, ◌≡◌, List, [], ◌∷◌, ◌++◌, if◌then◌else◌}
use Rattle.fields.specs.Fields.{onto}
use Rattle.fields.specs.Output.{Writing, denied, writes, fitting}
use Rattle.tally.specs.declared.Tally.{Tally}
use Rattle.state.specs.declared.State.{State}
use Rattle.state.specs.State.{state_holds}
use Rattle.step_rules.specs.Step.{stepped_of}
use Rattle.step_rules.specs.Counting.{tallied_by}
use Rattle.backlog_rules.specs.declared.Answered.{Answered}

-- "answer, letters in flight, notices settled so far"
abbrev pub turn_of : ℕ → Tally → State → List ℕ
turn_of n t s = n ∷ s.flying ∷ t.settled ∷ []

-- the trace. A refused step hands back the state that it was given and touches no tally, so that nothing need be said of refusals here;
-- "one or two left over count as an event refused as 6"
unfoldable pub turns : State → Tally → List ℕ → List ℕ
turns s t [] = []
turns s t (kind ∷ []) = turn_of 6 t s
turns s t (kind ∷ a ∷ []) = turn_of 6 t s
turns s t (kind ∷ a ∷ b ∷ events) =
    let r = stepped_of s kind a b in
    turn_of r.answer (tallied_by r t) r.state ++ turns r.state (tallied_by r t) events

-- the state and the tally after all events
unfoldable pub last_state : State → List ℕ → State
last_state s [] = s
last_state s (kind ∷ []) = s
last_state s (kind ∷ a ∷ []) = s
last_state s (kind ∷ a ∷ b ∷ events) = last_state (stepped_of s kind a b).state events

unfoldable pub last_tally : State → Tally → List ℕ → Tally
last_tally s t [] = t
last_tally s t (kind ∷ []) = t
last_tally s t (kind ∷ a ∷ []) = t
last_tally s t (kind ∷ a ∷ b ∷ events) = last_tally (stepped_of s kind a b).state (tallied_by (stepped_of s kind a b) t) events

-- what a run from one state and tally leaves: these, and the trace over the front of the old one
pub record RanThrough (es : List ℕ) (s₀ : State) (t₀ : Tally) (old : List ℕ) (s : State) (t : Tally) (trace : List ℕ) : Type 0 where
  pub state : s ≡ last_state s₀ es
  pub tally : t ≡ last_tally s₀ t₀ es
  pub output : trace ≡ onto (turns s₀ t₀ es) old

-- with a trace that is lent: 11 for a bad state, even for an empty list; 10 for a trace that is too short
unfoldable pub tracing : State → Tally → List ℕ → List ℕ → Writing
tracing s t events old = if state_holds s then fitting (turns s t events) old else denied 11

abbrev pub answered_by : Writing → State → Tally → List ℕ → Answered
answered_by (denied n) s t events = record { answer = n; tally = t; state = s }
answered_by (writes trace) s t events = record { answer = 0; tally = last_tally s t events; state = last_state s events }
