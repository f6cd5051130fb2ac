-- The numbers of the calls over a state, each with its reason: "Calls over a state go 11, 6, 7, 8, 9, 10".
use Rattle.std.specs.Prelude.{ℕ, ◌+◌, ◌*◌, ◌/◌, ◌≤◌, ◌<◌, not, ◌≡◌, List, [], ◌∷◌, T, length}
use Rattle.net.specs.declared.Net.{Net}
use Rattle.station.specs.Holding.{is_live}
use Rattle.world.specs.World.{Event, exists, rule, fits}
use Rattle.state.specs.declared.State.{State}
use Rattle.state.specs.State.{station_in, world_of, state_holds}
use Rattle.step_rules.specs.Step.{event}
use Rattle.demands.specs.Given.{GoodNet, BadNet}
use Rattle.demands.specs.Calls.{Steps}

-- a state given that is well formed, and one that isn't
abbrev pub GoodState : State → Type 0
GoodState s = T (state_holds s)

abbrev pub BadState : State → Type 0
BadState s = T (not (state_holds s))

-- ---- THE FRESH STATE of a network given
pub data Fresh (net : Net) : ℕ → Type 0 where
  eleven : BadNet net → Fresh net 11
  taken : GoodNet net → Fresh net 0

-- ---- THE STEP, and the step that is lent a tally: 11, 6, 7, 8, 9. The definitions of world/specs say of an event in the world that the
-- state means: there is what it names, the station's condition and marks allow it, a reply would make a counter 65,536, the letters in
-- flight after it are at most 4,096
pub data Step (s : State) (e : Event) : ℕ → Type 0 where
  eleven : BadState s → Step s e 11
  six : GoodState s → T (not (exists (world_of s) e)) → Step s e 6
  seven : GoodState s → T (exists (world_of s) e) → T (not (rule (world_of s) e).allowed) → Step s e 7
  eight : GoodState s → T (exists (world_of s) e) → T (rule (world_of s) e).allowed → T (rule (world_of s) e).over → Step s e 8
  nine : GoodState s → T (exists (world_of s) e) → T (rule (world_of s) e).allowed → T (not (rule (world_of s) e).over)
      → T (not (fits (world_of s) e)) → Step s e 9
  taken : GoodState s → T (exists (world_of s) e) → T (rule (world_of s) e).allowed → T (not (rule (world_of s) e).over)
      → T (fits (world_of s) e) → Step s e 0

-- ---- THE CALL OVER MANY EVENTS (document 02, L1). Calls of the step one by one, three numbers each, on the state that the one before
-- handed back: all are taken; or one or two numbers are left over, which is 6; or an event is refused, with its number
pub data Stopped : State → List ℕ → ℕ → Type 0 where
  all_taken : {s : State} → Stopped s [] 0
  one_over : {s : State} {x : ℕ} → Stopped s (x ∷ []) 6
  two_over : {s : State} {x y : ℕ} → Stopped s (x ∷ y ∷ []) 6
  refused : {s : State} {kind a b n : ℕ} {rest : List ℕ} → Step s (event kind a b) n → (n ≡ 0 → ⊥) → Stopped s (kind ∷ a ∷ b ∷ rest) n
  goes_on : {s : State} {kind a b n : ℕ} {rest : List ℕ} (c : Steps s (event kind a b)) → c.answer.answer ≡ 0
      → Stopped c.answer.state rest n
      → Stopped s (kind ∷ a ∷ b ∷ rest) n

-- "A bad state is 11, even for an empty list"
pub data Backlog (s : State) (events : List ℕ) : ℕ → Type 0 where
  eleven : BadState s → Backlog s events 11
  told : {n : ℕ} → GoodState s → Stopped s events n → Backlog s events n

-- how many numbers a run's trace has: three for each event of the list, one or two numbers left over being one more
abbrev pub trace_size : List ℕ → ℕ
trace_size events = 3 * ((length events + 2) / 3)

-- ---- THE RUN WITH ANSWERS, into a lent trace: 11, 10. A refused event has its number in the trace, and refuses no call
pub data Run (s : State) (events old : List ℕ) : ℕ → Type 0 where
  eleven : BadState s → Run s events old 11
  -- the lent trace is too short
  ten : GoodState s → length old < trace_size events → Run s events old 10
  taken : GoodState s → trace_size events ≤ length old → Run s events old 0

-- ---- THE REACH of station a: 11, 6, 7
pub data Reach (s : State) (a : ℕ) : ℕ → Type 0 where
  eleven : BadState s → Reach s a 11
  -- no such station
  six : GoodState s → s.net.stations ≤ a → Reach s a 6
  -- it isn't live
  seven : GoodState s → a < s.net.stations → T (not (is_live (station_in s a).condition)) → Reach s a 7
  taken : GoodState s → a < s.net.stations → T (is_live (station_in s a).condition) → Reach s a 0

-- how many bytes a report has: one per station, then one per link
abbrev pub report_size : State → ℕ
report_size s = s.net.stations + s.net.links

-- ---- THE REPORT of station a into lent output: 11, 6, 7, 10
pub data Report (s : State) (a : ℕ) (old : List ℕ) : ℕ → Type 0 where
  eleven : BadState s → Report s a old 11
  six : GoodState s → s.net.stations ≤ a → Report s a old 6
  seven : GoodState s → a < s.net.stations → T (not (is_live (station_in s a).condition)) → Report s a old 7
  -- the lent output is too short
  ten : GoodState s → a < s.net.stations → T (is_live (station_in s a).condition) → length old < report_size s → Report s a old 10
  taken : GoodState s → a < s.net.stations → T (is_live (station_in s a).condition) → report_size s ≤ length old → Report s a old 0
