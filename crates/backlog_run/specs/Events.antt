-- What the private steps of the code answer.
use Rattle.std.specs.Prelude.{ℕ, ◌+◌, ◌*◌, ◌/◌, ◌%◌, ◌≤◌, Bool, true, false, ◌≡◌, List, eqb, leb, length, get_or, if◌then◌else◌}
use Rattle.tally.specs.declared.Tally.{Tally}
use Rattle.station.specs.Events.{kind_of}
use Rattle.state.specs.declared.State.{State}
use Rattle.step_parts.specs.Parts.{place_by}
use Rattle.backlog_rules.specs.declared.Taken.{Taken}
use Rattle.backlog_rules.specs.Backlog.{calls}
use Rattle.backlog_rules.specs.Answers.{RanThrough}
use Rattle.backlog_run.specs.declared.Asked.{Asked}

-- three numbers, and what they say
abbrev pub asking : ℕ → ℕ → ℕ → Asked
asking kind a b = record { kind = kind; a = a; b = b; what = kind_of kind; place = place_by a }

abbrev pub numbers : List ℕ → ℕ → Asked
numbers events i = asking (get_or events (3 * i) 0) (get_or events (3 * i + 1) 0) (get_or events (3 * i + 2) 0)

-- event i of a list; one or two numbers left over name no kind
unfoldable pub asked_at : List ℕ → ℕ → Asked
asked_at events i = if leb (length events / 3) i then asking 0 0 0 else numbers events i

-- how many events so many numbers are, those left over among them
unfoldable pub event_count : ℕ → ℕ
event_count size = if eqb (size % 3) 0 then size / 3 else size / 3 + 1

-- where it stops it is the backlog's call; where it goes on, with room in the trace, the run with answers
pub record Went (stops : Bool) (s : State) (t : Tally) (events old : List ℕ) (r : Taken) (new : List ℕ) : Type 0 where
  pub stopped : stops ≡ true → r ≡ calls s t events
  pub ran : stops ≡ false → 3 * event_count (length events) ≤ length old → RanThrough events s t old r.state r.tally new
