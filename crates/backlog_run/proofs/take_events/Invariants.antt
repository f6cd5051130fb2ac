use Rattle.std.proofs.Common.{◌≡◌, ◌≤◌, length}
use Rattle.run_rooms.specs.Rooms.{table_in, state_in}
use Rattle.backlog_run.specs.Events.{event_count}
use Rattle.backlog_run.proofs.Posting.{Posting}
use Rattle.backlog_run.proofs.Running.{Running}
use Rattle.backlog_run.proofs.take_events.Given as goal

-- while new letters are put behind them
abbrev pub invariant-loop-z : goal.invariant-loop-z
invariant-loop-z l = Posting l.me (table_in l.tables l.me) l.initial.post l.count l.z-items l.post l.z-index

-- between two events
abbrev pub invariant-loop-taken : goal.invariant-loop-taken
invariant-loop-taken l = record {
  within : l.taken ≤ l.n;
  whole : l.n ≡ event_count (length l.events);
  running : Running l.stops l.events l.fn.trace
      (state_in l.net l.initial.held l.initial.tables l.initial.room 0 l.initial.flying)
      l.initial.tally l.net l.held l.tables l.room l.start l.flying l.tally l.taken l.trace;
}
