use Rattle.event_program.proofs.Stations.{Lines}
use Rattle.event_program.proofs.put_stations.Given as goal

abbrev pub invariant-loop-i : goal.invariant-loop-i
invariant-loop-i l = Lines l.fn.s l.i l.initial.line l.line
