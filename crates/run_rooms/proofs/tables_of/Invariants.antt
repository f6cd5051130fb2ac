use Rattle.run_rooms.proofs.Loops.{Tabling}
use Rattle.run_rooms.proofs.tables_of.Given as goal

abbrev pub invariant-loop-i : goal.invariant-loop-i
invariant-loop-i l = Tabling l.st-items l.tables l.i
