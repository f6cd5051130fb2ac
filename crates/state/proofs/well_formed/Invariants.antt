use Rattle.state.proofs.Tested.{Placing, Gathering, Resting}
use Rattle.state.proofs.well_formed.Given as goal

abbrev pub invariant-loop-i : goal.invariant-loop-i
invariant-loop-i l = Placing l.fn.s l.owns l.placed l.i

abbrev pub invariant-loop-x : goal.invariant-loop-x
invariant-loop-x l = Gathering l.fn.s l.owns l.used l.ways l.ended l.most l.least l.x-index

abbrev pub invariant-loop-j : goal.invariant-loop-j
invariant-loop-j l = Resting l.fn.s l.used l.half l.rest l.j
