-- The five loops: the test of the stations, of the letters in flight and of the places beyond them; the later letters close up; new
-- letters are put at the end.
use Rattle.state.proofs.Tested.{Placing, Gathering, Resting}
use Rattle.step_parts.proofs.Loops.{Closing, Filling}
use Rattle.step.proofs.step.Given as goal

abbrev pub invariant-loop-t : goal.invariant-loop-t
invariant-loop-t l = Placing l.fn.s l.owns l.placed l.t

abbrev pub invariant-loop-x : goal.invariant-loop-x
invariant-loop-x l = Gathering l.fn.s l.owns l.used l.ways l.ended l.most l.least l.x-index

abbrev pub invariant-loop-j : goal.invariant-loop-j
invariant-loop-j l = Resting l.s l.used l.half l.rest l.j

abbrev pub invariant-loop-i : goal.invariant-loop-i
invariant-loop-i l = Closing l.initial.s l.room.from l.last l.s l.i

abbrev pub invariant-loop-slot : goal.invariant-loop-slot
invariant-loop-slot l = Filling l.me l.told l.count l.initial.post l.slot-items l.post l.slot-index
