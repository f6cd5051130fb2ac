use Rattle.event_list.specs.Wholes.{Digits}
use Prim.Native.Nat.{◌+◌}
use Rattle.event_list.proofs.number_at.Given as goal

abbrev pub invariant-loop-i : goal.invariant-loop-i
invariant-loop-i l = Digits l.bytes l.from l.value (l.from + l.i)
