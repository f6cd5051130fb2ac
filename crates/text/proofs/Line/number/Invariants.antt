use mathlib.Core.Path.{◌≡◌}
use Rattle.text.proofs.Spelled.{Putting}
use Rattle.text.proofs.Line.number.Given as goal

abbrev pub invariant-loop-m : goal.invariant-loop-m
invariant-loop-m l = record {
  same : l.self.out.ghost_name ≡ l.initial.self.out.ghost_name;
  digits : Putting l.n l.at l.initial.self.out.now l.m l.i l.self.out.now;
}

abbrev pub decreases-loop-m : goal.decreases-loop-m
decreases-loop-m l = l.m
