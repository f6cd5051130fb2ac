use Rattle.event_list.proofs.Lines.{Going}
use Rattle.event_lines.specs.Steps.{start}
use lib.ListN.{length}
use mathlib.Core.Bool.{true}
use mathlib.Core.Path.{◌≡◌}
use Prim.Native.Nat.{◌-◌}
use Rattle.event_list.proofs.list_lines.Given as goal

abbrev pub invariant-loop-whole : goal.invariant-loop-whole
invariant-loop-whole l = record {
  going : Going l.bytes l.initial.list l.initial.reading l.list l.reading l.at l.from;
  begins : l.fresh ≡ true → l.reading ≡ start;
}

abbrev pub decreases-loop-whole : goal.decreases-loop-whole
decreases-loop-whole l = length l.bytes - l.from
