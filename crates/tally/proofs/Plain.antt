-- Counts that nothing bounds: none, and the sum of two.
use Prim.Native.Nat.{◌+◌}
use Rattle.tally.specs.declared.Tally.{Tally}

abbrev pub no_counts : Tally
no_counts = record { settled = 0; raised = 0; dropped = 0 }

abbrev pub plus : Tally → Tally → Tally
plus n m = record { settled = n.settled + m.settled; raised = n.raised + m.raised; dropped = n.dropped + m.dropped }
