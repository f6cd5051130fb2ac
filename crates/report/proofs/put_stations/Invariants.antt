use Rattle.std.proofs.Common.{◌≡◌}
use Rattle.lists.specs.Lists.{filled}
use Rattle.lists.specs.Words.{bit_at}
use Rattle.report.proofs.put_stations.Given as goal

abbrev pub invariant-loop-t : goal.invariant-loop-t
invariant-loop-t l = l.shown-items ≡ filled (bit_at l.word) l.initial.shown-items l.t
