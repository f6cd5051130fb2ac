use Rattle.std.proofs.Common.{◌≡◌}
use lib.ListN.{take}
use Rattle.lists.specs.Lists.{filled}
use Rattle.reach.proofs.PurgingTables.{purged_at}
use Rattle.reach.proofs.purged.Given as goal

abbrev pub invariant-loop-k : goal.invariant-loop-k
invariant-loop-k l = l.counter-items ≡ filled (purged_at l.net (take l.links l.fn.counters) l.w) (take l.links l.fn.counters) l.k
