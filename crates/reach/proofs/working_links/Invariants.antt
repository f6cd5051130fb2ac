use Rattle.std.proofs.Common.{◌≡◌, get_or}
use Rattle.counters.specs.Counters.{even}
use Rattle.sets.specs.Sets.{word_by, up_to}
use Rattle.reach.proofs.working_links.Given as goal

abbrev pub invariant-loop-k : goal.invariant-loop-k
invariant-loop-k l = l.working ≡ word_by (up_to (λ j. even (get_or l.fn.counters j 0)) l.k)
