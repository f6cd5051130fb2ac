use Rattle.std.proofs.Common.{◌≡◌, get_or, ltb}
use Rattle.sets.specs.Sets.{word_by, up_to}
use Rattle.station_table.proofs.known_links.Given as goal

abbrev pub invariant-loop-k : goal.invariant-loop-k
invariant-loop-k l = l.known ≡ word_by (up_to (λ j. ltb 1 (get_or l.fn.counters j 0)) l.k)
