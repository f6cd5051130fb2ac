use Rattle.std.proofs.Common.{◌≡◌}
use Rattle.marks.proofs.OnePass.{owns_up_to}
use Rattle.marks.proofs.own_words.Given as goal

abbrev pub invariant-loop-k : goal.invariant-loop-k
invariant-loop-k l = l.owns ≡ owns_up_to l.fn.net l.k
