use Rattle.std.proofs.Common.{◌≡◌}
use Rattle.lists.specs.Lists.{filled}
use Rattle.lists.specs.Words.{in_word}
use Rattle.report.specs.Steps.{link_shown}
use Rattle.report.proofs.put_links.Given as goal

abbrev pub invariant-loop-k : goal.invariant-loop-k
invariant-loop-k l = l.shown-items ≡ filled (link_shown l.net (in_word l.working) l.word) l.initial.shown-items l.k
