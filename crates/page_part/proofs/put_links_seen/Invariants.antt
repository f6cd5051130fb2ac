use Rattle.lists.specs.Lists.{below}
use Rattle.lists.specs.Places.{collect}
use Rattle.text.specs.Line.{Adds}
use Rattle.page_part.proofs.Texts.{link_by}
use Rattle.page_part.proofs.put_links_seen.Given as goal

abbrev pub invariant-loop-k : goal.invariant-loop-k
invariant-loop-k l = Adds (collect (link_by l.net l.seen) (below l.k)) l.initial.line l.line
