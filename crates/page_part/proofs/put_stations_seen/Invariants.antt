use Rattle.lists.specs.Lists.{below}
use Rattle.lists.specs.Places.{collect}
use Rattle.text.specs.Line.{Adds}
use Rattle.page_part.proofs.Texts.{station_by}
use Rattle.page_part.proofs.put_stations_seen.Given as goal

abbrev pub invariant-loop-t : goal.invariant-loop-t
invariant-loop-t l = Adds (collect (station_by l.seen) (below l.t)) l.initial.line l.line
