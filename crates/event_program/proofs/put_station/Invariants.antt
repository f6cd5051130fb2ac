use Rattle.event_program.proofs.Stations.{counter_text}
use Rattle.text.specs.Line.{Adds}
use Rattle.lists.specs.Places.{collect}
use Rattle.text.specs.Text.{digits}
use lib.ListN.{take}
use mathlib.Core.List.{[], ◌++◌}
use Rattle.event_program.proofs.put_station.Given as goal

abbrev pub invariant-loop-counter : goal.invariant-loop-counter
invariant-loop-counter l = Adds (([] ++ digits l.i) ++ collect counter_text (take l.counter-index l.counters)) l.fn.line l.line
