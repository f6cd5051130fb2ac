use Rattle.std.proofs.Common.{get_or}
use Rattle.net.specs.Sizes.{station_room}
use Rattle.state.specs.State.{beyond}
use Rattle.run_rooms.specs.Rooms.{held_by, no_held}
use Rattle.run_rooms.proofs.Loops.{Filling}
use Rattle.run_rooms.proofs.held_of.Given as goal

abbrev pub invariant-loop-i : goal.invariant-loop-i
invariant-loop-i l = Filling (λ j. held_by (get_or l.st-items j beyond)) station_room no_held l.held l.i
