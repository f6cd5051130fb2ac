use Rattle.net.specs.Sizes.{station_room}
use Rattle.station.specs.Values.{blank}
use Rattle.run_rooms.specs.Rooms.{station_by}
use Rattle.run_rooms.proofs.Loops.{Filling}
use Rattle.run_rooms.proofs.stations_of.Given as goal

abbrev pub invariant-loop-i : goal.invariant-loop-i
invariant-loop-i l = Filling (station_by l.h-items l.tables) station_room blank l.stations l.i
