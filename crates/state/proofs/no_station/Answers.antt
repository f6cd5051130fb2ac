use Rattle.std.proofs.Common.{arith}
use Rattle.station.specs.Values.{blank}
use Rattle.state.proofs.no_station.Goals as goal

pub returns : goal.returns
unfolding blank
returns c = grind arith
