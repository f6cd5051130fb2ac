use Rattle.std.proofs.Common.{arith}
use Rattle.lists.specs.Words.{bit_at}
use Rattle.report.proofs.Output.{fill_turn}
use Rattle.report.proofs.put_stations.Goals as goal

pub loop-t-preserved : goal.loop-t-preserved
loop-t-preserved c = fill_turn (bit_at c.args.word) _ _ c.loop-t.t _ c.loop-t.invariant c.station_shown.ensures (omega arith)
