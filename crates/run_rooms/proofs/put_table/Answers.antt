use Rattle.std.proofs.Common.{arith}
use Rattle.run_rooms.proofs.Loops.{table_put}
use Rattle.run_rooms.proofs.put_table.Goals as goal

pub returns : goal.returns
returns c =
    table_put _ _ _ c.args.i c.min-first.result c.min-n.result _ c.min-first.ensures c.min-n.ensures
    (omega arith) (omega arith) c.copy_from_slice.ensures.after
