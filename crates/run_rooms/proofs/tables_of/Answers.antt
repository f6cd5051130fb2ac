use Rattle.std.proofs.Common.{arith}
use Rattle.run_rooms.proofs.Loops.{tables_none, tables_more, tables_all}
use Rattle.run_rooms.proofs.tables_of.Goals as goal

pub loop-i-init : goal.loop-i-init
loop-i-init c = tables_none _

pub loop-i-preserved : goal.loop-i-preserved
loop-i-preserved c =
    tables_more c.loop-i.invariant (omega arith) _ _ (omega arith)
    (omega (arith, c.copy_from_slice.ensures.len)) c.copy_from_slice.ensures.after

pub returns : goal.returns
returns c = tables_all c.loop-i.invariant (omega (arith, c.loop-i.invariant.within))
