use Rattle.std.proofs.Common.{arith, rules}
use lib.ListN.{take}
use Rattle.lists.specs.Words.{in_word}
use Rattle.reach.proofs.PurgingTables.{purge_more, purge_made}
use Rattle.reach.proofs.purged.Goals as goal

pub loop-k-preserved : goal.loop-k-preserved
loop-k-preserved c =
    purge_more c.args.net (take c.min-links.result c.args.counters) _ c.loop-k.k _ _ (omega arith) c.loop-k.invariant c.purge_one.ensures

pub returns : goal.returns
returns c =
    purge_made c.args.net c.args.counters _ (in_word c.args.working) c.args.s _ _ c.loop-k.k (search rules) c.min-links.ensures
    c.loop-k-test.false c.loop-k.auto.k-end c.loop-k.invariant c.reach_word-w.ensures
