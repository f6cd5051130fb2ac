use Rattle.std.proofs.Common.{arith}
use Rattle.lists.proofs.Counts.{run}
use Rattle.reach.proofs.Numbers.{lowest_run, lowest_none}
use Rattle.reach.proofs.lowest_missing.Goals as goal

pub returns-then-z-from : goal.returns-then-z-from
returns-then-z-from c =
    lowest_run _ _ _ (run 32 c.args.word c.ranges.word.fits) (omega (arith, c.min-n.ensures, c.if-z-from.true))

pub returns-else-z-from : goal.returns-else-z-from
returns-else-z-from c =
    lowest_none _ _ _ (run 32 c.args.word c.ranges.word.fits) (omega (arith, c.min-n.ensures, c.if-z-from.false))
