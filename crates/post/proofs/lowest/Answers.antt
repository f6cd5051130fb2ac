use Rattle.post.proofs.LinkLaws.{lowest_is, lowest_none}
use Rattle.post.proofs.lowest.Goals as goal

pub returns-then-z-lt64 : goal.returns-then-z-lt64
returns-then-z-lt64 c = lowest_is c.args.w c.ranges.w.fits c.if-z-lt64.true

pub returns-else-z-lt64 : goal.returns-else-z-lt64
returns-else-z-lt64 c = lowest_none c.args.w c.ranges.w.fits c.if-z-lt64.false
