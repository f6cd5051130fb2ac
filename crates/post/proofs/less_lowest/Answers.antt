use Rattle.post.proofs.LinkLaws.{less_fits, less_is, less_none}
use Rattle.post.proofs.less_lowest.Goals as goal

pub overflow_sub-result : goal.overflow_sub-result
overflow_sub-result c = less_fits c.args.w c.ranges.w.fits c.if-z-lt64.true

pub returns-then-z-lt64 : goal.returns-then-z-lt64
returns-then-z-lt64 c = less_is c.args.w c.ranges.w.fits c.if-z-lt64.true

pub returns-else-z-lt64 : goal.returns-else-z-lt64
returns-else-z-lt64 c = less_none c.args.w c.ranges.w.fits c.if-z-lt64.false
