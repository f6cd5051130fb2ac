use Rattle.sets.proofs.WordLaws.{put_beyond, joined_is, taken_off_is}
use Rattle.sets.proofs.put.Goals as goal

pub returns-then-k-ge64 : goal.returns-then-k-ge64
returns-then-k-ge64 c = put_beyond c.args.w c.args.k c.ranges.w.fits c.args.on c.if-k-ge64.true

pub returns-then-on : goal.returns-then-on
returns-then-on c = joined_is c.args.w c.args.k c.args.on c.ranges.w.fits c.if-k-ge64.false c.if-on.true

pub returns-else-on : goal.returns-else-on
returns-else-on c = taken_off_is c.args.w c.args.k c.args.on c.ranges.w.fits c.if-k-ge64.false c.if-on.false
