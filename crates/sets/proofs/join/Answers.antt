use Rattle.sets.proofs.WordLaws.{join_is}
use Rattle.sets.proofs.join.Goals as goal

pub returns : goal.returns
returns c = join_is c.args.a c.args.b c.ranges.a.fits c.ranges.b.fits
