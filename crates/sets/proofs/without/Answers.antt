use Rattle.sets.proofs.WordLaws.{without_is}
use Rattle.sets.proofs.without.Goals as goal

pub returns : goal.returns
returns c = without_is c.args.a c.args.b c.ranges.a.fits c.ranges.b.fits
