use Rattle.post.proofs.Counts.{ones_members}
use Rattle.post.proofs.size.Goals as goal

pub returns : goal.returns
returns c = ones_members c.args.w c.ranges.w.fits
