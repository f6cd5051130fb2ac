use Rattle.lists.proofs.Counts.{ones_bits}
use Rattle.reach.specs.ShowingValues.{ones_of}
use Rattle.reach.proofs.count_ones.Goals as goal

pub returns : goal.returns
unfolding ones_of
returns c = ones_bits 32 c.args.word c.ranges.word.fits
