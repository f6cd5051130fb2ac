use mathlib.Core.Path.{sym}
use Rattle.lists.proofs.Words.{beyond}
use Rattle.sets.proofs.bit_of.Goals as goal

pub returns-else-t-lt32 : goal.returns-else-t-lt32
returns-else-t-lt32 c = sym (beyond 32 _ _ c.ranges.w.fits c.if-t-lt32.false)
