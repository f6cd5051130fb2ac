use mathlib.Core.Path.{sym, ◌∙◌}
use borrow.Author.Tests.{le-ltb}
use Rattle.lists.proofs.Words.{beyond, zero_is_out}
use Rattle.sets.proofs.has.Goals as goal

pub returns-else-k-lt64 : goal.returns-else-k-lt64
returns-else-k-lt64 c = le-ltb _ _ c.if-k-lt64.false ∙ sym (zero_is_out _ _ (beyond 64 _ _ c.ranges.w.fits c.if-k-lt64.false))
