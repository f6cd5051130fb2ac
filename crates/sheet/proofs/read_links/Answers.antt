use Rattle.std.proofs.Common.{refl}
use Rattle.std.proofs.lemmas.Result.{err_from_is_err_and}
use Rattle.sheet.proofs.Loop.{standing_first, standing_wrong, standing_last, standing_full, standing_link}
use Rattle.sheet.proofs.read_links.Goals as goal

pub loop-ends-init : goal.loop-ends-init
loop-ends-init c = (refl, standing_first c.args.n c.args.bytes.now)

pub returns-in_err-ends : goal.returns-in_err-ends
returns-in_err-ends c =
    let p = err_from_is_err_and c.from_residual.result c.from_residual.ensures.1 in
    rw (p.1, p.2) (standing_wrong c.loop-ends.invariant.1 _ c.in_err-ends.ensures)

pub returns-then-net-ge-MOST_LINKS : goal.returns-then-net-ge-MOST_LINKS
returns-then-net-ge-MOST_LINKS c =
    standing_full c.loop-ends.invariant.1 _ _ _ (rw c.in-Some.is at c.in_ok-ends.ensures) c.if-net-ge-MOST_LINKS.true

pub loop-ends-preserved : goal.loop-ends-preserved
loop-ends-preserved c =
    let s = standing_link c.loop-ends.invariant.1 _ _ _ (rw c.in-Some.is at c.in_ok-ends.ensures) c.if-net-ge-MOST_LINKS.false in
    (c.loop-ends.invariant.0, s)

pub returns : goal.returns
returns c = standing_last c.loop-ends.invariant.1 _ c.loop-ends.invariant.0 (rw c.in_default.is at c.in_ok-ends.ensures)
