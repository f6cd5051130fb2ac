use borrow.Author.Rules.{rules}
use native.Mathlib.Omega.{arith}
use Rattle.text.proofs.Spelled.{counted_none, counted_all, counted_more, counted_last}
use Rattle.text.proofs.digit_count.Goals as goal

pub loop-count-init : goal.loop-count-init
loop-count-init c = (omega arith, counted_none _)

pub returns-then-n-top : goal.returns-then-n-top
returns-then-n-top c = let l = c.loop-count in counted_all _ l.top l.count l.invariant.1 c.if-n-top.true

pub loop-count-preserved : goal.loop-count-preserved
loop-count-preserved c =
    let l = c.loop-count in (omega arith, counted_more _ l.top l.count l.invariant.1 c.if-n-top.false)

pub returns : goal.returns
returns c = let l = c.loop-count in counted_last _ l.top l.count l.invariant.1 (omega arith) (search rules)
