use Rattle.event_list.proofs.Wholes.{next_small, next_digit}
use native.Mathlib.Omega.{arith}
use Rattle.event_list.proofs.number_at.Goals as goal

pub overflow_mul-value : goal.overflow_mul-value
overflow_mul-value c = let l = c.loop-i in omega (arith, next_small _ _ l.value l.i _ (omega arith) l.invariant c.loop-i-test.true)

pub overflow_add-value : goal.overflow_add-value
overflow_add-value c =
    let l = c.loop-i in
    let digit = c.if-not-is_ascii_digit.ensures.cases in
    omega (arith, next_small _ _ l.value l.i _ (omega arith) l.invariant c.loop-i-test.true)

pub loop-i-preserved : goal.loop-i-preserved
loop-i-preserved c =
    let l = c.loop-i in
    let digit = c.if-not-is_ascii_digit.ensures.cases in
    rw c.from.ensures (next_digit _ _ l.value l.i _ (omega arith) l.invariant c.loop-i-test.true digit.0 digit.1)
