use mathlib.Core.Path.{refl}
use native.Mathlib.Omega.{arith}
use Rattle.std.proofs.lemmas.Grind.{common_steps}
use Rattle.text.proofs.Spelled.{not_first, putting_more, putting_all, number_one}
use Rattle.text.proofs.Line.number.Goals as goal

pub returns-then-n-lt10 : goal.returns-then-n-lt10
returns-then-n-lt10 c =
    let a = c.args.self.now in
    let w = number_one c.args.n a.at a.out.now (omega arith) (grind (arith, common_steps)) in
    record { same = refl; place = w.0; output = w.1 }

pub overflow_sub-i-in-loop-m : goal.overflow_sub-i-in-loop-m
overflow_sub-i-in-loop-m c = let l = c.loop-m in not_first _ _ _ l.m l.i l.self.out.now l.invariant.digits (omega arith)

pub loop-m-preserved : goal.loop-m-preserved
loop-m-preserved c =
    let l = c.loop-m in
    record { same = l.invariant.same; digits = putting_more _ _ _ l.m l.i l.self.out.now l.invariant.digits (omega arith) }

pub returns : goal.returns
returns c =
    let l = c.loop-m in
    let w = putting_all _ _ _ l.m l.i l.self.out.now l.invariant.digits _ c.digit_count-count.ensures (grind (arith, common_steps))
    (omega arith) in
    record { same = l.invariant.same; place = w.0; output = w.1 }
