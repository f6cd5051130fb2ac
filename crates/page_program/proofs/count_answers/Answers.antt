use mathlib.Core.Path.{refl, sym, ◌∙◌}
use native.Mathlib.Omega.{arith}
use Rattle.page_program.proofs.Counting.{counting_more, counting_none}
use Rattle.page_program.proofs.count_answers.Goals as goal

pub loop-answer-init : goal.loop-answer-init
loop-answer-init c = refl

pub loop-answer-preserved : goal.loop-answer-preserved
loop-answer-preserved c =
    let l = c.loop-answer in
    let e = c.as_chunks.ensures in
    l.invariant ∙ counting_more c.args.trace.now l.a _ l.answer-index (omega (arith, e.front_len)) e.front c.count_answer-a.ensures

pub returns : goal.returns
returns c =
    let l = c.loop-answer in
    sym (l.invariant ∙ counting_none c.args.trace.now l.a l.answer-index (omega (arith, c.as_chunks.ensures.front_len)))
