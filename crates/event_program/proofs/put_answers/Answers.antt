use native.Mathlib.Omega.{arith}
use lib.ListN.{get_or}
use mathlib.Core.Path.{subst}
use mathlib.Core.List.{List, []}
use Prim.Native.Nat.{ℕ}
use Rattle.console.specs.Outputs.{Put}
use Rattle.event_program.proofs.Parts.{three_text, printing_more, printing_done}
use Rattle.event_program.proofs.put_answers.Goals as goal

pub loop-answer-preserved : goal.loop-answer-preserved
loop-answer-preserved c =
    let l = c.loop-answer in
    let put = c.put_answer-at in
    printing_more _ _ l.answer-index l.at l.out l.invariant (omega arith) (omega (arith, c.as_chunks.ensures.front_len)) _ _
    (subst (λ (xs : List (List ℕ)). Put (three_text (get_or xs l.answer-index [])) 63 l.at l.out put.result put.new.out)
    c.as_chunks.ensures.front put.ensures)

pub returns : goal.returns
returns c =
    let l = c.loop-answer in
    let t = printing_done _ _ l.answer-index l.at l.out l.invariant (omega arith) (omega (arith, c.as_chunks.ensures.front_len)) in
    record { answer = t.0; output = t.1.0; room = t.1.1 }
