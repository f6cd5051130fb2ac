use Rattle.event_program.proofs.Parts.{Printing}
use Rattle.event_program.proofs.put_answers.Given as goal

abbrev pub invariant-loop-answer : goal.invariant-loop-answer
invariant-loop-answer l = Printing l.fn.trace l.initial.out l.answer-index l.at l.out
