use Prim.Native.Nat.{◌*◌}
use mathlib.Core.Path.{◌≡◌}
use lib.ListN.{drop}
use Rattle.page_program.specs.Counting.{counting}
use Rattle.page_program.proofs.count_answers.Given as goal

-- the events so far are counted
abbrev pub invariant-loop-answer : goal.invariant-loop-answer
invariant-loop-answer l = counting l.fn.trace l.fn.before ≡ counting (drop (3 * l.answer-index) l.fn.trace) l.a
