use Rattle.std.proofs.Common.{rules}
use mathlib.Core.Path.{refl}
use native.Mathlib.Omega.{arith}
use Rattle.text.proofs.Lines.{adds_put, adds_then, adds_same}
use Rattle.console.proofs.Puts.{line_answer, line_output, line_counts}
use Rattle.backlog_program.specs.Backlog.{first_most}
use Rattle.backlog_program.proofs.Firsts.{first_whole, first_few}
use Rattle.backlog_program.proofs.put_backlog.Goals as goal

pub returns : goal.returns
returns c =
    let a = c.args in
    let fields = adds_then (adds_then (adds_then (adds_put c.number.ensures) c.word.ensures) c.field.ensures) c.field-2.ensures in
    let whole = adds_same (first_whole a.taken a.answer a.flying a.settled)
    (adds_then (adds_then fields c.number-2.ensures) c.word-2.ensures) in
    let few = first_few a.taken a.answer a.flying a.settled (omega arith) (omega arith) (omega arith) (omega arith) in
    record {
      answer = line_answer first_most whole refl few (omega arith);
      output = line_output first_most whole refl few (omega arith) (search rules);
      room = line_counts first_most whole refl few (omega arith) (search rules);
    }
