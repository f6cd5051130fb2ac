use Rattle.std.proofs.Common.{rules}
use mathlib.Core.Path.{refl}
use native.Mathlib.Omega.{arith}
use Rattle.text.proofs.Lines.{adds_put, adds_then}
use Rattle.console.proofs.Puts.{line_answer, line_output, line_counts}
use Rattle.page_program.specs.Counting.{counts_text}
use Rattle.page_program.proofs.First.{counts_few}
use Rattle.page_program.proofs.put_counts.Goals as goal

pub returns : goal.returns
unfolding counts_text
returns c =
    let taken = adds_then (adds_put c.number.ensures) c.word.ensures in
    let whole = adds_then (adds_then taken c.number-2.ensures) c.word-2.ensures in
    let few = counts_few c.args.a.taken c.args.a.refused (omega arith) (omega arith) in
    record {
      answer = line_answer 64 whole refl few (omega arith);
      output = line_output 64 whole refl few (omega arith) (search rules);
      room = line_counts 64 whole refl few (omega arith) (search rules);
    }
