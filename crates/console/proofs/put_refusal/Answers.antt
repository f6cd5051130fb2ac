use Rattle.std.proofs.Common.{rules}
use mathlib.Core.Path.{refl}
use native.Mathlib.Omega.{arith}
use Rattle.text.proofs.Lines.{adds_put, adds_then}
use Rattle.console.specs.Sheets.{refusal_text}
use Rattle.console.proofs.Puts.{refusal_few, line_answer, line_output, line_counts}
use Rattle.console.proofs.put_refusal.Goals as goal

pub returns : goal.returns
unfolding refusal_text
returns c =
    let whole = adds_then (adds_put c.number.ensures) c.word.ensures in
    let few = refusal_few c.args.n (omega arith) in
    record {
      answer = line_answer 4 whole refl few (omega arith);
      output = line_output 4 whole refl few (omega arith) (search rules);
      room = line_counts 4 whole refl few (omega arith) (search rules);
    }
