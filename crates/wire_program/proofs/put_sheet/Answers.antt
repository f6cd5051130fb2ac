use Rattle.std.proofs.Common.{rules}
use mathlib.Core.Path.{refl}
use native.Mathlib.Omega.{arith}
use Rattle.console.proofs.Puts.{line_answer, line_output, line_counts}
use Rattle.wire_program.specs.Line.{sheet_most}
use Rattle.wire_program.proofs.put_sheet.Goals as goal

pub returns : goal.returns
returns c =
    let w = c.put_file.ensures in
    record {
      answer = line_answer sheet_most w.text refl w.few (omega arith);
      output = line_output sheet_most w.text refl w.few (omega arith) (search rules);
      room = line_counts sheet_most w.text refl w.few (omega arith) (search rules);
    }
