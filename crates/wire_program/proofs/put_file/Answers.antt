use mathlib.Core.Path.{ap, ◌∙◌, subst}
use mathlib.Core.List.{List, ◌++◌}
use Prim.Native.Nat.{ℕ, ◌≤◌}
use lib.ListN.{length}
use Rattle.text.proofs.Lines.{adds_put, adds_more, adds_same, adds_then}
use Rattle.console.specs.Sheets.{refusal_text}
use Rattle.wire_program.specs.Line.{sheet_word, sheet_most}
use Rattle.wire_program.proofs.Written.{opened_good, opened_refused, sheet_few, refused_few}
use Rattle.wire_program.proofs.put_file.Goals as goal

pub put_network-requires : goal.put_network-requires
put_network-requires c = (opened_good c.args.file.now c.in-Ok.net c.in-Ok.ensures).0

pub returns-in-Ok : goal.returns-in-Ok
returns-in-Ok c =
    let w = opened_good c.args.file.now c.in-Ok.net c.in-Ok.ensures in
    record {
      text = adds_same w.1 c.put_network.ensures;
      few = subst (λ (l : List ℕ). length l ≤ sheet_most) w.1 (sheet_few c.in-Ok.net w.0);
    }

pub returns-in-Err : goal.returns-in-Err
unfolding refusal_text
returns-in-Err c =
    let same = ap (λ (n : ℕ). sheet_word ++ refusal_text n) c.number.ensures
    ∙ opened_refused c.args.file.now c.in-Err.error c.in-Err.ensures in
    record {
      text = adds_same same (adds_more (adds_put c.word.ensures) (adds_then (adds_put c.number-in-Err.ensures) c.word-in-Err.ensures));
      few = subst (λ (l : List ℕ). length l ≤ sheet_most) same (refused_few c.number.result c.number.type_inv);
    }
