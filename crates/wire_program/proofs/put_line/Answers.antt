use mathlib.Core.Path.{ap, subst}
use native.Mathlib.Omega.{arith}
use lib.ListN.{length}
use mathlib.Core.List.{List}
use Prim.Native.Nat.{ℕ, ◌≤◌}
use Rattle.std.specs.Prelude.{Option}
use Rattle.hex_lines.specs.HexSteps.{hex_says}
use Rattle.hex_lines.proofs.Hex.{hex_size}
use Rattle.text.proofs.Lines.{adds_put, adds_same}
use Rattle.wire_program.specs.Passing.{spoken}
use Rattle.wire_program.proofs.put_line.Goals as goal

-- the bytes of a line stand in the reading's room
pub shared_ref_as_front-put_read : goal.shared_ref_as_front-put_read
shared_ref_as_front-put_read c = hex_size c.args.r _ c.in-Some.ensures

pub returns-in-None : goal.returns-in-None
returns-in-None c =
    let same = ap (λ (n : Option ℕ). spoken c.args.net (hex_says n c.args.r.bytes)) c.in-None.ensures in
    record {
      text = adds_same same (adds_put c.word.ensures);
      few = subst (λ (l : List ℕ). length l ≤ 64) same (omega arith);
    }
