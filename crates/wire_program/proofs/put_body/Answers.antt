use Rattle.std.proofs.Common.{rules}
use mathlib.Core.Path.{sym, ap, subst}
use native.Mathlib.Omega.{arith}
use lib.ListN.{length, length-append}
use Prim.Native.Nat.{◌≤◌}
use Rattle.net.specs.declared.Body.{Body}
use Rattle.text.specs.Parts.{field_text}
use Rattle.text.proofs.Parts.{field_length}
use Rattle.text.proofs.Lines.{adds_none, adds_put, adds_then, adds_same}
use Rattle.wire_program.specs.LetterLineLine.{body_text}
use Rattle.wire_program.proofs.put_body.Goals as goal

abbrev Few : Body → Type 0
Few body = length (body_text body) ≤ 12

pub returns-in-Request : goal.returns-in-Request
returns-in-Request c =
    record {
      text = adds_same (sym (ap body_text c.in-Request.is)) (adds_none c.args.line.now);
      few = subst Few (sym c.in-Request.is) (omega arith);
    }

pub returns-in-Reply : goal.returns-in-Reply
returns-in-Reply c =
    record {
      text = adds_same (sym (ap body_text c.in-Reply.is)) (adds_put c.field.ensures);
      few = subst Few (sym c.in-Reply.is) (omega (arith, field_length c.in-Reply.c (search rules)));
    }

pub returns-in-Notice : goal.returns-in-Notice
returns-in-Notice c =
    let j = c.in-Notice.j in
    let n = c.in-Notice.c in
    record {
      text = adds_same (sym (ap body_text c.in-Notice.is)) (adds_then (adds_put c.field-in-Notice.ensures) c.field-in-Notice-2.ensures);
      few =
          subst Few (sym c.in-Notice.is)
          (omega (arith, length-append (field_text j) (field_text n), field_length j (search rules), field_length n (search rules)));
    }
