use Rattle.fields.proofs.Steps.{put_long, put_short, put_whole}
use Rattle.fields.proofs.put.Goals as goal

pub returns-in_default : goal.returns-in_default
returns-in_default c =
    let p = put_long c.args.tag c.args.value.now c.args.out.now c.in_default.ensures in record { size = p.0; output = p.1 }

pub returns-then-out-n : goal.returns-then-out-n
returns-then-out-n c =
    let p = put_short c.args.tag c.args.value.now c.args.out.now c.if-out-n.true in record { size = p.0; output = p.1 }

pub returns : goal.returns
returns c =
    let p = put_whole c.args.tag c.args.value.now c.args.out.now _ _ _ _ c.in-Ok.ensures c.if-out-n.false c.to_be_bytes.ensures
    c.copy_from_slice.ensures.after c.copy_from_slice-2.ensures.after in record { size = p.0; output = p.1 }
