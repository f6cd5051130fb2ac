use Rattle.step_parts.proofs.Helpers.{room_made}
use Rattle.step_parts.proofs.room_of.Goals as goal

pub returns : goal.returns
returns c =
    room_made c.args.kind c.args.flying c.args.place c.args.planned c.args.count c.args.letter c.takes_letter-leaves.ensures
    c.left_of-left.ensures c.number_of-answer.ensures c.gap_of-gap.ensures.from c.gap_of-gap.ensures.free c.freed-unused.ensures
