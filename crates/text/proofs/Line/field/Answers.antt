use Rattle.std.proofs.Common.{rules}
use mathlib.Core.Path.{refl}
use Rattle.text.proofs.Parts.{field_end, field_taken, field_spelled}
use Rattle.text.proofs.Lines.{puts_same}
use Rattle.text.proofs.Line.field.Goals as goal

pub slice_bounds-room-end : goal.slice_bounds-room-end
slice_bounds-room-end c = field_end c.args.n c.ranges.n.fits refl refl c.number.ensures c.word.ensures (search rules)

pub slice_bounds-word-end-2 : goal.slice_bounds-word-end-2
slice_bounds-word-end-2 c = field_taken c.args.n c.ranges.n.fits refl refl c.number.ensures c.word.ensures (search rules)

-- the number and its space stand in the room
pub returns : goal.returns
returns c =
    puts_same (field_spelled c.args.n c.ranges.n.fits refl refl c.number.ensures c.word.ensures (search rules)) c.word-2.ensures
