use mathlib.Core.Path.{sym}
use Rattle.wire_program.proofs.LetterLineWritten.{was_read}
use Rattle.wire_program.proofs.put_read.Goals as goal

pub put_letter-requires : goal.put_letter-requires
put_letter-requires c = was_read c.args.net c.args.bytes.now c.in-Ok.letter (sym c.in-Ok.ensures)
