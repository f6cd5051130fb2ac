use Rattle.std.proofs.Common.{◌+◌, ◌*◌, ◌≤◌, [], ◌∷◌, length, refl, sym, ◌∙◌, arith}
use Rattle.std.proofs.lemmas.Slice.{put_mid-paste}
use Rattle.text.proofs.Puts.{put_fits}
use Rattle.backlog_run.proofs.put_turn.Goals as goal

pub returns : goal.returns
returns c =
    let a = c.args in
    let turn = a.answer ∷ a.flying ∷ a.settled ∷ [] in
    let room : 3 * a.i + 3 ≤ length a.trace.now = omega arith in
    put_mid-paste _ _ _ _ turn 3 c.copy_from_slice.ensures.after (omega arith) refl ∙ sym (put_fits turn (3 * a.i) a.trace.now room)
