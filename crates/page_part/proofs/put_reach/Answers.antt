use Rattle.text.proofs.Lines.{adds_put, adds_then}
use Rattle.page_part.specs.Texts.{reach_text}
use Rattle.page_part.proofs.put_reach.Goals as goal

pub returns : goal.returns
unfolding reach_text
returns c =
    let number = adds_then (adds_put c.word.ensures) c.number.ensures in
    let ones = adds_then (adds_then number c.word-2.ensures) c.number-2.ensures in
    adds_then (adds_then ones c.word-3.ensures) c.number-3.ensures
