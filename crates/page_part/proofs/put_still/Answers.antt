use Rattle.text.proofs.Lines.{adds_put, adds_then, puts_same}
use Rattle.page_part.specs.Texts.{still_text}
use Rattle.page_part.proofs.put_still.Goals as goal

pub returns : goal.returns
unfolding still_text
returns c =
    let number = adds_then (adds_put c.word.ensures) c.number.ensures in
    adds_then number (puts_same c.condition_word.ensures c.word-2.ensures)
