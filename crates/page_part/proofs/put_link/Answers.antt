use Rattle.text.proofs.Lines.{adds_put, adds_then, puts_same}
use Rattle.page_part.specs.Texts.{link_text}
use Rattle.page_part.proofs.put_link.Goals as goal

pub returns : goal.returns
unfolding link_text
returns c =
    let number = adds_then (adds_put c.word.ensures) c.number.ensures in
    let low = adds_then (adds_then number c.word-2.ensures) c.number-2.ensures in
    let high = adds_then (adds_then low c.word-3.ensures) c.number-3.ensures in
    adds_then high (puts_same c.link_shown.ensures c.word-4.ensures)
