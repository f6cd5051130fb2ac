use Rattle.text.proofs.Lines.{adds_put, adds_then, puts_same}
use Rattle.page_part.specs.Texts.{seen_text}
use Rattle.page_part.proofs.put_seen.Goals as goal

pub returns : goal.returns
unfolding seen_text
returns c =
    let number = adds_then (adds_put c.word.ensures) c.number.ensures in
    adds_then number (puts_same c.station_shown.ensures c.word-2.ensures)
