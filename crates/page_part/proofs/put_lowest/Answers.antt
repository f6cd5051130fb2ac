use Rattle.page_part.proofs.Texts.{lowest_all, lowest_whole}
use Rattle.text.proofs.Lines.{adds_put, adds_then, adds_same}
use Rattle.page_part.proofs.put_lowest.Goals as goal

pub returns-then-lowest-eq255 : goal.returns-then-lowest-eq255
returns-then-lowest-eq255 c = adds_same (lowest_all c.args.lowest c.if-lowest-eq255.true) (adds_put c.word.ensures)

pub returns : goal.returns
returns c =
    adds_same (lowest_whole c.args.lowest c.if-lowest-eq255.false)
    (adds_then (adds_then (adds_put c.word-2.ensures) c.number.ensures) c.word-3.ensures)
