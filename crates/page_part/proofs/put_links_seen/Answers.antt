use Rattle.console.proofs.Puts.{texts_more}
use Rattle.text.proofs.Lines.{adds_none, adds_more, adds_same}
use Rattle.page_part.proofs.Texts.{link_by}
use Rattle.page_part.proofs.put_links_seen.Goals as goal

pub loop-k-init : goal.loop-k-init
loop-k-init c = adds_none c.args.line.now

pub loop-k-preserved : goal.loop-k-preserved
loop-k-preserved c =
    let l = c.loop-k in adds_same (texts_more (link_by c.args.net c.args.seen.now) l.k) (adds_more l.invariant c.put_link.ensures)
