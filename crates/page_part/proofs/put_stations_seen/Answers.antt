use Rattle.console.proofs.Puts.{texts_more}
use Rattle.text.proofs.Lines.{adds_none, adds_more, adds_same}
use Rattle.page_part.proofs.Texts.{station_by}
use Rattle.page_part.proofs.put_stations_seen.Goals as goal

pub loop-t-init : goal.loop-t-init
loop-t-init c = adds_none c.args.line.now

pub loop-t-preserved : goal.loop-t-preserved
loop-t-preserved c =
    let l = c.loop-t in adds_same (texts_more (station_by c.args.seen.now) l.t) (adds_more l.invariant c.put_seen.ensures)
