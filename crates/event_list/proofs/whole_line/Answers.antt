use Rattle.event_list.proofs.Wholes.{whole}
use Rattle.event_list.proofs.whole_line.Goals as goal

pub returns : goal.returns
returns c = whole _ _ _ _ _ _ _ _ c.in_ok-kind.ensures c.in_ok-a.ensures c.in_ok-b.ensures _ c.if-not-fresh.false
