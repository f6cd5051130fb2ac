use Rattle.std.proofs.Common.{◌<◌, get_or, arith, ap, ◌∙◌, length-take}
use lib.Seq.{get_or-take}
use Rattle.counters.specs.Counters.{even}
use Rattle.sets.proofs.WordLaws.{upto_none, upto_more}
use Rattle.reach.proofs.working_links.Goals as goal

pub loop-k-init : goal.loop-k-init
loop-k-init c = upto_none _

pub loop-k-preserved : goal.loop-k-preserved
loop-k-preserved c =
    let h : c.loop-k.k < c.min-m.result = omega (arith, length-take c.min-m.result c.args.counters) in
    upto_more (λ j. even (get_or c.args.counters j 0)) c.loop-k.k c.loop-k.working _ _ c.loop-k.invariant
    (c.is_even.ensures ∙ ap even (get_or-take c.min-m.result c.args.counters c.loop-k.k 0 h)) c.put-working.ensures
