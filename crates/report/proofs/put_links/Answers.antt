use Rattle.std.proofs.Common.{arith}
use Rattle.lists.specs.Words.{in_word}
use Rattle.report.proofs.Output.{fill_turn, link_seen}
use Rattle.report.specs.Steps.{link_shown}
use Rattle.report.proofs.put_links.Goals as goal

pub loop-k-preserved : goal.loop-k-preserved
loop-k-preserved c =
    let a = c.args in
    let seen = link_seen a.net (in_word a.working) a.word c.loop-k.k _ _ c.link_shown.ensures c.has.ensures in
    fill_turn (link_shown a.net (in_word a.working) a.word) _ _ c.loop-k.k _ c.loop-k.invariant seen (omega arith)
