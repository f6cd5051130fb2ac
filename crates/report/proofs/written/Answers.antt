use Rattle.std.proofs.Common.{arith, refl}
use Rattle.lists.specs.Words.{in_word}
use Rattle.report.specs.Steps.{report_in}
use Rattle.report.proofs.Output.{too_short, length_in, report_put}
use Rattle.report.proofs.written.Goals as goal

pub returns-then-out-size-clause-answer : goal.returns-then-out-size-clause-answer
returns-then-out-size-clause-answer c =
    let a = c.args in
    (too_short (report_in a.net (in_word a.working) a.me) a.out.now
    (omega (arith, c.if-out-size.true, length_in a.net (in_word a.working) a.me, c.at_most-m.ensures, c.at_most-n.ensures))).0

pub returns-then-out-size-clause-output : goal.returns-then-out-size-clause-output
returns-then-out-size-clause-output c =
    let a = c.args in
    (too_short (report_in a.net (in_word a.working) a.me) a.out.now
    (omega (arith, c.if-out-size.true, length_in a.net (in_word a.working) a.me, c.at_most-m.ensures, c.at_most-n.ensures))).1

pub returns-clause-answer : goal.returns-clause-answer
returns-clause-answer c =
    let a = c.args in
    (report_put a.net (in_word a.working) a.me _ c.reach_word-word.ensures _ _ c.at_most-n.ensures
    c.at_most-m.ensures a.out.now _ _ _ c.if-out-size.false
    c.put_stations.ensures c.put_links.ensures refl).0

pub returns-clause-output : goal.returns-clause-output
returns-clause-output c =
    let a = c.args in
    (report_put a.net (in_word a.working) a.me _ c.reach_word-word.ensures _ _ c.at_most-n.ensures
    c.at_most-m.ensures a.out.now _ _ _ c.if-out-size.false
    c.put_stations.ensures c.put_links.ensures refl).1
