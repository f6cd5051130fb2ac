use Rattle.backlog_program.proofs.Takes.{takes_none, takes_all}
use Rattle.backlog_program.proofs.take_lines.Goals as goal

pub returns-in-Err-clause-answer : goal.returns-in-Err-clause-answer
returns-in-Err-clause-answer c =
    let a = c.args in
    let l = c.in-Err.ensures in
    (takes_none a.ran a.bytes.now a.list.now c.if-ran-ne0.false c.in-Err.short _ c.number.result c.number.ensures l.answer l.list).0

pub returns-clause-answer : goal.returns-clause-answer
returns-clause-answer c =
    let a = c.args in
    let l = c.in-Ok.ensures in
    let done = c.run_backlog-done in
    (takes_all a.ran a.bytes.now a.list.now c.if-ran-ne0.false c.in-Ok.listed _ done.result done.ensures c.saturating_add.result
    c.saturating_add.ensures l.answer l.list).0
