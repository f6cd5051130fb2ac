use Rattle.event_program.proofs.Parts.{ran_unlisted, ran_refused, ran_all}
use Rattle.event_program.proofs.run_lines.Goals as goal

pub returns-in-Err : goal.returns-in-Err
returns-in-Err c =
    let a = c.args in
    let l = c.in-Err.ensures in
    let t = ran_unlisted a.given a.t a.r a.bytes.now a.list.now a.trace.now _ l.list c.in-Err.short c.number.result
    l.answer c.number.ensures in
    record { answer = t.0; list = t.1.0; trace = t.1.1.0; room = t.1.1.1 }

pub returns-then-done-ne0 : goal.returns-then-done-ne0
returns-then-done-ne0 c =
    let a = c.args in
    let l = c.in-Ok.ensures in
    let done = c.run_with_answers-done in
    let t = ran_refused a.given a.t a.r a.bytes.now a.list.now a.trace.now _ l.list c.in-Ok.listed l.answer
    done.result _ done.ensures c.if-done-ne0.true in
    record { answer = t.0; list = t.1.0; trace = t.1.1.0; room = t.1.1.1 }

pub returns : goal.returns
returns c =
    let a = c.args in
    let l = c.in-Ok.ensures in
    let done = c.run_with_answers-done in
    let t = ran_all a.given a.t a.r a.bytes.now a.list.now a.trace.now _ l.list c.in-Ok.listed l.answer
    done.result _ done.ensures c.if-done-ne0.false in
    record { answer = t.0; list = t.1.0; trace = t.1.1.0; room = t.1.1.1 }
