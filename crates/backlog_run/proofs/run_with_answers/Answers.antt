use Rattle.std.proofs.Common.{◌*◌, ◌<◌, ◌≤◌, length, refl, sym, ◌∙◌, arith}
use Rattle.lists.proofs.Tests.{is_T}
use Rattle.backlog_rules.proofs.Tracing.{answers_bad, answers_short, answers_all}
use Rattle.backlog_run.specs.Events.{event_count}
use Rattle.backlog_run.proofs.Course.{count_covers, count_tight}
use Rattle.backlog_run.proofs.run_with_answers.Goals as goal

pub returns-then-not-well_formed : goal.returns-then-not-well_formed
returns-then-not-well_formed c =
    let a = c.args in
    answers_bad a.s a.t a.events.now a.trace.now (sym c.well_formed-2.ensures.0 ∙ c.if-not-well_formed.true)

pub returns-then-trace-event_count : goal.returns-then-trace-event_count
returns-then-trace-event_count c =
    let a = c.args in
    let size = length a.events.now in
    let short : length a.trace.now < 3 * event_count size = omega arith in
    answers_short a.s a.t a.events.now a.trace.now _ (count_covers size) (count_tight size)
    (is_T _ (sym c.well_formed-2.ensures.0 ∙ c.if-not-well_formed.false)) short

pub returns : goal.returns
returns c =
    let a = c.args in
    let size = length a.events.now in
    let room : 3 * event_count size ≤ length a.trace.now = omega arith in
    answers_all a.s a.t a.events.now a.trace.now _ (count_covers size) (count_tight size)
    (is_T _ (sym c.well_formed-2.ensures.0 ∙ c.if-not-well_formed.false)) room _ _ _ (c.take_events-done.ensures.ran refl room)
