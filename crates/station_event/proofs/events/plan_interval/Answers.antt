use Rattle.station_event.proofs.Small.{interval_done}
use Rattle.station_event.proofs.events.plan_interval.Goals as goal

pub returns : goal.returns
returns c =
    let h = c.args.here in
    interval_done h.condition h.marks h.link _ _ c.marks_at-m.ensures c.may_end.ensures _ _ _ _ _
    c.if-not-may_end.false c.tests_now.ensures c.put-requests.ensures c.interval_marks.ensures
    c.with_marks-after.ensures c.turning.ensures
