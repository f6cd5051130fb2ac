use Rattle.std.proofs.Common.{rules, sym, ◌∙◌}
use Rattle.station_event.proofs.Small.{timeout_even}
use Rattle.station_event.proofs.events.plan_timeout.Goals as goal

pub returns : goal.returns
returns c =
    let h = c.args.here in
    timeout_even h.condition h.marks h.link h.own h.counter _ (sym c.has.ensures ∙ c.if-not-has.false)
    c.is_even.ensures _ _ _ _ _ _ c.if-not-is_even.false
    c.failed_words.ensures c.put.ensures c.without-loud.ensures c.put-2.ensures c.timed_out.ensures
    (search rules)
