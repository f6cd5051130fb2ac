use Rattle.station_event.proofs.Parts.{letter_drops, letter_does}
use Rattle.station_event.proofs.plan_letter.Goals as goal

pub returns-in_default : goal.returns-in_default
returns-in_default c =
    let h = c.args.here in
    letter_drops h.own h.link h.counter _ h.condition h.marks h.me h.told c.args.letter _ c.settled_by-settled.ensures
    c.hearing-said.ensures _ c.in_default.not-Does c.plan_drop.ensures

pub returns : goal.returns
returns c =
    let h = c.args.here in
    letter_does h.own h.link h.counter _ h.condition h.marks h.me h.told c.args.letter _ c.settled_by-settled.ensures
    c.hearing-said.ensures _ _ c.in-Does.is c.plan_effect.ensures
