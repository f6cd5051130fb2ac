use Rattle.std.proofs.Common.{rules}
use Rattle.station_event.proofs.ByKind.{none_there, no_such, lost, is_start, is_stop, is_recovery, is_interval, is_timeout, is_quiet_end}
use Rattle.station_event.proofs.ByKind.{is_letter}
use Rattle.station_event.proofs.events.plan_event.Goals as goal

pub returns-then-not-there : goal.returns-then-not-there
returns-then-not-there c =
    let h = c.args.here in
    none_there h.own h.me h.link c.args.letter h.counter h.told h.condition h.marks _ c.args.kind (search rules) _
    c.if-not-there.true c.staying.ensures

pub returns-in-NoSuch : goal.returns-in-NoSuch
returns-in-NoSuch c =
    let h = c.args.here in
    no_such h.own h.me h.link c.args.letter h.counter h.told h.condition h.marks _ c.args.kind (search rules) _ c.if-not-there.false
    c.in-NoSuch.is c.turning.ensures

pub returns-in-Start : goal.returns-in-Start
returns-in-Start c =
    let h = c.args.here in
    is_start h.own h.me h.link c.args.letter h.counter h.told h.condition h.marks _ c.args.kind (search rules) _ c.if-not-there.false
    c.in-Start.is c.plan_start.ensures

pub returns-in-Stop : goal.returns-in-Stop
returns-in-Stop c =
    let h = c.args.here in
    is_stop h.own h.me h.link c.args.letter h.counter h.told h.condition h.marks _ c.args.kind (search rules) _ c.if-not-there.false
    c.in-Stop.is c.plan_stop.ensures

pub returns-in-Recovery : goal.returns-in-Recovery
returns-in-Recovery c =
    let h = c.args.here in
    is_recovery h.own h.me h.link c.args.letter h.counter h.told h.condition h.marks _ c.args.kind (search rules) _ c.if-not-there.false
    c.in-Recovery.is c.plan_recovery.ensures

pub returns-in-IntervalEnd : goal.returns-in-IntervalEnd
returns-in-IntervalEnd c =
    let h = c.args.here in
    is_interval h.own h.me h.link c.args.letter h.counter h.told h.condition h.marks _ c.args.kind (search rules) _ c.if-not-there.false
    c.in-IntervalEnd.is c.plan_interval.ensures

pub returns-in-TimeoutEnd : goal.returns-in-TimeoutEnd
returns-in-TimeoutEnd c =
    let h = c.args.here in
    is_timeout h.own h.me h.link c.args.letter h.counter h.told h.condition h.marks _ c.args.kind (search rules) _ c.if-not-there.false
    c.in-TimeoutEnd.is c.plan_timeout.ensures

pub returns-in-QuietEnd : goal.returns-in-QuietEnd
returns-in-QuietEnd c =
    let h = c.args.here in
    is_quiet_end h.own h.me h.link c.args.letter h.counter h.told h.condition h.marks _ c.args.kind (search rules) _ c.if-not-there.false
    c.in-QuietEnd.is c.plan_quiet_end.ensures

pub returns-in-Delivery : goal.returns-in-Delivery
returns-in-Delivery c =
    let h = c.args.here in
    is_letter h.own h.me h.link c.args.letter h.counter h.told h.condition h.marks _ c.args.kind (search rules) _ c.if-not-there.false
    c.in-Delivery.is c.plan_letter.ensures

pub returns-in-Loss : goal.returns-in-Loss
returns-in-Loss c =
    let h = c.args.here in
    lost h.own h.me h.link c.args.letter h.counter h.told h.condition h.marks _ c.args.kind (search rules) _ c.if-not-there.false _
    c.in-Loss.is c.settled_by.ensures c.staying-in-Loss.ensures
