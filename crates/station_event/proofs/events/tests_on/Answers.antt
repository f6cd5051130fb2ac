use Rattle.station_event.proofs.Recovered.{tests_are}
use Rattle.station_event.proofs.events.tests_on.Goals as goal

pub returns : goal.returns
returns c =
    tests_are c.args.own c.args.w _ _ _ c.without.ensures c.without-neither.ensures c.without-2.ensures
