use Rattle.std.proofs.Common.{rules}
use Rattle.station_event.proofs.Recovered.{words_are}
use Rattle.station_event.proofs.events.recovered_words.Goals as goal

pub returns : goal.returns
returns c =
    words_are c.args.own c.args.w (search rules) (search rules) _ _ _ _ _ _ _
    c.without-flips.ensures c.without.ensures c.without-2.ensures c.join-turn.ensures
    c.tests_on.ensures c.join-testing.ensures c.without-3.ensures
