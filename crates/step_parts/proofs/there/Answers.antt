use Rattle.std.proofs.Common.{◌∙◌}
use Rattle.step_parts.proofs.Present.{station_exists, link_exists}
use Rattle.step_parts.proofs.there.Goals as goal

pub returns-in-Start : goal.returns-in-Start
returns-in-Start c =
    c.station_named.ensures ∙ station_exists c.args.net c.args.flying c.args.a c.args.b c.args.kind c.in-Start.is

pub returns-in-IntervalEnd : goal.returns-in-IntervalEnd
returns-in-IntervalEnd c =
    c.link_named.ensures ∙ link_exists c.args.net c.args.flying c.args.a c.args.b c.args.kind c.in-IntervalEnd.is
