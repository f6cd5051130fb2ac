use Rattle.std.proofs.Common.{◌%◌}
use Rattle.net.specs.Sizes.{link_room}
use Rattle.state_rules.proofs.Gathered.{ended_more}
use Rattle.state_rules.proofs.still_ended.Goals as goal

pub returns : goal.returns
returns c = ended_more c.args.ended c.args.own (c.args.link % link_room)
