use Rattle.std.proofs.Common.{arith}
use Rattle.state_rules.proofs.Gathered.{ways_more}
use Rattle.state_rules.proofs.joined_ways.Goals as goal

pub returns : goal.returns
returns c = ways_more c.args.ways c.args.link c.args.sender (omega arith)
