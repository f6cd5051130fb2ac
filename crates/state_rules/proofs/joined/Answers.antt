use Rattle.state_rules.proofs.Gathered.{or_zero, or_one}
use Rattle.state_rules.proofs.joined.Goals as goal

pub returns : goal.returns
returns c = (or_zero c.args.a c.args.b, or_one c.args.a c.args.b)
