use Rattle.std.proofs.Common.{rules}
use Rattle.state_rules.proofs.WordTests.{apart_is}
use Rattle.state_rules.proofs.apart.Goals as goal

pub returns : goal.returns
returns c = apart_is _ _ _ (search rules) c.without.ensures
