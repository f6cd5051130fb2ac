use Rattle.state_rules.proofs.WordTests.{within_is}
use Rattle.state_rules.proofs.within.Goals as goal

pub returns : goal.returns
returns c = within_is _ _ _ c.without.ensures
