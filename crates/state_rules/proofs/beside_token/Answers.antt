use Rattle.state_rules.proofs.WordTests.{beside_is}
use Rattle.state_rules.proofs.beside_token.Goals as goal

pub returns : goal.returns
returns c = beside_is c.args.w _ _ _ c.join.ensures c.join-2.ensures c.join-3.ensures
