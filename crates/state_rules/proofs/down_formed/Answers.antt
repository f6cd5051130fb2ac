use Rattle.state_rules.proofs.WordTests.{down_is}
use Rattle.state_rules.proofs.down_formed.Goals as goal

pub returns : goal.returns
returns c = down_is c.args.w c.args.own _ c.beside_token.ensures _ c.join.ensures
