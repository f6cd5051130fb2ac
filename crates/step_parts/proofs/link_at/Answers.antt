use Rattle.std.proofs.Common.{arith}
use Rattle.step_parts.proofs.Present.{link_is}
use Rattle.step_parts.proofs.link_at.Goals as goal

pub returns-then-from-a : goal.returns-then-from-a
returns-then-from-a c = link_is c.args.net c.args.b c.args.a _ _ _ c.ends_of-e.ensures.0 c.ends_of-e.ensures.1 (grind arith)

pub returns-else-from-a : goal.returns-else-from-a
returns-else-from-a c = link_is c.args.net c.args.b c.args.a _ _ _ c.ends_of-e.ensures.0 c.ends_of-e.ensures.1 (grind arith)

pub returns-else-b-from : goal.returns-else-b-from
returns-else-b-from c = link_is c.args.net c.args.b c.args.a _ _ _ c.ends_of-e.ensures.0 c.ends_of-e.ensures.1 (grind arith)
