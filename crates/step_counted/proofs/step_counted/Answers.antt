use Rattle.std.proofs.Common.{arith}
use Rattle.tally.proofs.Sums.{below_fits}
use Rattle.step_rules.proofs.Counts.{added_by}
use Rattle.step_counted.proofs.step_counted.Goals as goal

pub returns : goal.returns
returns c = (
  c.step-r.ensures,
  added_by c.args.t.now (below_fits c.args.t.now (omega arith) (omega arith) (omega arith)) c.args.s c.args.kind c.args.a
      c.args.b c.step-r.result c.step-r.ensures c.add.new.t c.add.ensures,
)
