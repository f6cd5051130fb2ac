use Rattle.cases.proofs.Parts.{case_parts}
use Rattle.cases.proofs.split_net.Goals as goal

pub returns : goal.returns
returns c =
    let a = c.in_ok-low.ensures.cases in let b = c.in_ok-high.ensures.cases in case_parts c.args.case.now _ _ _ _ (a.0, a.1) (b.0, b.1)
