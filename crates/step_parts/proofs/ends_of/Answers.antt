use Rattle.std.proofs.Common.{sym, ap, ◌∙◌, arith}
use Rattle.net.specs.Network.{Ends}
use Rattle.net.proofs.ValueLaws.{ends_of}
use Rattle.step_parts.proofs.Present.{ends_past}
use Rattle.step_parts.proofs.ends_of.Goals as goal

pub returns-then-from-k : goal.returns-then-from-k
returns-then-from-k c =
    let e = ends_past c.args.net c.args.k (omega arith) in
    (c.default.ensures.0 ∙ ap (λ (x : Ends). x.low) (sym e), c.default.ensures.1 ∙ ap (λ (x : Ends). x.high) (sym e))

pub returns : goal.returns
returns c =
    let e = ends_of c.args.net c.args.k (omega arith) in
    (ap (λ (x : Ends). x.low) (sym e), ap (λ (x : Ends). x.high) (sym e))
