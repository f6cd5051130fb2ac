use Rattle.event_lines.proofs.Ends.{end_some, end_missed, end_none}
use mathlib.Core.Path.{◌∙◌}
use native.Mathlib.Omega.{arith}
use Rattle.event_lines.proofs.find_end.Goals as goal

pub returns-in_err-rest : goal.returns-in_err-rest
returns-in_err-rest c =
    let beyond = c.in_err-rest.ensures.lookup.0 in c.from_residual.ensures ∙ end_none c.args.bytes.now c.args.from (omega arith)

pub returns-in_err-place : goal.returns-in_err-place
returns-in_err-place c =
    c.from_residual-in_err-place.ensures ∙ end_missed _ _ _ c.in_ok-rest.ensures.lookup.0.2 c.in_err-place.ensures

pub returns : goal.returns
returns c = end_some _ _ _ c.in_ok-rest.ensures.lookup.0.2 _ c.in_ok-place.ensures
