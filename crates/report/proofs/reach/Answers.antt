use Rattle.std.proofs.lemmas.Result.{err_from_is_err_and}
use Rattle.report.proofs.AskingKnown.{Read}
use Rattle.report.proofs.Known.{reach_read, reach_refused}
use Rattle.report.specs.Asking.{refusal_number}
use Rattle.report.proofs.reach.Goals as goal

pub returns-in_err-may_ask : goal.returns-in_err-may_ask
returns-in_err-may_ask c =
    let r : Read c.args.s c.args.a c.well_formed-good.result c.in_room-me.result (refusal_number c.in_err-may_ask.field-0.0) = record {
      tested = c.well_formed-good.ensures.0;
      sized = c.well_formed-good.ensures.1;
      place = c.in_room-me.ensures;
      says = c.in_err-may_ask.ensures;
    } in
    let p = err_from_is_err_and c.from_residual.result c.from_residual.ensures.1 in
    rw (p.1, p.2) (reach_refused _ r)

pub returns : goal.returns
returns c =
    let r : Read c.args.s c.args.a c.well_formed-good.result c.in_room-me.result 0 = record {
      tested = c.well_formed-good.ensures.0;
      sized = c.well_formed-good.ensures.1;
      place = c.in_room-me.ensures;
      says = c.in_ok-may_ask.ensures;
    } in
    reach_read r _ _ c.working_links-working.ensures c.reach_of.ensures
