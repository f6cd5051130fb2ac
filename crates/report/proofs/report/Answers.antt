use Rattle.std.proofs.lemmas.Result.{err_from_is_err_and}
use Rattle.report.proofs.AskingKnown.{Read}
use Rattle.report.proofs.ReportsKnown.{answer_seen, output_seen, answer_refused, output_refused}
use Rattle.report.specs.Asking.{refusal_number}
use Rattle.report.proofs.report.Goals as goal

pub returns-in_err-may_ask-clause-answer : goal.returns-in_err-may_ask-clause-answer
returns-in_err-may_ask-clause-answer c =
    let r : Read c.args.s c.args.a c.well_formed-formed.result c.in_room-who.result (refusal_number c.in_err-may_ask.field-0.0) = record {
      tested = c.well_formed-formed.ensures.0;
      sized = c.well_formed-formed.ensures.1;
      place = c.in_room-who.ensures;
      says = c.in_err-may_ask.ensures;
    } in
    let p = err_from_is_err_and c.from_residual.result c.from_residual.ensures.1 in
    rw (p.1, p.2) (answer_refused c.args.out.now _ r)

pub returns-in_err-may_ask-clause-output : goal.returns-in_err-may_ask-clause-output
returns-in_err-may_ask-clause-output c =
    let r : Read c.args.s c.args.a c.well_formed-formed.result c.in_room-who.result (refusal_number c.in_err-may_ask.field-0.0) = record {
      tested = c.well_formed-formed.ensures.0;
      sized = c.well_formed-formed.ensures.1;
      place = c.in_room-who.ensures;
      says = c.in_err-may_ask.ensures;
    } in
    output_refused c.args.out.now _ r

pub returns-clause-answer : goal.returns-clause-answer
returns-clause-answer c =
    let r : Read c.args.s c.args.a c.well_formed-formed.result c.in_room-who.result 0 = record {
      tested = c.well_formed-formed.ensures.0;
      sized = c.well_formed-formed.ensures.1;
      place = c.in_room-who.ensures;
      says = c.in_ok-may_ask.ensures;
    } in
    answer_seen c.args.out.now r _ c.working_links-working.ensures _ c.written.ensures.answer

pub returns-clause-output : goal.returns-clause-output
returns-clause-output c =
    let r : Read c.args.s c.args.a c.well_formed-formed.result c.in_room-who.result 0 = record {
      tested = c.well_formed-formed.ensures.0;
      sized = c.well_formed-formed.ensures.1;
      place = c.in_room-who.ensures;
      says = c.in_ok-may_ask.ensures;
    } in
    output_seen c.args.out.now r _ c.working_links-working.ensures _ c.written.ensures.output
