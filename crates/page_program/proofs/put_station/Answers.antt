use Rattle.fields.specs.Output.{Writing, writing_output}
use Rattle.console.specs.Outputs.{wrote_by}
use Rattle.page_program.proofs.Given.{station_given}
use mathlib.Core.Path.{ap, ◌∙◌}
use Rattle.page_program.proofs.put_station.Goals as goal

pub returns : goal.returns
returns c =
    let a = c.args in
    let p = c.put_part.ensures in
    let same = station_given a.s a.i a.out.now _ _ _ _ (c.by_number-number.ensures ∙ c.reach.ensures) c.report.ensures.output
    c.in_room-here.ensures c.is_waiting.ensures in
    record {
      answer = p.answer ∙ ap wrote_by same;
      output = p.output ∙ ap (λ (w : Writing). writing_output w a.out.now) same;
      room = p.room;
    }
