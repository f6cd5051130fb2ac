use Rattle.std.proofs.Common.{ap, ◌∙◌}
use Rattle.std.specs.Prelude.{ok_or}
use Rattle.letters.specs.declared.WriteError.TheVariants.{OutputShort}
use Rattle.letters.specs.Values.{wrote_numbers}
use Rattle.letters.proofs.Output.{put_said}
use Rattle.letters.proofs.put_value.Goals as goal

pub returns : goal.returns
returns c =
    let p = put_said c.args.tag c.args.value.now c.args.out.now c.requires in
    record {
      answer = ap wrote_numbers (c.ok_or.ensures.value ∙ ap (λ r. ok_or r OutputShort) c.put.ensures.size) ∙ p.0;
      output = c.put.ensures.output ∙ p.1;
    }
