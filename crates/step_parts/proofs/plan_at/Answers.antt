use Rattle.step_parts.specs.Parts.{plan_by}
use Rattle.step_parts.proofs.plan_at.Goals as goal

pub returns : goal.returns
unfolding plan_by
returns c = c.plan_event.ensures
