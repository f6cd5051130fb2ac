use Rattle.step_parts.specs.Parts.{names_by}
use Rattle.step_parts.proofs.names_of.Goals as goal

pub returns : goal.returns
unfolding names_by
returns c =
    λ i. record {
      station = c.concerned-station.ensures i;
      there = c.there-named.ensures i;
      link = c.link_of-link.ensures i;
      subject = c.subject_of-subject.ensures i;
    }
