-- The tally after a step that is lent one: an accepted event is added to it, a refused one leaves it untouched.
use Rattle.std.specs.Prelude.{eqb, if◌then◌else◌}
use Rattle.tally.specs.declared.Tally.{Tally}
use Rattle.tally.specs.Sums.{tallied}
use Rattle.step_rules.specs.declared.Stepped.{Stepped}

-- accepted (0): the counts of the event are added, each staying at its largest value. Refused: the tally as it was
abbrev pub tallied_by : Stepped → Tally → Tally
tallied_by r t = if eqb r.answer 0 then tallied t r.counts else t
