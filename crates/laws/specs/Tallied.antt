-- The counts of an event and of a history as one record, and the tally lent to each call of a history: an accepted event is added to
-- it, a refused one leaves it untouched.
use Rattle.std.specs.Prelude.{Bool, List, [], ◌∷◌, if◌then◌else◌}
use Rattle.tally.specs.declared.Tally.{Tally}
use Rattle.tally.specs.Sums.{tallied}
use Rattle.station.specs.Events.{counting}
use Rattle.world.specs.World.{World, Event, accepted, next, settled, raised, dropped}
use Rattle.world.specs.History.{total}

-- ---- notices settled, counters raised, letters dropped
-- of an event that is accepted
abbrev pub accepted_counts : World → Event → Tally
accepted_counts w e = counting (settled w e) (raised w e) (dropped w e)

-- of any event: none if it is refused
abbrev pub counts_of : World → Event → Tally
counts_of w e = if accepted w e then accepted_counts w e else counting 0 0 0

-- of a history: three sums that nothing bounds
abbrev pub ever_counted : World → List Event → Tally
ever_counted w es = counting (total settled w es) (total raised w es) (total dropped w es)

-- ---- the tally, whose counts stay at their largest value
abbrev pub tally_by : Bool → Tally → Tally → Tally
tally_by taken t c = if taken then tallied t c else t

unfoldable pub tally_after : Tally → World → List Event → Tally
tally_after t w [] = t
tally_after t w (e ∷ es) = tally_after (tally_by (accepted w e) t (accepted_counts w e)) (next w e) es
