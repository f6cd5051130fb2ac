-- A history: a world and the events that come to it, one after the other. A refused event changes nothing and counts nothing.
-- Every count over a history is the same fold.
use Rattle.std.specs.Prelude.{ℕ, ◌+◌, List, [], ◌∷◌, length, if◌then◌else◌}
use Rattle.lists.specs.Words.{bit}
use Rattle.station.specs.Events.{kind_of, delivers, loses}
use Rattle.world.specs.World.{World, Event, done, accepted, next, settled}

-- the world after all of them
unfoldable pub run : World → List Event → World
run w [] = w
run w (e ∷ es) = run (next w e) es

-- what f counts of each accepted event, added up over the history
unfoldable pub total : (World → Event → ℕ) → World → List Event → ℕ
total f w [] = 0
total f w (e ∷ es) = (if accepted w e then f w e else 0) + total f (next w e) es

-- ---- letters ever sent, delivered and lost, and notices ever settled
abbrev pub ever_sent : World → List Event → ℕ
ever_sent = total (λ w e. length (done w e).sent)

abbrev pub ever_delivered : World → List Event → ℕ
ever_delivered = total (λ w e. bit (delivers (kind_of e.kind)))

abbrev pub ever_lost : World → List Event → ℕ
ever_lost = total (λ w e. bit (loses (kind_of e.kind)))

abbrev pub ever_settled : World → List Event → ℕ
ever_settled = total settled
