-- What the reach and the purge are beside a network value and the code's counters, in the words of Reach, and which links work
-- by the counters, as a word. A link with an end that is no station joins nothing.
use Rattle.std.specs.Prelude.{ℕ, min, Bool, List, ◌++◌, take, drop}
use Rattle.sets.specs.Sets.{word_by}
use Rattle.net.specs.declared.Net.{Net}
use Rattle.net.specs.Values.{network_of, link_count}
use Rattle.net.specs.Sizes.{link_room}
use Rattle.reach.specs.Reach.{works_in, reach, purge}

-- the counters of the links that are there
abbrev pub table_of : Net → List ℕ → List ℕ
table_of net counters = take (link_count net) counters

-- the links that work by the counters, as a word: those that are there and whose counter is even
abbrev pub working_of : ℕ → List ℕ → ℕ
working_of links counters = word_by (works_in (take (min links link_room) counters))

-- the stations that s reaches
abbrev pub reach_of : Net → (ℕ → Bool) → ℕ → List Bool
reach_of net works s = reach (network_of net) works s

-- the counters after a purge at s; the unused room stays
unfoldable pub purged_of : Net → (ℕ → Bool) → List ℕ → ℕ → List ℕ
purged_of net works counters s = purge (network_of net) works s (table_of net counters) ++ drop (link_count net) counters
