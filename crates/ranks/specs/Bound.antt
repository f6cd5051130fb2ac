-- How many notices a run can settle, and what it does to the ranks.
use Rattle.std.specs.Prelude.{ℕ, ◌+◌, ◌*◌, ◌-◌, ◌≤◌, ◌<◌, max, eqb, length, if◌then◌else◌}
use Rattle.lists.specs.Lists.{sum_of, below}
use Rattle.lists.specs.Places.{largest_of}
use Rattle.ranks.specs.Flood.{Notice, Flood, Site}

-- the rank that a notice carries for the link k: 0 where it is about another
abbrev pub carried : ℕ → Notice → ℕ
carried k y = if eqb y.subject k then y.rank else 0

-- the highest rank for the link k in any table or notice in flight
unfoldable pub highest : Site → Flood → ℕ → ℕ
highest site F k = max (largest_of (λ s. F.rank s k) (below site.stations)) (largest_of (carried k) F.flying)

-- the sum over all links of how far the rank of s lies below top's
unfoldable pub distance : Site → (ℕ → ℕ) → Flood → ℕ → ℕ
distance site top F s = sum_of (λ k. top k - F.rank s k) (below site.links)

-- the copies that s can send at the most until all its ranks are top's
unfoldable pub share : Site → (ℕ → ℕ) → Flood → ℕ → ℕ
share site top F s = site.weight s * distance site top F s

-- the notices in flight and all shares: each settling pays one of it
unfoldable pub potential : Site → (ℕ → ℕ) → Flood → ℕ
potential site top F = length F.flying + sum_of (share site top F) (below site.stations)

-- the potential of a start, below the highest ranks at that start
unfoldable pub bound : Site → Flood → ℕ
bound site F = potential site (highest site F) F

-- What is claimed of a run from F to G in which n notices are settled.
pub record DiesOut (site : Site) (F : Flood) (n : ℕ) (G : Flood) : Type 0 where
  pub settled : n ≤ bound site F
  pub no_rank_falls : (s k : ℕ) → F.rank s k ≤ G.rank s k
  pub none_passes : (s k : ℕ) → s < site.stations → G.rank s k ≤ highest site F k
