-- A delivery as far as merging goes: who hears. Nothing is said of who is told, so that a family whose links come and go during a
-- run has it too (Relay.antt says more, for those who need it).
-- `Hears t k`: t takes what comes over the link k.
use Rattle.std.specs.Prelude.{ℕ, ◌≤◌, ◌⊎◌}
use Rattle.ranks.specs.Flood.{Notice, Flood, Site, Gone, Taken}

module _ (Hears : ℕ → ℕ → Type 0) where
  -- its receiver takes what comes over the link that it travels on
  abbrev pub Heard : Notice → Type 0
  Heard y = Hears y.receiver y.over

  -- A delivery without effect: the notice is not heard, or is no news.
  pub record Dropped (F G : Flood) : Type 0 where
    pub gone : Gone F G
    pub old : Heard gone.it → gone.it.rank ≤ F.rank gone.it.receiver gone.it.subject

  -- A delivery with effect: the notice is heard and taken.
  pub record Accepted (site : Site) (F G : Flood) : Type 0 where
    pub took : Taken site F G
    pub heard : Heard took.it

  abbrev pub Merges : Site → Flood → Flood → Type 0
  Merges site F G = Dropped F G ⊎ Accepted site F G
