-- A delivery in full: what merging needs (Merge.antt), and who is told. Neither the bound nor merging needs this, and a family whose
-- links come and go during a run does not have it; that the order of delivery does not matter cannot do without.
-- `Hears t k`: t takes what comes over the link k. `Leads u k t`: u sends over k, and t stands at its other end.
use Rattle.std.specs.Prelude.{ℕ, ◌≡◌, ◌⊎◌, ◌≢◌}
use Rattle.ranks.specs.Flood.{Notice, Flood, Site, ◌∈◌, Taken}
use Rattle.ranks.specs.Merge.{Dropped, Accepted}

module _ (site : Site) (Hears : ℕ → ℕ → Type 0) (Leads : ℕ → ℕ → ℕ → Type 0) where
  -- A copy of a notice that is taken goes out over each link that leads on, other than the one that it came over, which leads
  -- back to its sender.
  pub record Told {F G : Flood} (took : Taken site F G) : Type 0 where
    pub by_receiver : (y : Notice) → y ∈ took.copies → y.sender ≡ took.it.receiver
    pub leads : (y : Notice) → y ∈ took.copies → Leads took.it.receiver y.over y.receiver
    pub all : (k t : ℕ) → Leads took.it.receiver k t → k ≢ took.it.over
        → (y : Notice) × (y ∈ took.copies) × (y.over ≡ k) × (y.receiver ≡ t)
    pub back : (t : ℕ) → Leads took.it.receiver took.it.over t → t ≡ took.it.sender

  -- A delivery with effect: the notice is heard and taken, and told on.
  pub record Relayed (F G : Flood) : Type 0 where
    pub accepted : Accepted Hears site F G
    pub told : Told accepted.took

  abbrev pub Delivers : Flood → Flood → Type 0
  Delivers F G = Dropped Hears F G ⊎ Relayed F G
