-- A delivery in full is one that merges: all of Merging.antt holds of it.
use Prim.Native.Nat.{ℕ}
use mathlib.Core.Logic.{inl, inr}
use Rattle.ranks.specs.Flood.{Flood, Site, Settles}
use Rattle.ranks.specs.Merge.{Merges}
use Rattle.ranks.specs.Relay.{Delivers}
use Rattle.ranks.proofs.Merging.{merge_settles}

module _ (site : Site) (Hears : ℕ → ℕ → Type 0) (Leads : ℕ → ℕ → ℕ → Type 0) {F G : Flood} where
  pub delivery_merges : Delivers site Hears Leads F G → Merges Hears site F G
  delivery_merges (inl d) = inl d
  delivery_merges (inr d) = inr d.accepted

  pub delivery_settles : Delivers site Hears Leads F G → Settles site F G
  delivery_settles d = merge_settles site Hears (delivery_merges d)
