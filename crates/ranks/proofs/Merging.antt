-- A delivery is a settling, and merges: a receiver that hears ends with the larger of its own rank and the carried one, and no other
-- rank moves. Who is told plays no part.
use Prim.Native.Nat.{ℕ, max}
use mathlib.Core.Path.{◌≡◌}
use mathlib.Core.Logic.{inl, inr}
use native.Mathlib.Omega.{arith}
use Rattle.ranks.specs.Flood.{Notice, Flood, Site, Settles}
use Rattle.ranks.specs.Merge.{Heard, Merges}

module _ (site : Site) (Hears : ℕ → ℕ → Type 0) {F G : Flood} where
  pub merge_settles : Merges Hears site F G → Settles site F G
  merge_settles (inl d) = inl d.gone
  merge_settles (inr d) = inr d.took

  -- the notice that is delivered
  abbrev pub delivered : Merges Hears site F G → Notice
  delivered (inl d) = d.gone.it
  delivered (inr d) = d.took.it

  -- THE LARGER RANK WINS at a receiver that hears.
  pub larger_wins : (d : Merges Hears site F G) → Heard Hears (delivered d)
      → G.rank (delivered d).receiver (delivered d).subject ≡ max (F.rank (delivered d).receiver (delivered d).subject)
      (delivered d).rank
  larger_wins (inl d) h = omega (arith, d.gone.same d.gone.it.receiver d.gone.it.subject, d.old h)
  larger_wins (inr d) h = omega (arith, d.took.takes, d.took.newer)

  -- NO OTHER RANK MOVES: none of another station, and none for another link.
  pub no_other_moves : (d : Merges Hears site F G) (s k : ℕ) → ((s ≡ (delivered d).receiver) × (k ≡ (delivered d).subject) → ⊥)
      → G.rank s k ≡ F.rank s k
  no_other_moves (inl d) s k z = d.gone.same s k
  no_other_moves (inr d) s k z = d.took.others s k z

  -- Not heard: nothing moves at all.
  pub unheard_moves_none : (d : Merges Hears site F G) → (Heard Hears (delivered d) → ⊥) → (s k : ℕ) → G.rank s k ≡ F.rank s k
  unheard_moves_none (inl d) z s k = d.gone.same s k
  unheard_moves_none (inr d) z s k = absurd (z d.heard)
