-- A purge at one station: it leaves a counter as it is or sets it to 1, and the counters of own links it leaves.
use Rattle.std.specs.Prelude.{if◌then◌else◌}
use Prim.Native.Nat.{ℕ, ◌≤◌, ◌<◌}
use mathlib.Core.Bool.{Bool}
use mathlib.Core.Path.{◌≡◌, refl, ap, ◌∙◌, subst⁻¹}
use mathlib.Core.Logic.{◌⊎◌, inl, inr, ⊎_elim}
use mathlib.Core.List.{List}
use native.Mathlib.Decide.{dec_lt}
use native.Mathlib.Omega.{arith}
use lib.Dec.{T, eqb, eqb→eq}
use lib.ListN.{length, get_or-eq_default}
use Rattle.lists.proofs.Tests.{T_is, or_cases, or_left, or_right, if_elim}
use Rattle.lists.proofs.Numbers.{get_or_map_below, length_map_below}
use Rattle.net.specs.Network.{Network, ends, is_end}
use Rattle.reach.specs.Reach.{counter_in, works_in, has, reach, near, purge}
use Rattle.reach.proofs.ReachLaws.{reach_self, complete}
use Rattle.station.specs.Holding.{Holding, counter}
use Rattle.station.proofs.Doing.{purged}

-- a counter that stays or is set to 1
abbrev pub Lowered : ℕ → ℕ → Type 0
Lowered before after = (after ≡ before) ⊎ (after ≡ 1)

-- no counter is below 1, so this is no raise
pub lowered_le : (before after : ℕ) → 1 ≤ before → Lowered before after → after ≤ before
lowered_le before after h p = ⊎_elim (λ e. omega arith) (λ e. omega arith) p

module _ (net : Network) (s : ℕ) where
  reached : List ℕ → ℕ → Bool
  reached table = has (reach net (works_in table) s)

  kept : List ℕ → ℕ → ℕ
  unfolding reached
  kept table k = if near net (reached table) k then counter_in table k else 1

  module _ (h : Holding) where
    pub purged_length : length (purged net s h).table ≡ length net.links
    unfolding purge reached kept
    purged_length = length_map_below (kept h.table) (length net.links)

    purged_at : (j : ℕ) → j < length net.links → counter (purged net s h) j ≡ kept h.table j
    unfolding purge reached kept
    purged_at j l = get_or_map_below (kept h.table) (length net.links) j 1 l

    -- a purge leaves a counter as it is or sets it to 1
    pub purged_lowers : (j : ℕ) → Lowered (counter h j) (counter (purged net s h) j)
    unfolding kept
    purged_lowers j = go (dec_lt j (length net.links))
      where
        go : Dec (j < length net.links) → Lowered (counter h j) (counter (purged net s h) j)
        go (yes l) =
            subst⁻¹ (Lowered (counter h j)) (purged_at j l)
            (if_elim (Lowered (counter h j)) (near net (reached h.table) j) (λ t. inl refl) (λ t. inr refl))
        go (no l) = inr (get_or-eq_default (purged net s h).table 1 {n = j} (omega (arith, purged_length)))

    -- s reaches itself: a purge leaves the counters of its own links
    pub purged_own : (k : ℕ) → s < net.stations → k < length net.links → T (is_end net k s) → counter (purged net s h) k ≡ counter h k
    unfolding reached kept
    purged_own k real l o =
        purged_at k l ∙ ap (λ (b : Bool). if b then counter h k else 1)
        (T_is (near net (reached h.table) k) (⊎_elim low high (or_cases (eqb (ends net k).low s) _ o)))
      where
        here : T (reached h.table s)
        here = complete net (works_in h.table) s s (reach_self real)

        low : T (eqb (ends net k).low s) → T (near net (reached h.table) k)
        low e = or_left (reached h.table (ends net k).low) _ (subst⁻¹ (λ (t : ℕ). T (reached h.table t)) (eqb→eq _ _ e) here)

        high : T (eqb (ends net k).high s) → T (near net (reached h.table) k)
        high e = or_right (reached h.table (ends net k).low) _ (subst⁻¹ (λ (t : ℕ). T (reached h.table t)) (eqb→eq _ _ e) here)
