-- A flood of notices dies out: the theorem, over runs of any length.
use Prim.Native.Nat.{ℕ, ◌≤◌}
use mathlib.Core.Path.{◌≡◌, subst}
use native.Mathlib.Nat.{le_refl, le_trans, le-max_left, le-max_right}
use native.Mathlib.Omega.{arith}
use lib.Dec.{eqb, eqb_refl}
use Rattle.lists.specs.Places.{largest_of}
use Rattle.lists.proofs.Tests.{T_is}
use Rattle.lists.proofs.Sums.{in_largest, below_largest}
use Rattle.ranks.specs.Flood.{Notice, Flood, Site, Run, none, more}
use Rattle.ranks.specs.Bound.{carried, highest, bound, DiesOut}
use Rattle.ranks.proofs.Settling.{Under, Pays, settling_pays}

-- a run pays for each notice that it settles
pub run_pays : (site : Site) (top : ℕ → ℕ) {n : ℕ} {F G : Flood} → Under site top F → Run site F n G → Pays site top F n G
run_pays site top {F = F} u none = record { under = u; paid = omega arith; rises = λ s k. le_refl (F.rank s k) }
run_pays site top u (more {F = F} {G = G} c r) =
    let a = settling_pays site top F G u c in
    let b = run_pays site top a.under r in
    record { under = b.under; paid = omega (arith, a.paid, b.paid); rises = λ s k. le_trans (a.rises s k) (b.rises s k) }

-- no rank lies above the highest
pub under_highest : (site : Site) (F : Flood) → Under site (highest site F) F
unfolding highest
under_highest site F = record {
  tables = λ s k h. le_trans (below_largest (λ t. F.rank t k) site.stations s h) (le-max_left _ _);
  notices =
      λ y m. le_trans (subst (λ (n : ℕ). n ≤ largest_of (carried y.subject) F.flying) (carries y)
      (in_largest (carried y.subject) y F.flying m)) (le-max_right _ _);
}
  where
    carries : (y : Notice) → carried y.subject y ≡ y.rank
    carries y = simp (T_is (eqb y.subject y.subject) (eqb_refl y.subject))

-- A FLOOD OF NOTICES DIES OUT. Take any start and any run made only of settlings, with no other event in it. The notices
-- settled in it are never more than those in flight at its start, plus, for each station, its weight times the sum over all
-- links of how far its rank lies below the highest one for that link in any table or notice in flight at the start. No rank
-- falls in such a run or passes that highest one.
pub flood_dies_out : (site : Site) {F G : Flood} {n : ℕ} → Run site F n G → DiesOut site F n G
unfolding bound
flood_dies_out site {F} r =
    let p = run_pays site (highest site F) (under_highest site F) r in
    record { settled = omega (arith, p.paid); no_rank_falls = p.rises; none_passes = p.under.tables }
