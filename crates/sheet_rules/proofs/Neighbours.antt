-- At most one link between two stations: in a network that keeps the sheet rules links with the same ends are one link, and so no
-- two links of a station lead to the same neighbour.
use Rattle.std.specs.Prelude.{if◌then◌else◌}
use Prim.Native.Nat.{ℕ, zero, suc, ◌<◌}
use mathlib.Core.Bool.{Bool, true, false, ◌||◌}
use mathlib.Core.Path.{◌≡◌, refl, sym, ◌∙◌, subst⁻¹}
use mathlib.Core.Logic.{◌⊎◌, inl, inr, ⊎_elim}
use native.Mathlib.Decide.{dec_lt, ℕ_discrete}
use native.Mathlib.Omega.{arith}
use lib.Dec.{T, eqb, ltb, ltb→lt, eqb→eq}
use lib.ListN.{length}
use Rattle.lists.proofs.Tests.{and_l, and_r, or_cases}
use Rattle.net.specs.Network.{Ends, Network, ends, is_end, other}
use Rattle.sheet_rules.specs.Rules.{precedes, sheet_holds}
use Rattle.sheet_rules.proofs.Rules.{rules_of}
use Rattle.sheet_rules.proofs.Ends.{ends_rise}

-- ends that come first, by first then second end
abbrev pub Before : Ends → Ends → Type 0
Before x y = (x.low < y.low) ⊎ ((x.low ≡ y.low) × (x.high < y.high))

precedes_before : (x y : Ends) → T (precedes x y) → Before x y
precedes_before x y t =
    ⊎_elim (λ u. inl (ltb→lt x.low y.low u))
    (λ u. inr (
      eqb→eq x.low y.low (and_l (eqb x.low y.low) _ u),
      ltb→lt x.high y.high
          (and_r (eqb x.low y.low) _ u),
    ))
    (or_cases (ltb x.low y.low) _ t)

before_trans : (x y z : Ends) → Before x y → Before y z → Before x z
before_trans x y z (inl p) (inl q) = inl (omega arith)
before_trans x y z (inl p) (inr q) = inl (omega arith)
before_trans x y z (inr p) (inl q) = inl (omega arith)
before_trans x y z (inr p) (inr q) = inr (omega arith, omega arith)

never_before : (x y : Ends) → x.low ≡ y.low → x.high ≡ y.high → Before x y → ⊥
never_before x y l h (inl p) = omega arith
never_before x y l h (inr p) = omega arith

module _ (net : Network) (ok : T (sheet_holds net)) where
  next_before : (k : ℕ) → suc k < length net.links → Before (ends net k) (ends net (suc k))
  next_before k l = precedes_before (ends net k) (ends net (suc k)) ((rules_of net ok).in_order k l)

  -- links rise strictly
  pub rise : (i j : ℕ) → i < j → j < length net.links → Before (ends net i) (ends net j)
  rise i zero p l = absurd (omega arith)
  rise i (suc j) p l = go (ℕ_discrete i j) (λ q. rise i j q (omega arith))
    where
      go : Dec (i ≡ j) → (i < j → Before (ends net i) (ends net j)) → Before (ends net i) (ends net (suc j))
      go (yes e) rest = subst⁻¹ (λ (x : ℕ). Before (ends net x) (ends net (suc j))) e (next_before j l)
      go (no e) rest = before_trans (ends net i) (ends net j) (ends net (suc j)) (rest (omega arith)) (next_before j l)

  -- links with the same ends are one link
  pub same_ends : (i j : ℕ) → i < length net.links → j < length net.links → (ends net i).low ≡ (ends net j).low
      → (ends net i).high ≡ (ends net j).high → i ≡ j
  same_ends i j p q l h = go (dec_lt i j) (dec_lt j i)
    where
      go : Dec (i < j) → Dec (j < i) → i ≡ j
      go (yes a) b = absurd (never_before (ends net i) (ends net j) l h (rise i j a q))
      go (no a) (yes b) = absurd (never_before (ends net j) (ends net i) (sym l) (sym h) (rise j i b p))
      go (no a) (no b) = omega arith

  -- the lower and the higher of the two ends
  record Between (k s t : ℕ) : Type 0 where
    which : (((ends net k).low ≡ s) × ((ends net k).high ≡ t)) ⊎ (((ends net k).low ≡ t) × ((ends net k).high ≡ s))

  between : (k s : ℕ) → T (is_end net k s) → Between k s (other net k s)
  between k s o = go (eqb (ends net k).low s) refl o
    where
      go : (b : Bool) → eqb (ends net k).low s ≡ b → T (b || eqb (ends net k).high s)
          → Between k s (if b then (ends net k).high else (ends net k).low)
      go true e t = record { which = inl (eqb→eq _ _ (subst⁻¹ T e tt), refl) }
      go false e t = record { which = inr (refl, eqb→eq _ _ t) }

  -- NO TWO LINKS OF A STATION LEAD TO THE SAME NEIGHBOUR: it has as many neighbours as own links.
  pub neighbours_differ : (s i j : ℕ) → i < length net.links → j < length net.links → T (is_end net i s) → T (is_end net j s)
      → other net i s ≡ other net j s → i ≡ j
  neighbours_differ s i j p q a b e = go (between i s a).which (between j s b).which
    where
      clash : {x y u v : ℕ} → x < y → u < v → x ≡ v → y ≡ u → ⊥
      clash x y z w = omega arith

      go : (((ends net i).low ≡ s) × ((ends net i).high ≡ other net i s)) ⊎ (((ends net i).low ≡ other net i s) × ((ends net i).high ≡ s))
          → (((ends net j).low ≡ s) × ((ends net j).high ≡ other net j s)) ⊎ (((ends net j).low ≡ other net j s) × ((ends net j).high ≡ s))
          → i ≡ j
      go (inl x) (inl y) = same_ends i j p q (x.0 ∙ sym y.0) (x.1 ∙ e ∙ sym y.1)
      go (inl x) (inr y) = absurd (clash (ends_rise net ok i p) (ends_rise net ok j q) (x.0 ∙ sym y.1) (x.1 ∙ e ∙ sym y.0))
      go (inr x) (inl y) = absurd (clash (ends_rise net ok i p) (ends_rise net ok j q) (x.0 ∙ e ∙ sym y.1) (x.1 ∙ sym y.0))
      go (inr x) (inr y) = same_ends i j p q (x.0 ∙ e ∙ sym y.0) (x.1 ∙ sym y.1)
