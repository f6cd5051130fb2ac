-- The first of some numbers that passes a test: it is one of them and none before it passes; or none passes.
use Rattle.std.specs.Prelude.{if◌then◌else◌}
use Prim.Native.Nat.{ℕ, zero, suc, ◌+◌, ◌≤◌, ◌<◌}
use mathlib.Core.Bool.{Bool, true, false, not}
use mathlib.Core.Path.{◌≡◌, refl, subst, subst⁻¹}
use mathlib.Core.Logic.{◌⊎◌, inl, inr, ⊎_elim}
use native.Mathlib.Decide.{ℕ_discrete}
use native.Mathlib.Nat.{le_refl}
use native.Mathlib.Omega.{arith}
use lib.Dec.{T}
use Rattle.lists.specs.Lists.{first_of, from, below}

module _ (p : ℕ → Bool) where
  -- none of i, i + 1, .. below e passes
  abbrev None : ℕ → ℕ → Type 0
  None i e = (t : ℕ) → i ≤ t → t < e → T (not (p t))

  pub record First (i e z : ℕ) : Type 0 where
    pub from : i ≤ z
    pub under : z < e
    pub passes : T (p z)
    pub before : (t : ℕ) → i ≤ t → t < z → T (not (p t))

  none_more : (i e : ℕ) → T (not (p i)) → None (suc i) e → None i e
  none_more i e h f t a b = go (ℕ_discrete i t)
    where
      go : Dec (i ≡ t) → T (not (p t))
      go (yes q) = subst (λ (x : ℕ). T (not (p x))) q h
      go (no q) = f t (omega arith) b

  first_from : (n i d : ℕ) → ((first_of p (from i n) d ≡ d) × None i (i + n)) ⊎ First i (i + n) (first_of p (from i n) d)
  first_from zero i d = inl (refl, λ t a b. absurd (outside t a b))
    where
      outside : (t : ℕ) → i ≤ t → t < i + 0 → ⊥
      outside t a b = omega arith
  first_from (suc n) i d = go (p i) refl (first_from n (suc i) d)
    where
      go : (b : Bool) → p i ≡ b → ((first_of p (from (suc i) n) d ≡ d) × None (suc i) (suc i + n)) ⊎ First (suc i) (suc i + n)
          (first_of p (from (suc i) n) d)
          → (((if b then i else first_of p (from (suc i) n) d) ≡ d) × None i (i + suc n)) ⊎ First i (i + suc n)
          (if b then i else first_of p (from (suc i) n) d)
      go true e r = inr (record { from = le_refl i; under = omega arith; passes = subst⁻¹ T e tt; before = λ t a b. absurd (empty t a b) })
        where
          empty : (t : ℕ) → i ≤ t → t < i → ⊥
          empty t a b = omega arith
      go false e (inl q) =
          inl (q.0, none_more i (i + suc n) (subst⁻¹ (λ (b : Bool). T (not b)) e tt) (λ t a b. q.1 t a (omega arith)))
      go false e (inr q) =
          inr (record {
            from = omega (arith, q.from);
            under = omega (arith, q.under);
            passes = q.passes;
            before = none_more i (first_of p (from (suc i) n) d) (subst⁻¹ (λ (b : Bool). T (not b)) e tt) q.before;
          })

  pub first_below : (n d : ℕ) → ((first_of p (below n) d ≡ d) × ((t : ℕ) → t < n → T (not (p t)))) ⊎ First 0 n (first_of p (below n) d)
  first_below n d =
      ⊎_elim (λ q. inl (q.0, λ t h. q.1 t (omega arith) (omega arith)))
      (λ q. inr (record { from = q.from; under = omega (arith, q.under); passes = q.passes; before = q.before }))
      (first_from n 0 d)
