-- Sums of what is equal, of nothing, and of a function that gives 0 but for one number. Sums that shrink: Sums.
use Prim.Native.Nat.{ℕ, zero, suc, ◌+◌, ◌≤◌, ◌<◌}
use mathlib.Core.Path.{◌≡◌, refl, ap, ap₂}
use mathlib.Core.Logic.{◌≢◌}
use mathlib.Core.List.{List, [], ◌∷◌}
use native.Mathlib.Decide.{ℕ_discrete}
use native.Mathlib.Omega.{arith}
use Rattle.lists.specs.Lists.{sum_of, from, below}

module _ {A : Type 0} where
  pub sum_same : (f g : A → ℕ) (xs : List A) → ((x : A) → f x ≡ g x) → sum_of f xs ≡ sum_of g xs
  sum_same f g [] h = refl
  sum_same f g (x ∷ xs) h = ap₂ ◌+◌ (h x) (sum_same f g xs h)

module _ (f : ℕ → ℕ) where
  none_from : (n i : ℕ) → ((j : ℕ) → i ≤ j → j < i + n → f j ≡ 0) → sum_of f (from i n) ≡ 0
  none_from zero i h = refl
  none_from (suc n) i h = omega (arith, h i (omega arith) (omega arith), none_from n (suc i) (λ j a b. h j (omega arith) (omega arith)))

  -- all of them give 0
  pub sum_none : (n : ℕ) → ((j : ℕ) → j < n → f j ≡ 0) → sum_of f (below n) ≡ 0
  sum_none n h = none_from n 0 (λ j a b. h j (omega arith))

  only_from : (a n i : ℕ) → i ≤ a → a < i + n → ((j : ℕ) → j < i + n → j ≢ a → f j ≡ 0) → sum_of f (from i n) ≡ f a
  only_from a zero i p q h = absurd (outside p q)
    where
      outside : i ≤ a → a < i + 0 → ⊥
      outside x y = omega arith
  only_from a (suc n) i p q h = go (ℕ_discrete i a) (λ r. only_from a n (suc i) r (omega arith) (λ j b. h j (omega arith)))
    where
      go : Dec (i ≡ a) → (suc i ≤ a → sum_of f (from (suc i) n) ≡ f a) → sum_of f (from i (suc n)) ≡ f a
      go (yes e) rest =
          let z : sum_of f (from (suc i) n) ≡ 0 = none_from n (suc i) (λ j b c. h j (omega arith) (λ k. later j b k)) in
          omega (arith, ap f e)
        where
          later : (j : ℕ) → suc i ≤ j → j ≡ a → ⊥
          later j x y = omega arith
      go (no e) rest = omega (arith, h i (omega arith) e, rest (omega arith))

  -- all but a give 0
  pub sum_only : (n a : ℕ) → a < n → ((j : ℕ) → j < n → j ≢ a → f j ≡ 0) → sum_of f (below n) ≡ f a
  sum_only n a l h = only_from a n 0 (omega arith) (omega arith) (λ j b. h j (omega arith))
