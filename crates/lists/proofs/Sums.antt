-- Sums over the numbers below n that shrink, and the largest number that a list gives.
use Prim.Native.Nat.{ℕ, zero, suc, ◌+◌, ◌≤◌, ◌<◌}
use mathlib.Core.Path.{◌≡◌, subst, subst⁻¹}
use mathlib.Core.Logic.{⊎_elim}
use mathlib.Core.List.Memᴰ
use mathlib.Core.List.{List, [], ◌∷◌, Memᴰ}
use native.Mathlib.Decide.{ℕ_discrete}
use native.Mathlib.Nat.{le_refl, le_trans, le-max_left, le-max_right, add-le-add}
use native.Mathlib.Omega.{arith}
use Rattle.lists.specs.Lists.{sum_of, from, below}
use Rattle.lists.specs.Places.{largest_of}

module _ (f g : ℕ → ℕ) where
  sum_from_le : (n i : ℕ) → ((j : ℕ) → j < i + n → g j ≤ f j) → sum_of g (from i n) ≤ sum_of f (from i n)
  sum_from_le zero i h = le_refl 0
  sum_from_le (suc n) i h = add-le-add (h i (omega arith)) (sum_from_le n (suc i) (λ j k. h j (omega arith)))

  sum_from_less : (d a n i : ℕ) → i ≤ a → a < i + n → ((j : ℕ) → j < i + n → g j ≤ f j) → g a + d ≤ f a
      → sum_of g (from i n) + d ≤ sum_of f (from i n)
  sum_from_less d a zero i p q h e = absurd (outside p q)
    where
      outside : i ≤ a → a < i + 0 → ⊥
      outside x y = omega arith
  sum_from_less d a (suc n) i p q h e =
      go (ℕ_discrete i a) (λ r. sum_from_less d a n (suc i) r (omega arith) (λ j k. h j (omega arith)) e)
    where
      go : Dec (i ≡ a) → (suc i ≤ a → sum_of g (from (suc i) n) + d ≤ sum_of f (from (suc i) n))
          → sum_of g (from i (suc n)) + d ≤ sum_of f (from i (suc n))
      go (yes r) rest =
          let k : g i + d ≤ f i = subst⁻¹ (λ (x : ℕ). g x + d ≤ f x) r e in
          omega (arith, sum_from_le n (suc i) (λ j k. h j (omega arith)))
      go (no r) rest = omega (arith, h i (omega arith), rest (omega arith))

  -- where none is larger, the sum is not
  pub sum_le : (n : ℕ) → ((j : ℕ) → j < n → g j ≤ f j) → sum_of g (below n) ≤ sum_of f (below n)
  sum_le n h = sum_from_le n 0 (λ j k. h j (omega arith))

  -- and where one of them, a, is smaller by d, so is the sum
  pub sum_less : (d a n : ℕ) → a < n → ((j : ℕ) → j < n → g j ≤ f j) → g a + d ≤ f a → sum_of g (below n) + d ≤ sum_of f (below n)
  sum_less d a n q h e = sum_from_less d a n 0 (omega arith) (omega arith) (λ j k. h j (omega arith)) e

module _ {A : Type 0} (f : A → ℕ) where
  -- none gives more than the largest
  pub in_largest : (x : A) (xs : List A) → Memᴰ x xs → f x ≤ largest_of f xs
  in_largest x [] m = absurd (Memᴰ.not-nil m)
  in_largest x (y ∷ ys) m =
      ⊎_elim (λ e. subst⁻¹ (λ (z : A). f z ≤ largest_of f (y ∷ ys)) e (le-max_left (f y) (largest_of f ys)))
      (λ n. le_trans (in_largest x ys n) (le-max_right (f y) (largest_of f ys)))
      (Memᴰ.cases_cons m)

largest_from : (f : ℕ → ℕ) (n i a : ℕ) → i ≤ a → a < i + n → f a ≤ largest_of f (from i n)
largest_from f zero i a p q = absurd (outside p q)
  where
    outside : i ≤ a → a < i + 0 → ⊥
    outside x y = omega arith
largest_from f (suc n) i a p q = go (ℕ_discrete i a) (λ r. largest_from f n (suc i) a r (omega arith))
  where
    go : Dec (i ≡ a) → (suc i ≤ a → f a ≤ largest_of f (from (suc i) n)) → f a ≤ largest_of f (from i (suc n))
    go (yes r) rest = subst (λ (x : ℕ). f x ≤ largest_of f (from i (suc n))) r (le-max_left (f i) (largest_of f (from (suc i) n)))
    go (no r) rest = le_trans (rest (omega arith)) (le-max_right (f i) (largest_of f (from (suc i) n)))

-- nor does a number below n
pub below_largest : (f : ℕ → ℕ) (n a : ℕ) → a < n → f a ≤ largest_of f (below n)
below_largest f n a h = largest_from f n 0 a (omega arith) (omega arith)
