-- A list without one of its places: one shorter, less by what that place gives, and what all passed they pass still.
-- Who is still in it: Places.
use Prim.Native.Nat.{ℕ, zero, suc, ◌+◌, ◌<◌}
use mathlib.Core.Bool.{Bool}
use mathlib.Core.Path.{◌≡◌}
use mathlib.Core.List.{List, [], ◌∷◌}
use native.Mathlib.Nat.{not-suc-le-zero, le_of_suc-le-suc}
use native.Mathlib.Omega.{arith}
use lib.Dec.{T}
use lib.ListN.{length, get_or}
use Rattle.lists.specs.Lists.{every, sum_of}
use Rattle.lists.specs.Places.{without}
use Rattle.lists.proofs.Tests.{and_l, and_r, and_i}

module _ {ℓ} {A : Type ℓ} where
  pub length_without : (n : ℕ) (l : List A) → n < length l → length (without n l) + 1 ≡ length l
  length_without n [] h = absurd (not-suc-le-zero h)
  length_without zero (x ∷ l) h = omega arith
  length_without (suc n) (x ∷ l) h = omega (arith, length_without n l (le_of_suc-le-suc h))

  pub every_without : (p : A → Bool) (n : ℕ) (xs : List A) → T (every p xs) → T (every p (without n xs))
  every_without p n [] t = tt
  every_without p zero (x ∷ xs) t = and_r (p x) _ t
  every_without p (suc n) (x ∷ xs) t = and_i (p x) _ (and_l (p x) _ t) (every_without p n xs (and_r (p x) _ t))

  pub sum_without : (f : A → ℕ) (n : ℕ) (xs : List A) (d : A) → n < length xs → sum_of f (without n xs) + f (get_or xs n d) ≡ sum_of f xs
  sum_without f n [] d h = absurd (not-suc-le-zero h)
  sum_without f zero (x ∷ xs) d h = omega arith
  sum_without f (suc n) (x ∷ xs) d h = omega (arith, sum_without f n xs d (le_of_suc-le-suc h))
