-- A choice by a test, tests on lists, the numbers below n, and a list filled from the front.
-- Their laws: proofs/Tests.antt, proofs/Numbers.antt, proofs/Fill.antt. `take`, `drop`, `get_or` and `set` are the kit's (lib.ListN).
use Rattle.std.specs.Prelude.{ℕ, zero, suc, ◌+◌, Bool, true, false, ◌&&◌, ◌||◌, List, [], ◌∷◌, ◌++◌, map, drop, cond}

module _ {ℓ} {A : Type ℓ} where
  -- those that pass the test, in order
  abbrev pub keep : (A → Bool) → List A → List A
  keep p [] = []
  keep p (x ∷ xs) = cond (p x) (x ∷ keep p xs) (keep p xs)

  -- all pass the test
  abbrev pub every : (A → Bool) → List A → Bool
  every p [] = true
  every p (x ∷ xs) = p x && every p xs

  -- one of them passes the test
  abbrev pub any : (A → Bool) → List A → Bool
  any p [] = false
  any p (x ∷ xs) = p x || any p xs

  -- what f gives for each, added up
  abbrev pub sum_of : (A → ℕ) → List A → ℕ
  sum_of f [] = 0
  sum_of f (x ∷ xs) = f x + sum_of f xs

  -- the first that passes the test, or d where none does
  abbrev pub first_of : (A → Bool) → List A → A → A
  first_of p [] d = d
  first_of p (x ∷ xs) d = cond (p x) x (first_of p xs d)

-- i, i + 1, ..: n numbers
abbrev pub from : ℕ → ℕ → List ℕ
from i zero = []
from i (suc n) = i ∷ from (suc i) n

-- the numbers below n, rising
abbrev pub below : ℕ → List ℕ
below n = from 0 n

module _ {ℓ} {A : Type ℓ} where
  -- the old list with its first n places replaced by g 0, g 1, ..
  abbrev pub filled : (ℕ → A) → List A → ℕ → List A
  filled g old n = map g (below n) ++ drop n old
