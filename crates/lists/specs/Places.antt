-- A list without one of its places, a list in its room, the lists that its elements give joined to one, and the largest number
-- that they give. Their laws: proofs/Places.antt, proofs/Sums.antt, proofs/Rooms.antt.
use Rattle.std.specs.Prelude.{ℕ, zero, suc, ◌-◌, max, List, [], ◌∷◌, ◌++◌, length, take, drop, replicate}

module _ {ℓ} {A : Type ℓ} where
  -- the list without its place n: the later ones close up; all of it where there is no such place
  abbrev pub without : ℕ → List A → List A
  without n [] = []
  without zero (x ∷ xs) = xs
  without (suc n) (x ∷ xs) = x ∷ without n xs

  -- the largest number that f gives for one of them, 0 where there is none
  abbrev pub largest_of : (A → ℕ) → List A → ℕ
  largest_of f [] = 0
  largest_of f (x ∷ xs) = max (f x) (largest_of f xs)

module _ {ℓ κ} {A : Type ℓ} {B : Type κ} where
  -- what g gives for each, one after the other
  abbrev pub collect : (A → List B) → List A → List B
  collect g [] = []
  collect g (x ∷ xs) = g x ++ collect g xs

module _ {A : Type 0} where
  -- a list in room for so many, the unused places z
  unfoldable pub roomed : ℕ → A → List A → List A
  roomed size z xs = xs ++ replicate (size - length xs) z

  -- a list whose place a closes up, as far as place i: the places before i are those without a, the others still the old ones
  abbrev pub closing : ℕ → List A → ℕ → List A
  closing a l i = take i (without a l) ++ drop i l
