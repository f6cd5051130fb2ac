-- Laws of a list that loses one of its places: who is still in it, and what its elements give.
use Prim.Native.Nat.{ℕ, zero, suc, ◌<◌}
use mathlib.Core.Path.{◌≡◌, refl, sym, ap, ◌∙◌}
use mathlib.Core.Logic.{◌⊎◌, inl, inr, ⊎_elim}
use mathlib.Core.List.Memᴰ
use mathlib.Core.List.{List, [], ◌∷◌, ◌++◌, append_assoc, Memᴰ}
use lib.ListN.{length, get_or, take, drop}
use lib.Seq.{split_at}
use Rattle.lists.specs.Places.{without, collect}

module _ {ℓ} {A : Type ℓ} where
  -- the one in the middle is in the list
  pub in_middle : (x : A) (xs ys : List A) → Memᴰ x (xs ++ x ∷ ys)
  in_middle x xs ys = Memᴰ.append_right xs (Memᴰ.head refl)

  -- who is in the list without the one in the middle was in it before
  pub was_in : (y x : A) (xs ys : List A) → Memᴰ y (xs ++ ys) → Memᴰ y (xs ++ x ∷ ys)
  was_in y x xs ys m =
      ⊎_elim (λ p. Memᴰ.append_left (x ∷ ys) p) (λ p. Memᴰ.append_right xs (Memᴰ.tail p)) (Memᴰ.append_cases xs m)

  -- who is in the list is the one in the middle, or is still in it without that one
  pub still_in : (y x : A) (xs ys : List A) → Memᴰ y (xs ++ x ∷ ys) → (y ≡ x) ⊎ Memᴰ y (xs ++ ys)
  still_in y x xs ys m =
      ⊎_elim (λ p. inr (Memᴰ.append_left ys p))
      (λ p. ⊎_elim inl (λ q. inr (Memᴰ.append_right xs q)) (Memᴰ.cases_cons p))
      (Memᴰ.append_cases xs m)

  -- the list without its place n is what stands before and behind that place
  pub without_split : (n : ℕ) (l : List A) → without n l ≡ take n l ++ drop (suc n) l
  without_split zero [] = refl
  without_split (suc n) [] = refl
  without_split zero (x ∷ l) = refl
  without_split (suc n) (x ∷ l) = ap {B = List A} (λ r. x ∷ r) (without_split n l)

module _ {ℓ κ} {A : Type ℓ} {B : Type κ} (g : A → List B) where
  pub collect_append : (xs ys : List A) → collect g (xs ++ ys) ≡ collect g xs ++ collect g ys
  collect_append [] ys = refl
  collect_append (x ∷ xs) ys = ap (λ (l : List B). g x ++ l) (collect_append xs ys) ∙ sym (append_assoc (g x) (collect g xs) (collect g ys))

  -- a place that gives one, it, stands between what the places before it give and what those behind it give
  pub collect_at : (xs : List A) (n : ℕ) (d : A) (it : B) → n < length xs → g (get_or xs n d) ≡ it ∷ []
      → collect g xs ≡ collect g (take n xs) ++ it ∷ collect g (drop (suc n) xs)
  collect_at xs n d it h e =
      ap (collect g) (split_at xs n d h) ∙ collect_append (take n xs) (get_or xs n d ∷ drop (suc n) xs)
      ∙ ap (λ (x : List B). collect g (take n xs) ++ (x ++ collect g (drop (suc n) xs))) e

  -- without that place and with others at the end
  pub collect_without : (xs : List A) (n : ℕ) (ys : List A)
      → collect g (without n xs ++ ys) ≡ collect g (take n xs) ++ collect g (drop (suc n) xs) ++ collect g ys
  collect_without xs n ys =
      collect_append (without n xs) ys ∙ ap (λ (z : List A). collect g z ++ collect g ys) (without_split n xs)
      ∙ ap (λ (z : List B). z ++ collect g ys) (collect_append (take n xs) (drop (suc n) xs))
