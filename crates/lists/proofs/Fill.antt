-- Laws of `filled`: a loop that goes through an array from the front and stores each place.
use Prim.Native.Nat.{ℕ, zero, suc, ◌+◌, ◌≤◌, ◌<◌}
use mathlib.Core.Path.{◌≡◌, refl, sym, ap, ◌∙◌, subst}
use mathlib.Core.List.{List, [], ◌∷◌, ◌++◌, map, append_assoc}
use native.Mathlib.Numerals.{add-one}
use native.Mathlib.Nat.{not-suc-le-zero, le_of_suc-le-suc}
use native.Mathlib.Omega.{arith}
use lib.ListN.{length, get_or, drop, set, length-append, length-drop}
use lib.Seq.{drop-cons, set_at, get_or-append-add, get_or-drop, ext_get_or}
use Rattle.lists.specs.Lists.{below, filled}
use Rattle.lists.proofs.Numbers.{below_snoc, get_or_map_below, length_map_below}

module _ {ℓ} {A B : Type ℓ} where
  pub map_append : (f : A → B) (xs ys : List A) → map f (xs ++ ys) ≡ map f xs ++ map f ys
  map_append f [] ys = refl
  map_append f (x ∷ xs) ys = ap {B = List B} (λ l. f x ∷ l) (map_append f xs ys)

module _ {ℓ} {A : Type ℓ} where
  -- within the list the default does not matter
  pub get_d_any : (l : List A) (k : ℕ) (d e : A) → k < length l → get_or l k d ≡ get_or l k e
  get_d_any [] k d e h = absurd (not-suc-le-zero h)
  get_d_any (x ∷ l) zero d e h = refl
  get_d_any (x ∷ l) (suc k) d e h = get_d_any l k d e (le_of_suc-le-suc h)

module _ {A : Type 0} where
  -- a list of n elements, place by place
  pub by_places : (d : A) (n : ℕ) (xs : List A) → length xs ≡ n → xs ≡ map (λ i. get_or xs i d) (below n)
  by_places d n xs e =
      let f : ℕ → A = λ i. get_or xs i d in
      ext_get_or d xs (map f (below n)) (e ∙ sym (length_map_below f n)) (λ i h. sym (get_or_map_below f n i d (omega arith)))

  -- two functions that agree below n give the same list
  pub map_below_same : (f g : ℕ → A) (n : ℕ) → ((k : ℕ) → k < n → f k ≡ g k) → map f (below n) ≡ map g (below n)
  map_below_same f g zero h = refl
  map_below_same f g (suc n) h =
      ext_get_or (f 0) (map f (below (suc n))) (map g (below (suc n))) (length_map_below f (suc n) ∙ sym (length_map_below g (suc n)))
      (λ i l. let m : i < suc n = subst (λ (x : ℕ). i < x) (length_map_below f (suc n)) l in
      get_or_map_below f (suc n) i (f 0) m ∙ h i m ∙ sym (get_or_map_below g (suc n) i (f 0) m))

module _ {A : Type 0} (g : ℕ → A) (old : List A) where
  pub filled_none : filled g old 0 ≡ old
  filled_none = refl

  pub length_filled : (n : ℕ) → n ≤ length old → length (filled g old n) ≡ length old
  length_filled n h = simp (length-append, length_map_below, length-drop) (omega arith)

  -- storing g k at place k fills one place more
  pub filled_more : (k : ℕ) → k < length old → set (filled g old k) k (g k) ≡ filled g old (k + 1)
  filled_more k h =
      ap (λ (l : List A). set (map g (below k) ++ l) k (g k)) (drop-cons old k (g k) h)
      ∙ set_at (map g (below k)) (get_or old k (g k)) (drop (suc k) old) (g k) k (length_map_below g k)
      ∙ sym (append_assoc (map g (below k)) (g k ∷ []) (drop (suc k) old))
      ∙ ap (λ (l : List A). l ++ drop (suc k) old) (sym (map_append g (below k) (k ∷ [])) ∙ ap (map g) (sym (below_snoc k)))
      ∙ ap (λ (n : ℕ). map g (below (k + 1)) ++ drop n old) (sym (add-one k))

  -- the places that are not filled yet are the old ones
  pub filled_rest : (k : ℕ) (d : A) → get_or (filled g old k) k d ≡ get_or old k d
  filled_rest k d =
      let e : length (map g (below k)) + 0 ≡ k = omega (arith, length_map_below g k) in
      subst (λ (n : ℕ). get_or (filled g old k) n d ≡ get_or (drop k old) 0 d) e (get_or-append-add (map g (below k)) (drop k old) 0 d)
      ∙ get_or-drop k old 0 d ∙ ap (λ (n : ℕ). get_or old n d) (omega arith)
