-- What is kept of some numbers, taken apart at the first of them; and how many of a word's numbers there are.
use Rattle.std.specs.Prelude.{if◌then◌else◌, cond}
use Prim.Native.Nat.{ℕ, zero, suc, ◌+◌, ◌≤◌, ◌<◌}
use mathlib.Core.Bool.{Bool, true, false, ◌||◌}
use mathlib.Core.Path.{◌≡◌, refl, sym, ap, ap₂, ◌∙◌, subst, subst⁻¹}
use mathlib.Core.List.{List, [], ◌∷◌}
use native.Mathlib.Omega.{arith}
use lib.Dec.{T, eqb}
use lib.ListN.{length}
use borrow.Author.Tests.{eq-eqb, ne_eqb}
use Rattle.lists.specs.Lists.{keep, any, sum_of, first_of, from, below}
use Rattle.lists.specs.Words.{bit_at, in_word}
use Rattle.lists.proofs.Words.{in_is_one, out_is_zero}

-- tests that agree on i, i + 1, .. keep the same of them
pub keep_alike : (p q : ℕ → Bool) (n i : ℕ) → ((t : ℕ) → i ≤ t → t < i + n → p t ≡ q t) → keep p (from i n) ≡ keep q (from i n)
keep_alike p q zero i e = refl
keep_alike p q (suc n) i e =
    ap₂ (λ (b : Bool) (l : List ℕ). if b then (i ∷ l) else l) (e i (omega arith) (omega arith))
    (keep_alike p q n (suc i) (λ t h l. e t (omega arith) (omega arith)))

-- the test, but z fails it
abbrev pub less_one : (ℕ → Bool) → ℕ → ℕ → Bool
less_one p z t = if eqb t z then false else p t

pub fails_still : (p : ℕ → Bool) (z t : ℕ) → p t ≡ false → less_one p z t ≡ false
fails_still p z t e = go (eqb t z)
  where
    go : (b : Bool) → (if b then false else p t) ≡ false
    go true = refl
    go false = e

module _ (p : ℕ → Bool) (d : ℕ) where
  head_from : (n i : ℕ) → any p (from i n) ≡ true
      → keep p (from i n) ≡ first_of p (from i n) d ∷ keep (less_one p (first_of p (from i n) d)) (from i n)
  head_from zero i e = absurd (subst⁻¹ T e tt)
  head_from (suc n) i e = go (p i) refl e (head_from n (suc i))
    where
      go : (b : Bool) → p i ≡ b → (b || any p (from (suc i) n)) ≡ true
          → (any p (from (suc i) n) ≡ true → keep p (from (suc i) n) ≡ first_of p (from (suc i) n) d ∷ keep
          (less_one p (first_of p (from (suc i) n) d)) (from (suc i) n))
          → (if b then (i ∷ keep p (from (suc i) n)) else keep p (from (suc i) n))
          ≡ (if b then i else first_of p (from (suc i) n) d) ∷ keep (less_one p (if b then i else first_of p (from (suc i) n) d))
          (from i (suc n))
      go true q s more =
          ap {B = List ℕ} (λ l. i ∷ l)
          (keep_alike p (less_one p i) n (suc i) (λ t h l. sym (ap (λ (b : Bool). if b then false else p t) (ne_eqb t i (λ m. omega arith))))
          ∙ sym (ap (λ (b : Bool). if b then (i ∷ keep (less_one p i) (from (suc i) n)) else keep (less_one p i) (from (suc i) n))
          (ap (λ (b : Bool). if b then false else p i) (eq-eqb i i refl))))
      go false q s more =
          let z = first_of p (from (suc i) n) d in
          more s
          ∙ ap {B = List ℕ} (λ l. z ∷ l)
          (sym (ap (λ (b : Bool). if b then (i ∷ keep (less_one p z) (from (suc i) n)) else keep (less_one p z) (from (suc i) n))
          (fails_still p z i q)))

  -- the first that passes comes first, then those that pass and are not it
  pub keep_head : (n : ℕ) → any p (below n) ≡ true
      → keep p (below n) ≡ first_of p (below n) d ∷ keep (less_one p (first_of p (below n) d)) (below n)
  keep_head n e = head_from n 0 e

module _ {ℓ} {A : Type ℓ} where
  -- where none passes, none is kept
  pub keep_nothing : (p : A → Bool) (xs : List A) → any p xs ≡ false → keep p xs ≡ []
  keep_nothing p [] e = refl
  keep_nothing p (x ∷ xs) e = go (p x) e (keep_nothing p xs)
    where
      go : (b : Bool) → (b || any p xs) ≡ false → (any p xs ≡ false → keep p xs ≡ []) → cond b (x ∷ keep p xs) (keep p xs) ≡ []
      go true s more = absurd (subst T s tt)
      go false s more = more s

-- the numbers of a list that are in a word: as many as the word has ones there
pub kept_ones : (w : ℕ) (xs : List ℕ) → sum_of (bit_at w) xs ≡ length (keep (in_word w) xs)
kept_ones w [] = refl
kept_ones w (x ∷ xs) = go (in_word w x) refl (kept_ones w xs)
  where
    go : (b : Bool) → in_word w x ≡ b → sum_of (bit_at w) xs ≡ length (keep (in_word w) xs)
        → bit_at w x + sum_of (bit_at w) xs ≡ length (if b then (x ∷ keep (in_word w) xs) else keep (in_word w) xs)
    go true e r = omega (arith, in_is_one w x e)
    go false e r = omega (arith, out_is_zero w x e)
