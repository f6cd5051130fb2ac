-- Laws of a test over a whole list: how it passes to what is kept, mapped and joined; and how many are kept.
use Rattle.std.specs.Prelude.{if◌then◌else◌, cond}
use Prim.Native.Nat.{ℕ, zero, suc, ◌+◌, ◌-◌, ◌≤◌, ◌<◌}
use mathlib.Core.Bool.{Bool, true, false, not, ◌&&◌}
use mathlib.Core.Path.{◌≡◌, refl, ap, subst⁻¹}
use mathlib.Core.Logic.{⊎_elim}
use mathlib.Core.List.Memᴰ
use mathlib.Core.List.{List, [], ◌∷◌, ◌++◌, map, Memᴰ}
use native.Mathlib.Decide.{ℕ_discrete}
use native.Mathlib.Nat.{le_refl}
use native.Mathlib.Omega.{arith}
use lib.Dec.{T}
use lib.ListN.{length}
use Rattle.lists.specs.Lists.{keep, every, from, below}
use Rattle.lists.proofs.Tests.{and_l, and_r, and_i, if_elim, every_append}

module _ {ℓ} {A : Type ℓ} where
  -- a weaker test passes too
  pub every_imp : (p q : A → Bool) → ((x : A) → T (p x) → T (q x)) → (xs : List A) → T (every p xs) → T (every q xs)
  every_imp p q f [] t = tt
  every_imp p q f (x ∷ xs) t = and_i (q x) _ (f x (and_l (p x) _ t)) (every_imp p q f xs (and_r (p x) _ t))

  pub every_both : (p q : A → Bool) (xs : List A) → T (every p xs) → T (every q xs) → T (every (λ x. p x && q x) xs)
  every_both p q [] t u = tt
  every_both p q (x ∷ xs) t u =
      and_i (p x && q x) _ (and_i (p x) (q x) (and_l (p x) _ t) (and_l (q x) _ u)) (every_both p q xs (and_r (p x) _ t) (and_r (q x) _ u))

  pub every_joined : (p : A → Bool) (xs ys : List A) → T (every p xs) → T (every p ys) → T (every p (xs ++ ys))
  every_joined p xs ys t u = subst⁻¹ T (every_append p xs ys) (and_i (every p xs) _ t u)

  -- whoever is in the list passes
  pub every_in : (p : A → Bool) (x : A) (xs : List A) → T (every p xs) → Memᴰ x xs → T (p x)
  every_in p x [] t m = absurd (Memᴰ.not-nil m)
  every_in p x (y ∷ ys) t m =
      ⊎_elim (λ e. subst⁻¹ (λ (z : A). T (p z)) e (and_l (p y) _ t)) (λ n. every_in p x ys (and_r (p y) _ t) n) (Memᴰ.cases_cons m)

  -- what is kept passes what all pass
  pub every_keep : (p q : A → Bool) (xs : List A) → T (every p xs) → T (every p (keep q xs))
  every_keep p q [] t = tt
  every_keep p q (x ∷ xs) t =
      if_elim (λ l. T (every p l)) (q x)
      (λ u. and_i (p x) _ (and_l (p x) _ t) (every_keep p q xs (and_r (p x) _ t)))
      (λ u. every_keep p q xs (and_r (p x) _ t))

  -- and the test by which it is kept
  pub every_kept : (q : A → Bool) (xs : List A) → T (every q (keep q xs))
  every_kept q [] = tt
  every_kept q (x ∷ xs) = if_elim (λ l. T (every q l)) (q x) (λ u. and_i (q x) _ u (every_kept q xs)) (λ u. every_kept q xs)

  -- no more are kept than there are
  pub keep_le : (p : A → Bool) (xs : List A) → length (keep p xs) ≤ length xs
  keep_le p [] = le_refl 0
  keep_le p (x ∷ xs) = if_elim (λ l. length l ≤ suc (length xs)) (p x) (λ u. omega (arith, keep_le p xs)) (λ u. omega (arith, keep_le p xs))

  -- nor by a stronger test
  pub keep_fewer : (p q : A → Bool) → ((x : A) → T (p x) → T (q x)) → (xs : List A) → length (keep p xs) ≤ length (keep q xs)
  keep_fewer p q f [] = le_refl 0
  keep_fewer p q f (x ∷ xs) = go (p x) (q x) (f x) (keep_fewer p q f xs)
    where
      go : (a b : Bool) → (T a → T b) → length (keep p xs) ≤ length (keep q xs)
          → length (cond a (x ∷ keep p xs) (keep p xs)) ≤ length (cond b (x ∷ keep q xs) (keep q xs))
      go true true g h = omega arith
      go true false g h = absurd (g tt)
      go false true g h = omega arith
      go false false g h = h

  -- what is kept of what is kept
  pub keep_keep : (p q : A → Bool) (xs : List A) → keep q (keep p xs) ≡ keep (λ x. p x && q x) xs
  keep_keep p q [] = refl
  keep_keep p q (x ∷ xs) = go (p x) (keep_keep p q xs)
    where
      go : (b : Bool) → keep q (keep p xs) ≡ keep (λ y. p y && q y) xs
          → keep q (cond b (x ∷ keep p xs) (keep p xs)) ≡ cond (b && q x) (x ∷ keep (λ y. p y && q y) xs) (keep (λ y. p y && q y) xs)
      go true e = ap (λ (l : List A). cond (q x) (x ∷ l) l) e
      go false e = e

module _ {ℓ κ} {A : Type ℓ} {B : Type κ} where
  pub every_map : (p : B → Bool) (f : A → B) (xs : List A) → T (every (λ x. p (f x)) xs) → T (every p (map f xs))
  every_map p f [] t = tt
  every_map p f (x ∷ xs) t = and_i (p (f x)) _ (and_l (p (f x)) _ t) (every_map p f xs (and_r (p (f x)) _ t))

-- ---- a number k below n that the weaker test keeps and the stronger does not: at least one fewer is kept
module _ (p q : ℕ → Bool) (f : (x : ℕ) → T (p x) → T (q x)) (k : ℕ) (out : T (not (p k))) (into : T (q k)) where
  fewer_from : (n i : ℕ) → i ≤ k → k < i + n → length (keep p (from i n)) + 1 ≤ length (keep q (from i n))
  fewer_from zero i a b = absurd (outside a b)
    where
      outside : i ≤ k → k < i + 0 → ⊥
      outside x y = omega arith
  fewer_from (suc n) i a b =
      go (ℕ_discrete i k) (p i) (q i) (λ e. subst⁻¹ (λ (x : ℕ). T (not (p x))) e out) (λ e. subst⁻¹ (λ (x : ℕ). T (q x)) e into) (f i)
      (keep_fewer p q f (from (suc i) n)) (λ l. fewer_from n (suc i) l (omega arith))
    where
      go : Dec (i ≡ k) → (c d : Bool) → (i ≡ k → T (not c)) → (i ≡ k → T d) → (T c → T d)
          → length (keep p (from (suc i) n)) ≤ length (keep q (from (suc i) n))
          → (suc i ≤ k → length (keep p (from (suc i) n)) + 1 ≤ length (keep q (from (suc i) n)))
          → length (if c then (i ∷ keep p (from (suc i) n)) else keep p (from (suc i) n)) + 1 ≤ length
          (if d then (i ∷ keep q (from (suc i) n)) else keep q (from (suc i) n))
      go (yes e) true d u v g h rest = absurd (u e)
      go (yes e) false true u v g h rest = omega arith
      go (yes e) false false u v g h rest = absurd (v e)
      go (no e) true true u v g h rest = omega (arith, rest (omega arith))
      go (no e) true false u v g h rest = absurd (g tt)
      go (no e) false true u v g h rest = omega (arith, rest (omega arith))
      go (no e) false false u v g h rest = rest (omega arith)

  pub keep_one_fewer : (n : ℕ) → k < n → length (keep p (below n)) ≤ length (keep q (below n)) - 1
  keep_one_fewer n h = let e = fewer_from n 0 (omega arith) (omega arith) in omega arith
