-- Laws of the numbers below n: what a loop that counts up knows of `every`, `any`, `map` and `first_of` over them.
use Rattle.std.specs.Prelude.{if◌then◌else◌}
use Prim.Native.Nat.{ℕ, zero, suc, ◌+◌, ◌≤◌, ◌<◌}
use mathlib.Core.Bool.{Bool, true, false}
use mathlib.Core.Path.{◌≡◌, refl, sym, ap, ◌∙◌, subst, subst⁻¹}
use mathlib.Core.Logic.{⊎_elim}
use mathlib.Core.List.{List, [], ◌∷◌, ◌++◌, map}
use native.Mathlib.Numerals.{add-one}
use native.Mathlib.Nat.{not-suc-le-zero, le_of_suc-le-suc, le_refl, add-zero, add-suc, suc-add, zero-add}
use native.Mathlib.Omega.{arith}
use lib.Dec.{T}
use lib.ListN.{length, get_or, length-map}
use Rattle.lists.specs.Lists.{every, any, first_of, from, below}
use Rattle.lists.proofs.Tests.{and_l, and_r, and_i, or_cases, or_left, or_right, every_append, every_fails}

pub length_from : (i n : ℕ) → length (from i n) ≡ n
length_from i zero = refl
length_from i (suc n) = ap suc (length_from (suc i) n)

-- ---- one more at the end: what a turn of the loop adds
pub from_snoc : (n i : ℕ) → from i (suc n) ≡ from i n ++ ((i + n) ∷ [])
from_snoc zero i = ap {B = List ℕ} (λ x. x ∷ []) (sym (add-zero i))
from_snoc (suc n) i =
    ap {B = List ℕ} (λ l. i ∷ l) (from_snoc n (suc i) ∙ ap (λ (x : ℕ). from (suc i) n ++ (x ∷ [])) (suc-add i n ∙ sym (add-suc i n)))

pub below_snoc : (n : ℕ) → below (n + 1) ≡ below n ++ (n ∷ [])
below_snoc n = ap below (add-one n) ∙ from_snoc n 0 ∙ ap (λ (x : ℕ). below n ++ (x ∷ [])) (zero-add n)

-- ---- elements
module _ {ℓ} {A : Type ℓ} where
  get_or_map_from : (f : ℕ → A) (n i k : ℕ) (d : A) → k < n → get_or (map f (from i n)) k d ≡ f (i + k)
  get_or_map_from f zero i k d h = absurd (not-suc-le-zero h)
  get_or_map_from f (suc n) i zero d h = ap f (sym (add-zero i))
  get_or_map_from f (suc n) i (suc k) d h = get_or_map_from f n (suc i) k d (le_of_suc-le-suc h) ∙ ap f (suc-add i k ∙ sym (add-suc i k))

  pub get_or_map_below : (f : ℕ → A) (n k : ℕ) (d : A) → k < n → get_or (map f (below n)) k d ≡ f k
  get_or_map_below f n k d h = get_or_map_from f n 0 k d h ∙ ap f (zero-add k)

  pub length_map_below : (f : ℕ → A) (n : ℕ) → length (map f (below n)) ≡ n
  length_map_below f n = length-map (below n) f ∙ length_from 0 n

get_or_from : (n i k d : ℕ) → k < n → get_or (from i n) k d ≡ i + k
get_or_from zero i k d h = absurd (not-suc-le-zero h)
get_or_from (suc n) i zero d h = sym (add-zero i)
get_or_from (suc n) i (suc k) d h = get_or_from n (suc i) k d (le_of_suc-le-suc h) ∙ (suc-add i k ∙ sym (add-suc i k))

-- ---- every
pub every_from : (p : ℕ → Bool) (n i : ℕ) → T (every p (from i n)) → (k : ℕ) → k < n → T (p (i + k))
every_from p zero i t k h = absurd (not-suc-le-zero h)
every_from p (suc n) i t zero h = rw add-zero (and_l (p i) _ t)
every_from p (suc n) i t (suc k) h =
    subst (λ (x : ℕ). T (p x)) (suc-add i k ∙ sym (add-suc i k)) (every_from p n (suc i) (and_r (p i) _ t) k (le_of_suc-le-suc h))

pub from_every : (p : ℕ → Bool) (n i : ℕ) → ((k : ℕ) → k < n → T (p (i + k))) → T (every p (from i n))
from_every p zero i f = tt
from_every p (suc n) i f =
    and_i (p i) _ (subst (λ (x : ℕ). T (p x)) (add-zero i) (f 0 (omega arith)))
    (from_every p n (suc i) (λ k h. subst (λ (x : ℕ). T (p x)) (add-suc i k ∙ sym (suc-add i k)) (f (suc k) (omega arith))))

pub below_at : (p : ℕ → Bool) (n : ℕ) → T (every p (below n)) → (k : ℕ) → k < n → T (p k)
below_at p n t k h = subst (λ (x : ℕ). T (p x)) (zero-add k) (every_from p n 0 t k h)

pub at_below : (p : ℕ → Bool) (n : ℕ) → ((k : ℕ) → k < n → T (p k)) → T (every p (below n))
at_below p n f = from_every p n 0 (λ k h. subst⁻¹ (λ (x : ℕ). T (p x)) (zero-add k) (f k h))

-- a loop that leaves at the first failure: none so far, and one more
pub all_more : (p : ℕ → Bool) (k : ℕ) → every p (below k) ≡ true → p k ≡ true → every p (below (k + 1)) ≡ true
all_more p k h e = ap (every p) (below_snoc k) ∙ every_append p (below k) (k ∷ []) ∙ rw (h, e)

pub all_fails : (p : ℕ → Bool) (n k : ℕ) → k < n → p k ≡ false → every p (below n) ≡ false
all_fails p n k h e = every_fails p (below n) k 0 (rw (length_from 0 n) h) (ap p (get_or_from n 0 k 0 h ∙ zero-add k) ∙ e)

-- ---- any
pub any_out : (p : ℕ → Bool) (n i : ℕ) → T (any p (from i n)) → (k : ℕ) × (i ≤ k) × (k < i + n) × T (p k)
any_out p zero i t = absurd t
any_out p (suc n) i t =
    ⊎_elim (λ u. (i, le_refl i, omega arith, u))
    (λ u. let r = any_out p n (suc i) u in (r.0, omega (arith, r.1), omega (arith, r.2), r.3))
    (or_cases (p i) _ t)

pub any_in : (p : ℕ → Bool) (n i k : ℕ) → k < n → T (p (i + k)) → T (any p (from i n))
any_in p zero i k h t = absurd (not-suc-le-zero h)
any_in p (suc n) i zero h t = or_left (p i) _ (subst (λ (x : ℕ). T (p x)) (omega arith) t)
any_in p (suc n) i (suc k) h t = or_right (p i) _ (any_in p n (suc i) k (le_of_suc-le-suc h) (subst (λ (x : ℕ). T (p x)) (omega arith) t))

-- ---- the first that passes
first_skip : (p : ℕ → Bool) (n i : ℕ) (d : ℕ) → ((k : ℕ) → k < n → p (i + k) ≡ false) → first_of p (from i n) d ≡ d
first_skip p zero i d f = refl
first_skip p (suc n) i d f =
    ap (λ (b : Bool). if b then i else first_of p (from (suc i) n) d) (subst (λ (x : ℕ). p x ≡ false) (add-zero i) (f 0 (omega arith)))
    ∙ first_skip p n (suc i) d (λ k h. subst (λ (x : ℕ). p x ≡ false) (add-suc i k ∙ sym (suc-add i k)) (f (suc k) (omega arith)))

first_from : (p : ℕ → Bool) (n i z : ℕ) (d : ℕ) → z < n → ((k : ℕ) → k < z → p (i + k) ≡ false) → p (i + z) ≡ true
    → first_of p (from i n) d ≡ i + z
first_from p zero i z d h f e = absurd (not-suc-le-zero h)
first_from p (suc n) i zero d h f e =
    ap (λ (b : Bool). if b then i else first_of p (from (suc i) n) d) (subst (λ (x : ℕ). p x ≡ true) (add-zero i) e) ∙ sym (add-zero i)
first_from p (suc n) i (suc z) d h f e =
    ap (λ (b : Bool). if b then i else first_of p (from (suc i) n) d) (subst (λ (x : ℕ). p x ≡ false) (add-zero i) (f 0 (omega arith)))
    ∙ first_from p n (suc i) z d (le_of_suc-le-suc h)
    (λ k l. subst (λ (x : ℕ). p x ≡ false) (add-suc i k ∙ sym (suc-add i k)) (f (suc k) (omega arith)))
    (subst (λ (x : ℕ). p x ≡ true) (add-suc i z ∙ sym (suc-add i z)) e)
    ∙ (suc-add i z ∙ sym (add-suc i z))

pub first_none : (p : ℕ → Bool) (n d : ℕ) → ((k : ℕ) → k < n → p k ≡ false) → first_of p (below n) d ≡ d
first_none p n d f = first_skip p n 0 d (λ k h. ap p (zero-add k) ∙ f k h)

pub first_is : (p : ℕ → Bool) (n z d : ℕ) → z < n → ((k : ℕ) → k < z → p k ≡ false) → p z ≡ true → first_of p (below n) d ≡ z
first_is p n z d h f e = first_from p n 0 z d h (λ k l. ap p (zero-add k) ∙ f k l) (ap p (zero-add z) ∙ e) ∙ zero-add z
