-- A word's count of ones and the trailing zeros of its complement, as sums and runs of its bits.
use Prim.Native.Nat.{ℕ, zero, suc, ◌+◌, ◌-◌, ◌*◌, ◌/◌, ◌%◌, ◌^◌, ◌<◌}
use mathlib.Core.Bool.{Bool, true, false}
use mathlib.Core.Path.{◌≡◌, refl, sym, ap, ap₂, ◌∙◌, subst}
use mathlib.Core.List.{List, [], ◌∷◌, ◌++◌}
use native.Mathlib.Nat.{mod-lt, mod-eq_of_lt, mod-one, pow-suc, le_of_suc-le-suc, zero-add, add_comm, add_assoc, add-zero}
use native.Mathlib.Numerals.{one-add}
use native.Mathlib.Omega.{arith}
use lib.Pow.{pow_pos, mod-pow-add}
use lib.Count.{ones, ones_cat, ones_step, count_trailing_zeros, under}
use Rattle.lists.specs.Lists.{sum_of, below}
use Rattle.lists.specs.Words.{bit, bit_at, word_of}
use Rattle.lists.proofs.Numbers.{from_snoc}
use Rattle.lists.proofs.Words.{bit_zero, bit_suc}

module _ {ℓ} {A : Type ℓ} where
  pub sum_append : (f : A → ℕ) (xs ys : List A) → sum_of f (xs ++ ys) ≡ sum_of f xs + sum_of f ys
  sum_append f [] ys = sym (zero-add (sum_of f ys))
  sum_append f (x ∷ xs) ys = ap (λ (n : ℕ). f x + n) (sum_append f xs ys) ∙ sym (add_assoc (f x) (sum_of f xs) (sum_of f ys))

-- the sum over one number more
pub sum_below : (f : ℕ → ℕ) (n : ℕ) → sum_of f (below (suc n)) ≡ sum_of f (below n) + f n
sum_below f n =
    ap (sum_of f) (from_snoc n 0) ∙ sum_append f (below n) ((0 + n) ∷ [])
    ∙ ap (λ (x : ℕ). sum_of f (below n) + x) (add-zero (f (0 + n)) ∙ ap f (zero-add n))

ones_digit : (d : ℕ) → d < 2 → ones d ≡ d
unfolding ones
ones_digit zero h = refl
ones_digit (suc zero) h = refl
ones_digit (suc (suc d)) h = absurd (omega arith)

ones_low : (k w : ℕ) → ones (w % 2 ^ k) ≡ sum_of (bit_at w) (below k)
unfolding ones
ones_low zero w = ap ones (mod-one w)
ones_low (suc k) w =
    ap (λ (x : ℕ). ones (w % 2 ^ x)) (sym (one-add k)) ∙ ap ones (mod-pow-add w 1 k)
    ∙ ones_cat k (w / 2 ^ k % 2) (w % 2 ^ k) (mod-lt w (pow_pos k))
    ∙ ap₂ (λ (x y : ℕ). x + y) (ones_digit (w / 2 ^ k % 2) (omega arith)) (ones_low k w)
    ∙ add_comm (bit_at w k) (sum_of (bit_at w) (below k))
    ∙ sym (sum_below (bit_at w) k)

-- the count of ones is the sum of the bits
pub ones_bits : (k w : ℕ) → w < 2 ^ k → ones w ≡ sum_of (bit_at w) (below k)
ones_bits k w h = ap ones (sym (mod-eq_of_lt h)) ∙ ones_low k w

ones_cons : (d w : ℕ) → d < 2 → ones (d + 2 * w) ≡ d + ones w
ones_cons d w h =
    let low : (d + 2 * w) % 2 ≡ d = omega arith in
    let rest : (d + 2 * w) / 2 ≡ w = omega arith in
    ones_step (d + 2 * w) ∙ ap₂ (λ (x y : ℕ). x + ones y) low rest

-- the count of ones of a list's word is how often the list says yes
pub ones_word_of : (bs : List Bool) → ones (word_of bs) ≡ sum_of bit bs
unfolding word_of ones
ones_word_of [] = refl
ones_word_of (true ∷ bs) = ones_cons 1 (word_of bs) (omega arith) ∙ ap (λ (x : ℕ). 1 + x) (ones_word_of bs)
ones_word_of (false ∷ bs) = ones_cons 0 (word_of bs) (omega arith) ∙ ap (λ (x : ℕ). 0 + x) (ones_word_of bs)

-- z is how many bits w has below the lowest that it lacks
pub record Run (k w z : ℕ) : Type 0 where
  pub has : (t : ℕ) → t < z → bit_at w t ≡ 1
  pub lacks : z < k → bit_at w z ≡ 0

pub run : (k w : ℕ) → w < 2 ^ k → Run k w (count_trailing_zeros k ((2 ^ k - 1) - w))
unfolding count_trailing_zeros
run zero w h = record { has = λ t l. absurd (omega arith); lacks = λ l. absurd (omega arith) }
run (suc k) w h =
    let p : 2 ^ suc k ≡ 2 ^ k * 2 = pow-suc 2 k in
    let q : ((2 ^ suc k - 1) - w) / 2 ≡ (2 ^ k - 1) - w / 2 = omega arith in
    let o : ((2 ^ suc k - 1) - w) % 2 ≡ 1 - w % 2 = omega arith in
    subst (λ (x : ℕ). Run (suc k) w (under x (count_trailing_zeros k (((2 ^ suc k - 1) - w) / 2)))) (sym o)
    (subst (λ (x : ℕ). Run (suc k) w (under (1 - w % 2) (count_trailing_zeros k x))) (sym q)
    (go (w % 2) refl (run k (w / 2) (omega arith))))
  where
    go : (d : ℕ) → w % 2 ≡ d → Run k (w / 2) (count_trailing_zeros k ((2 ^ k - 1) - w / 2))
        → Run (suc k) w (under (1 - d) (count_trailing_zeros k ((2 ^ k - 1) - w / 2)))
    go zero e r = record { has = λ t l. absurd (omega arith); lacks = λ l. bit_zero w ∙ e }
    go (suc zero) e r = record { has = λ t l. up t l; lacks = λ l. bit_suc w _ ∙ r.lacks (le_of_suc-le-suc l) }
      where
        up : (t : ℕ) → t < suc (count_trailing_zeros k ((2 ^ k - 1) - w / 2)) → bit_at w t ≡ 1
        up zero l = bit_zero w ∙ e
        up (suc t) l = bit_suc w t ∙ r.has t (le_of_suc-le-suc l)
    go (suc (suc d)) e r = absurd (omega arith)
