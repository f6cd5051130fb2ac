-- Laws of a word's bits, over its width.
use Prim.Native.Nat.{ℕ, zero, suc, ◌+◌, ◌-◌, ◌*◌, ◌/◌, ◌%◌, ◌^◌, ◌≤◌, ◌<◌, max}
use mathlib.Core.Bool.{Bool, true, false}
use mathlib.Core.Path.{◌≡◌, refl, sym, ap, ◌∙◌, subst}
use mathlib.Core.List.{List, [], ◌∷◌}
use native.Mathlib.Nat.{add-mul-div_right, one-mul, div-eq_of_lt, div-lt_iff_lt-mul, pow-suc, zero-div}
use native.Mathlib.Decide.{dec_lt}
use native.Mathlib.Numerals.{one-add}
use native.Mathlib.Omega.{arith}
use lib.Dec.{eqb}
use lib.ListN.{length, get_or}
use lib.Bits.{bit_and, and_shr, and_mod, bit_or, or_shr, or_mod}
use lib.Pow.{pow_pos, pow-add, pow_mono, shr-shr}
use borrow.Author.Tests.{eq-eqb, ne_eqb, eqb-true, eqb-false}
use Rattle.lists.specs.Words.{bit, bit_at, in_word, word_of}

-- ---- one bit
pub in_is_one : (w t : ℕ) → in_word w t ≡ true → bit_at w t ≡ 1
in_is_one w t e = eqb-true (bit_at w t) 1 e

pub out_is_zero : (w t : ℕ) → in_word w t ≡ false → bit_at w t ≡ 0
out_is_zero w t e = omega (arith, eqb-false (bit_at w t) 1 e)

pub one_is_in : (w t : ℕ) → bit_at w t ≡ 1 → in_word w t ≡ true
one_is_in w t e = eq-eqb (bit_at w t) 1 e

pub zero_is_out : (w t : ℕ) → bit_at w t ≡ 0 → in_word w t ≡ false
zero_is_out w t e = ne_eqb (bit_at w t) 1 (λ p. omega arith)

pub bit_zero : (w : ℕ) → bit_at w 0 ≡ w % 2
bit_zero w = omega arith

pub bit_suc : (w t : ℕ) → bit_at w (suc t) ≡ bit_at (w / 2) t
bit_suc w t = ap (λ (x : ℕ). x % 2) (ap (λ (x : ℕ). w / 2 ^ x) (sym (one-add t)) ∙ sym (shr-shr w 1 t))

-- the empty word, and places beyond the width
pub none_in : (t : ℕ) → bit_at 0 t ≡ 0
none_in t = ap (λ (x : ℕ). x % 2) (zero-div (2 ^ t))

pub beyond : (k w t : ℕ) → w < 2 ^ k → k ≤ t → bit_at w t ≡ 0
beyond k w t h l = ap (λ (x : ℕ). x % 2) (div-eq_of_lt (pow_room (pow_mono l)))
  where
    pow_room : 2 ^ k ≤ 2 ^ t → w < 2 ^ t
    pow_room p = omega arith

-- two words of one width with the same bits are equal
pub word_ext : (k a b : ℕ) → a < 2 ^ k → b < 2 ^ k → ((t : ℕ) → t < k → bit_at a t ≡ bit_at b t) → a ≡ b
word_ext zero a b ha hb f = omega arith
word_ext (suc k) a b ha hb f =
    let p : 2 ^ suc k ≡ 2 ^ k * 2 = pow-suc 2 k in
    let ih : a / 2 ≡ b / 2 = word_ext k (a / 2) (b / 2) (omega arith) (omega arith)
    (λ t h. sym (bit_suc a t) ∙ f (suc t) (omega arith) ∙ bit_suc b t) in
    let low : a % 2 ≡ b % 2 = sym (bit_zero a) ∙ f 0 (omega arith) ∙ bit_zero b in
    omega arith

-- ---- a bit put in
below_of_div : (x k : ℕ) → x / 2 ^ k ≡ 0 → x < 2 ^ k
below_of_div x k e = subst (λ (y : ℕ). x < y) (one-mul (2 ^ k)) ((div-lt_iff_lt-mul (pow_pos k)).0 (omega arith))

shift_add : (w t : ℕ) → (w + 2 ^ t) / 2 ^ t ≡ w / 2 ^ t + 1
shift_add w t = ap (λ (x : ℕ). (w + x) / 2 ^ t) (sym (one-mul (2 ^ t))) ∙ add-mul-div_right w 1 (pow_pos t)

pub put_same : (w t : ℕ) → bit_at w t ≡ 0 → bit_at (w + 2 ^ t) t ≡ 1
put_same w t h = omega (arith, shift_add w t)

-- above the bit that is put in nothing changes: u = t + 1 + d
above : (w t d : ℕ) → bit_at w t ≡ 0 → (w + 2 ^ t) / 2 ^ (t + (1 + d)) ≡ w / 2 ^ (t + (1 + d))
above w t d h =
    sym (shr-shr (w + 2 ^ t) t (1 + d)) ∙ sym (shr-shr _ 1 d)
    ∙ ap (λ (x : ℕ). x / 2 ^ 1 / 2 ^ d) (shift_add w t)
    ∙ ap (λ (x : ℕ). x / 2 ^ d) (omega arith)
    ∙ shr-shr _ 1 d ∙ shr-shr w t (1 + d)

pub put_fits : (w t k : ℕ) → t < k → w < 2 ^ k → bit_at w t ≡ 0 → w + 2 ^ t < 2 ^ k
put_fits w t k h f e =
    let d : ℕ = k - (t + 1) in
    let q : k ≡ t + (1 + d) = omega arith in
    let z : w / 2 ^ k ≡ 0 = div-eq_of_lt f in
    let n : (w + 2 ^ t) / 2 ^ k ≡ 0 = subst (λ (x : ℕ). (w + 2 ^ t) / 2 ^ x ≡ w / 2 ^ x) (sym q) (above w t d e) ∙ z in
    below_of_div (w + 2 ^ t) k n

pub put_other : (w t u : ℕ) → bit_at w t ≡ 0 → (u ≡ t → ⊥) → bit_at (w + 2 ^ t) u ≡ bit_at w u
put_other w t u h ne = go (dec_lt t u)
  where
    go : Dec (t < u) → bit_at (w + 2 ^ t) u ≡ bit_at w u
    go (yes lt) =
        let d : ℕ = u - (t + 1) in
        let q : u ≡ t + (1 + d) = omega arith in
        ap (λ (x : ℕ). x % 2) (subst (λ (x : ℕ). (w + 2 ^ t) / 2 ^ x ≡ w / 2 ^ x) (sym q) (above w t d h))
    go (no nlt) =
        let d : ℕ = t - (u + 1) in
        let q : t ≡ suc d + u = omega arith in
        let p : 2 ^ t ≡ (2 ^ d * 2) * 2 ^ u = ap (λ (x : ℕ). 2 ^ x) q ∙ pow-add 2 (suc d) u ∙ ap (λ (x : ℕ). x * 2 ^ u) (pow-suc 2 d) in
        let e : (w + 2 ^ t) / 2 ^ u ≡ w / 2 ^ u + 2 ^ d * 2 = ap (λ (x : ℕ). (w + x) / 2 ^ u) p
        ∙ add-mul-div_right w (2 ^ d * 2) (pow_pos u) in
        omega arith

-- ---- a bit taken off
pub off_room : (w t : ℕ) → bit_at w t ≡ 1 → 2 ^ t ≤ w
off_room w t h = go (dec_lt w (2 ^ t))
  where
    go : Dec (w < 2 ^ t) → 2 ^ t ≤ w
    go (yes l) = absurd (omega (arith, div-eq_of_lt l))
    go (no l) = omega arith

off_back : (w t : ℕ) → bit_at w t ≡ 1 → (w - 2 ^ t) + 2 ^ t ≡ w
off_back w t h = omega (arith, off_room w t h)

pub off_same : (w t : ℕ) → bit_at w t ≡ 1 → bit_at (w - 2 ^ t) t ≡ 0
off_same w t h =
    let e : w / 2 ^ t ≡ (w - 2 ^ t) / 2 ^ t + 1 = ap (λ (x : ℕ). x / 2 ^ t) (sym (off_back w t h)) ∙ shift_add (w - 2 ^ t) t in
    omega arith

pub off_other : (w t u : ℕ) → bit_at w t ≡ 1 → (u ≡ t → ⊥) → bit_at (w - 2 ^ t) u ≡ bit_at w u
off_other w t u h ne = sym (put_other (w - 2 ^ t) t u (off_same w t h) ne) ∙ ap (λ (x : ℕ). bit_at x u) (off_back w t h)

-- ---- the complement, and what two words share
pub not_at : (k w t : ℕ) → t < k → w < 2 ^ k → bit_at ((2 ^ k - 1) - w) t ≡ 1 - bit_at w t
not_at zero w t h l = absurd (omega arith)
not_at (suc k) w zero h l =
    let p : 2 ^ suc k ≡ 2 ^ k * 2 = pow-suc 2 k in
    let o : ((2 ^ suc k - 1) - w) % 2 ≡ 1 - w % 2 = omega arith in
    bit_zero ((2 ^ suc k - 1) - w) ∙ o ∙ ap (λ (x : ℕ). 1 - x) (sym (bit_zero w))
not_at (suc k) w (suc t) h l =
    let p : 2 ^ suc k ≡ 2 ^ k * 2 = pow-suc 2 k in
    let q : ((2 ^ suc k - 1) - w) / 2 ≡ (2 ^ k - 1) - w / 2 = omega arith in
    bit_suc ((2 ^ suc k - 1) - w) t ∙ ap (λ (x : ℕ). bit_at x t) q ∙ not_at k (w / 2) t (omega arith) (omega arith)
    ∙ ap (λ (x : ℕ). 1 - x) (sym (bit_suc w t))

and_digits : (x y : ℕ) → x < 2 → y < 2 → bit_and x y ≡ x * y
and_digits zero zero h l = refl
and_digits zero (suc zero) h l = refl
and_digits (suc zero) zero h l = refl
and_digits (suc zero) (suc zero) h l = refl
and_digits zero (suc (suc y)) h l = absurd (omega arith)
and_digits (suc zero) (suc (suc y)) h l = absurd (omega arith)
and_digits (suc (suc x)) y h l = absurd (omega arith)

pub and_at : (a b t : ℕ) → bit_at (bit_and a b) t ≡ bit_at a t * bit_at b t
and_at a b t =
    ap (λ (x : ℕ). x % 2) (and_shr a b t) ∙ and_mod (a / 2 ^ t) (b / 2 ^ t) 1
    ∙ and_digits (bit_at a t) (bit_at b t) (omega arith) (omega arith)

or_digits : (x y : ℕ) → x < 2 → y < 2 → bit_or x y ≡ max x y
or_digits zero zero h l = refl
or_digits zero (suc zero) h l = refl
or_digits (suc zero) zero h l = refl
or_digits (suc zero) (suc zero) h l = refl
or_digits zero (suc (suc y)) h l = absurd (omega arith)
or_digits (suc zero) (suc (suc y)) h l = absurd (omega arith)
or_digits (suc (suc x)) y h l = absurd (omega arith)

pub or_at : (a b t : ℕ) → bit_at (bit_or a b) t ≡ max (bit_at a t) (bit_at b t)
or_at a b t =
    ap (λ (x : ℕ). x % 2) (or_shr a b t) ∙ or_mod (a / 2 ^ t) (b / 2 ^ t) 1 ∙ or_digits (bit_at a t) (bit_at b t) (omega arith) (omega arith)

-- ---- the word of a list of tests
pub word_of_lt : (bs : List Bool) → word_of bs < 2 ^ length bs
unfolding word_of
word_of_lt [] = omega arith
word_of_lt (true ∷ bs) = omega (arith, word_of_lt bs, pow-suc 2 (length bs))
word_of_lt (false ∷ bs) = omega (arith, word_of_lt bs, pow-suc 2 (length bs))

pub word_of_at : (bs : List Bool) (t : ℕ) → bit_at (word_of bs) t ≡ bit (get_or bs t false)
unfolding word_of
word_of_at [] t = none_in t
word_of_at (true ∷ bs) zero = bit_zero _ ∙ omega arith
word_of_at (false ∷ bs) zero = bit_zero _ ∙ omega arith
word_of_at (true ∷ bs) (suc t) = bit_suc _ t ∙ ap (λ (x : ℕ). bit_at x t) (omega arith) ∙ word_of_at bs t
word_of_at (false ∷ bs) (suc t) = bit_suc _ t ∙ ap (λ (x : ℕ). bit_at x t) (omega arith) ∙ word_of_at bs t

bit_test : (b : Bool) → eqb (bit b) 1 ≡ b
bit_test true = refl
bit_test false = refl

pub in_word_of : (bs : List Bool) (t : ℕ) → in_word (word_of bs) t ≡ get_or bs t false
in_word_of bs t = ap (λ (x : ℕ). eqb x 1) (word_of_at bs t) ∙ bit_test (get_or bs t false)
