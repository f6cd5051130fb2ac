-- Laws of sets of links as words. Callers read a word by `in_by` and make one by `by_ext`.
use Rattle.std.specs.Prelude.{if◌then◌else◌}
use Prim.Native.Nat.{ℕ, ◌+◌, ◌-◌, ◌*◌, ◌%◌, ◌^◌, ◌≤◌, ◌<◌, max}
use mathlib.Core.Bool.{Bool, true, false, not, ◌&&◌, ◌||◌}
use mathlib.Core.Path.{◌≡◌, refl, sym, ap, ap₂, ◌∙◌, subst, subst⁻¹}
use mathlib.Core.List.{map}
use native.Mathlib.Nat.{one-mul, mod-eq_of_lt}
use native.Mathlib.Decide.{dec_lt, ℕ_discrete}
use native.Mathlib.Omega.{arith}
use lib.Bits.{bit_and, and_lt, bit_or, or_lt}
use lib.Dec.{eqb, ltb}
use lib.Pow.{pow_pos, pow-lt, ones_sub-lt}
use borrow.Author.Tests.{eq-eqb, ne_eqb, lt-ltb, le-ltb}
use Rattle.lists.specs.Lists.{below}
use Rattle.lists.specs.Words.{bit, bit_at, in_word, word_of}
use Rattle.lists.proofs.Numbers.{get_or_map_below, length_map_below}
use Rattle.lists.proofs.Words.{in_is_one, out_is_zero, one_is_in, zero_is_out, beyond, none_in, word_ext, put_same, put_other}
use Rattle.lists.proofs.Words.{off_room, off_same, off_other, not_at, and_at, or_at, word_of_lt, in_word_of}
use Rattle.sets.specs.Sets.{word_by, up_to}

module _ (f : ℕ → Bool) where
  pub by_lt : word_by f < 2 ^ 64
  unfolding word_by
  by_lt = subst (λ (n : ℕ). word_of (map f (below 64)) < 2 ^ n) (length_map_below f 64) (word_of_lt (map f (below 64)))

  pub in_by : (t : ℕ) → t < 64 → in_word (word_by f) t ≡ f t
  unfolding word_by
  in_by t h = in_word_of (map f (below 64)) t ∙ get_or_map_below f 64 t false h

  pub out_by : (t : ℕ) → 64 ≤ t → in_word (word_by f) t ≡ false
  out_by t h = zero_is_out (word_by f) t (beyond 64 (word_by f) t by_lt h)

bit_of : (w t : ℕ) (b : Bool) → in_word w t ≡ b → bit_at w t ≡ bit b
bit_of w t true e = in_is_one w t e
bit_of w t false e = out_is_zero w t e

-- a word is known by its bits
pub by_ext : (w : ℕ) (f : ℕ → Bool) → w < 2 ^ 64 → ((t : ℕ) → t < 64 → in_word w t ≡ f t) → w ≡ word_by f
by_ext w f h e = word_ext 64 w (word_by f) h (by_lt f) (λ t l. bit_of w t (f t) (e t l) ∙ sym (bit_of (word_by f) t (f t) (in_by f t l)))

pub by_same : (f g : ℕ → Bool) → ((t : ℕ) → t < 64 → f t ≡ g t) → word_by f ≡ word_by g
by_same f g e = by_ext (word_by f) g (by_lt f) (λ t h. in_by f t h ∙ e t h)

pub by_none : (f : ℕ → Bool) → ((t : ℕ) → t < 64 → f t ≡ false) → 0 ≡ word_by f
by_none f e = by_ext 0 f (pow_pos 64) (λ t h. zero_is_out 0 t (none_in t) ∙ sym (e t h))

-- the largest word has every place
pub all_in : (t : ℕ) → t < 64 → in_word 18446744073709551615 t ≡ true
all_in t h = one_is_in 18446744073709551615 t (not_at 64 0 t h (pow_pos 64) ∙ ap (λ (n : ℕ). 1 - n) (none_in t))

-- ---- one place put in or taken off
module _ (w k : ℕ) (h : w < 2 ^ 64) where
  abbrev pub put_at : Bool → ℕ → Bool
  put_at on t = if eqb t k then on else in_word w t

  other_place : (on : Bool) (t : ℕ) → (t ≡ k → ⊥) → in_word w t ≡ put_at on t
  other_place on t n = simp (ne_eqb t k n)

  -- nothing to do: k is beyond the word, or as it should be already
  pub put_beyond : (on : Bool) → 64 ≤ k → w ≡ word_by (put_at on)
  put_beyond on l = by_ext w (put_at on) h (λ t m. other_place on t (λ e. omega arith))

  pub put_off : in_word w k ≡ true → (2 ^ k ≤ w) × (w - 2 ^ k ≡ word_by (put_at false))
  put_off e = (off_room w k (in_is_one w k e), by_ext (w - 2 ^ k) (put_at false) (omega arith) (λ t m. go t (ℕ_discrete t k)))
    where
      go : (t : ℕ) → Dec (t ≡ k) → in_word (w - 2 ^ k) t ≡ put_at false t
      go t (yes q) =
          zero_is_out (w - 2 ^ k) t (subst⁻¹ (λ (x : ℕ). bit_at (w - 2 ^ k) x ≡ 0) q (off_same w k (in_is_one w k e)))
          ∙ sym (ap (λ (b : Bool). if b then false else in_word w t) (eq-eqb t k q))
      go t (no n) = ap (λ (x : ℕ). eqb x 1) (off_other w k t (in_is_one w k e) n) ∙ other_place false t n

-- the same as the code makes the bit, by a shift
shifted : (k : ℕ) → k < 64 → (1 * 2 ^ k) % 2 ^ 64 ≡ 2 ^ k
shifted k l = ap (λ (x : ℕ). x % 2 ^ 64) (one-mul (2 ^ k)) ∙ mod-eq_of_lt (pow-lt {i = k} {j = 64} l)

pub one_bit : (k : ℕ) → k < 64 → (t : ℕ) → in_word ((1 * 2 ^ k) % 2 ^ 64) t ≡ eqb t k
one_bit k l t = ap (λ (x : ℕ). in_word x t) (shifted k l ∙ z) ∙ go (ℕ_discrete t k)
  where
    z : 2 ^ k ≡ 0 + 2 ^ k
    z = omega arith

    go : Dec (t ≡ k) → in_word (0 + 2 ^ k) t ≡ eqb t k
    go (yes q) = ap (in_word (0 + 2 ^ k)) q ∙ one_is_in (0 + 2 ^ k) k (put_same 0 k (none_in k)) ∙ sym (eq-eqb t k q)
    go (no n) = ap (λ (x : ℕ). eqb x 1) (put_other 0 k t (none_in k) n) ∙ zero_is_out 0 t (none_in t) ∙ sym (ne_eqb t k n)

module _ (w k : ℕ) (on : Bool) (h : w < 2 ^ 64) (l : k < 64) where
  pub off_fits : in_word w k ≡ true → (1 * 2 ^ k) % 2 ^ 64 ≤ w
  off_fits e = subst⁻¹ (λ (x : ℕ). x ≤ w) (shifted k l) (put_off w k h e).0

  pub off_is : in_word w k ≡ true → on ≡ false → w - (1 * 2 ^ k) % 2 ^ 64 ≡ word_by (put_at w k h on)
  off_is e p = ap (λ (x : ℕ). w - x) (shifted k l) ∙ (put_off w k h e).1 ∙ ap (λ (b : Bool). word_by (put_at w k h b)) (sym p)

-- ---- what is in one word and not in another
pub without_is : (a b : ℕ) → a < 2 ^ 64 → b < 2 ^ 64
    → bit_and a ((2 ^ 64 - 1) - b) ≡ word_by (λ t. in_word a t && not (in_word b t))
without_is a b ha hb =
    by_ext (bit_and a ((2 ^ 64 - 1) - b)) (λ t. in_word a t && not (in_word b t)) (and_lt 64 a ((2 ^ 64 - 1) - b) ha (ones_sub-lt 64 b))
    (λ t l. go t l (in_word a t) (in_word b t) refl refl)
  where
    go : (t : ℕ) → t < 64 → (x y : Bool) → in_word a t ≡ x → in_word b t ≡ y
        → in_word (bit_and a ((2 ^ 64 - 1) - b)) t ≡ (in_word a t && not (in_word b t))
    go t l x y p q =
        ap (λ (n : ℕ). eqb n 1)
        (and_at a ((2 ^ 64 - 1) - b) t ∙ ap₂ (λ (m n : ℕ). m * n) (bit_of a t x p)
        (not_at 64 b t l hb ∙ ap (λ (n : ℕ). 1 - n) (bit_of b t y q)))
        ∙ table x y ∙ ap₂ (λ (m n : Bool). m && not n) (sym p) (sym q)
      where
        table : (x y : Bool) → eqb (bit x * (1 - bit y)) 1 ≡ (x && not y)
        table true true = refl
        table true false = refl
        table false true = refl
        table false false = refl

-- ---- a word made by a loop, one place after the other
module _ (q : ℕ → Bool) where
  pub upto_none : 0 ≡ word_by (up_to q 0)
  upto_none = by_none (up_to q 0) (λ t h. ap (λ (b : Bool). b && q t) (le-ltb t 0 (omega arith)))

  pub upto_more : (k w r : ℕ) (b : Bool) → w ≡ word_by (up_to q k) → b ≡ q k → r ≡ word_by (λ t. if eqb t k then b else in_word w t)
      → r ≡ word_by (up_to q (k + 1))
  upto_more k w r b e p d = d ∙ by_same (λ t. if eqb t k then b else in_word w t) (up_to q (k + 1)) (λ t l. go t l (ℕ_discrete t k))
    where
      later : (t : ℕ) → (t ≡ k → ⊥) → Dec (t < k) → (ltb t k && q t) ≡ (ltb t (k + 1) && q t)
      later t n (yes l) = ap (λ (x : Bool). x && q t) (lt-ltb t k l) ∙ ap (λ (x : Bool). x && q t) (sym (lt-ltb t (k + 1) (omega arith)))
      later t n (no l) =
          ap (λ (x : Bool). x && q t) (le-ltb t k (omega arith)) ∙ ap (λ (x : Bool). x && q t) (sym (le-ltb t (k + 1) (omega arith)))

      go : (t : ℕ) → t < 64 → Dec (t ≡ k) → (if eqb t k then b else in_word w t) ≡ up_to q (k + 1) t
      go t l (yes c) =
          ap (λ (x : Bool). if x then b else in_word w t) (eq-eqb t k c) ∙ p ∙ ap q (sym c)
          ∙ ap (λ (x : Bool). x && q t) (sym (lt-ltb t (k + 1) (omega arith)))
      go t l (no n) =
          ap (λ (x : Bool). if x then b else in_word w t) (ne_eqb t k n) ∙ ap (λ (x : ℕ). in_word x t) e ∙ in_by (up_to q k) t l
          ∙ later t n (dec_lt t k)

-- ---- what is in either of two words
pub join_is : (a b : ℕ) → a < 2 ^ 64 → b < 2 ^ 64 → bit_or a b ≡ word_by (λ t. in_word a t || in_word b t)
join_is a b ha hb =
    by_ext (bit_or a b) (λ t. in_word a t || in_word b t) (or_lt 64 a b ha hb) (λ t l. go t (in_word a t) (in_word b t) refl refl)
  where
    go : (t : ℕ) (x y : Bool) → in_word a t ≡ x → in_word b t ≡ y → in_word (bit_or a b) t ≡ (in_word a t || in_word b t)
    go t x y p q =
        ap (λ (n : ℕ). eqb n 1) (or_at a b t ∙ ap₂ (λ (m n : ℕ). max m n) (bit_of a t x p) (bit_of b t y q))
        ∙ table x y ∙ ap₂ (λ (m n : Bool). m || n) (sym p) (sym q)
      where
        table : (x y : Bool) → eqb (max (bit x) (bit y)) 1 ≡ (x || y)
        table true true = refl
        table true false = refl
        table false true = refl
        table false false = refl

-- ---- one place put in or taken off, as the code does it: its number joined to the word, or taken from it
module _ (w k : ℕ) (on : Bool) (h : w < 2 ^ 64) (l : k < 64) where
  bit_lt : (1 * 2 ^ k) % 2 ^ 64 < 2 ^ 64
  bit_lt = omega arith

  pub joined_is : on ≡ true → bit_or w ((1 * 2 ^ k) % 2 ^ 64) ≡ word_by (put_at w k h on)
  joined_is p =
      join_is w ((1 * 2 ^ k) % 2 ^ 64) h bit_lt
      ∙ by_same (λ t. in_word w t || in_word ((1 * 2 ^ k) % 2 ^ 64) t) (put_at w k h on)
      (λ t m. ap (λ (b : Bool). in_word w t || b) (one_bit k l t) ∙ table (in_word w t) (eqb t k)
      ∙ ap (λ (b : Bool). put_at w k h b t) (sym p))
    where
      table : (a b : Bool) → (a || b) ≡ (if b then true else a)
      table true true = refl
      table true false = refl
      table false true = refl
      table false false = refl

  pub taken_off_is : on ≡ false → bit_and w ((2 ^ 64 - 1) - (1 * 2 ^ k) % 2 ^ 64) ≡ word_by (put_at w k h on)
  taken_off_is p =
      without_is w ((1 * 2 ^ k) % 2 ^ 64) h bit_lt
      ∙ by_same (λ t. in_word w t && not (in_word ((1 * 2 ^ k) % 2 ^ 64) t)) (put_at w k h on)
      (λ t m. ap (λ (b : Bool). in_word w t && not b) (one_bit k l t) ∙ table (in_word w t) (eqb t k)
      ∙ ap (λ (b : Bool). put_at w k h b t) (sym p))
    where
      table : (a b : Bool) → (a && not b) ≡ (if b then false else a)
      table true true = refl
      table true false = refl
      table false true = refl
      table false false = refl
