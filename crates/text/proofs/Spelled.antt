-- A number's digits: counted by powers of ten, and put straight to their places, the last one first.
use Prim.Native.Nat.{ℕ, zero, suc, ◌+◌, ◌-◌, ◌*◌, ◌/◌, ◌%◌, ◌^◌, ◌≤◌, ◌<◌}
use mathlib.Core.Path.{◌≡◌, refl, sym, ap, ap₂, ◌∙◌}
use mathlib.Core.List.{List, [], ◌∷◌, ◌++◌, append_assoc}
use native.Mathlib.Nat.{pow-suc, pow-le-pow_right}
use native.Mathlib.Numerals.{add-one}
use native.Mathlib.Omega.{arith}
use lib.ListN.{length, drop, set, length-set, length-append}
use lib.Seq.{drop-cons, get_or-set_same, drop-set-lt, take-set-le}
use Rattle.text.specs.Text.{digits, put_at, place_after}
use Rattle.text.proofs.Digits.{digits_one, digits_more, digits_some, digits_at_most, digits_at_least}
use Rattle.text.proofs.Puts.{place_fits, put_fits, same_text}
use Rattle.text.proofs.Chains.{stored}

-- ---- how many there are: n has `count` at least, and `top` is the lowest number of so many
pub record Counted (n top count : ℕ) : Type 0 where
  pub power : 10 * top ≡ 10 ^ count
  pub first : 1 ≤ count
  pub some : count ≤ length (digits n)

pub counted_none : (n : ℕ) → Counted n 1 1
counted_none n = record { power = refl; first = omega arith; some = digits_some n }

at_most : (k n : ℕ) → 1 ≤ k → n < 10 ^ k → length (digits n) ≤ k
at_most zero n h l = absurd (omega arith)
at_most (suc k) n h l = digits_at_most k n l

module _ (n top count : ℕ) (s : Counted n top count) where
  -- the next power is still a 64-bit number
  pub counted_fits : count < 20 → top * 10 < 2 ^ 64
  counted_fits h =
      let early : count ≤ 19 = omega arith in
      let less : 10 ^ count ≤ 10 ^ 19 = pow-le-pow_right {n = 10} (omega arith) early in
      omega (arith, s.power)

  pub counted_all : n < top * 10 → count ≡ length (digits n)
  counted_all h = omega (arith, s.some, at_most count n s.first (omega (arith, s.power)))

  pub counted_more : top * 10 ≤ n → Counted n (top * 10) (count + 1)
  counted_more h =
      let grows : 10 ^ (count + 1) ≡ 10 ^ count * 10 = ap (λ (k : ℕ). 10 ^ k) (add-one count) ∙ pow-suc 10 count in
      record {
        power = omega (arith, s.power);
        first = omega arith;
        some = omega (arith, digits_at_least count n (omega (arith, s.power)));
      }

  -- no 64-bit number has more than 20
  pub counted_last : 20 ≤ count → n < 2 ^ 64 → 20 ≡ length (digits n)
  counted_last h l = omega (arith, s.some, digits_at_most 19 n (omega arith))

-- ---- the last one first
-- a text's last number stored, and the others put
put_last : (xs : List ℕ) (d at : ℕ) (out : List ℕ) → at + length xs < length out
    → put_at xs at (set out (at + length xs) d) ≡ put_at (xs ++ (d ∷ [])) at out
put_last xs d at out h =
    let k = at + length xs in
    let longer : length (xs ++ (d ∷ [])) ≡ length xs + 1 = length-append xs (d ∷ []) in
    let next : suc k ≡ at + length (xs ++ (d ∷ [])) = omega (arith, longer) in
    let behind : drop k (set out k d) ≡ d ∷ drop (at + length (xs ++ (d ∷ []))) out =
    drop-cons (set out k d) k 0 (omega (arith, length-set out k d))
    ∙ ap₂ {C = List ℕ} (λ x l. x ∷ l) (get_or-set_same out k d 0 h)
    (drop-set-lt (suc k) out k d (omega arith) ∙ ap (λ (j : ℕ). drop j out) next) in
    put_fits xs at (set out k d) (omega (arith, length-set out k d))
    ∙ ap₂ (λ (x y : List ℕ). (x ++ xs) ++ y) (take-set-le at out k d (omega arith)) behind
    ∙ simp append_assoc (sym (put_fits (xs ++ (d ∷ [])) at out (omega (arith, longer)) ∙ simp append_assoc))

-- m is still to be put, its last digit at i; behind it stand the others of n
pub record Putting (n at : ℕ) (old : List ℕ) (m i : ℕ) (out : List ℕ) : Type 0 where
  pub place : i + 1 ≡ at + length (digits m)
  pub within : i < length old
  pub size : length out ≡ length old
  pub text : put_at (digits m) at out ≡ put_at (digits n) at old

pub putting_none : (n at count : ℕ) (old : List ℕ) → count ≡ length (digits n) → at + count ≤ length old
    → Putting n at old n (at + count - 1) old
putting_none n at count old e h =
    record {
      place = omega (arith, digits_some n);
      within = omega (arith, digits_some n);
      size = refl;
      text = refl;
    }

module _ (n at : ℕ) (old : List ℕ) (m i : ℕ) (out : List ℕ) (s : Putting n at old m i out) where
  shorter : 10 ≤ m → length (digits m) ≡ length (digits (m / 10)) + 1
  shorter h = ap length (digits_more m h) ∙ length-append (digits (m / 10)) ((48 + m % 10) ∷ [])

  -- the first digit's place is one of the output's
  pub at_digit : at < length out
  at_digit = omega (arith, s.place, s.within, s.size, digits_some m)

  -- a number of two digits needs a place before this one
  pub not_first : 10 ≤ m → 1 ≤ i
  not_first h = omega (arith, s.place, shorter h, digits_some (m / 10))

  pub putting_more : 10 ≤ m → Putting n at old (m / 10) (i - 1) (set out i (48 + m % 10))
  putting_more h =
      let here : i ≡ at + length (digits (m / 10)) = omega (arith, s.place, shorter h) in
      record {
        place = omega (arith, not_first h);
        within = omega (arith, s.within);
        size = length-set out i (48 + m % 10) ∙ s.size;
        text =
            ap (λ (k : ℕ). put_at (digits (m / 10)) at (set out k (48 + m % 10))) here
            ∙ put_last (digits (m / 10)) (48 + m % 10) at out (omega (arith, s.within, s.size))
            ∙ ap (λ (l : List ℕ). put_at l at out) (sym (digits_more m h)) ∙ s.text;
      }

  pub putting_all : (count : ℕ) → count ≡ length (digits n) → at + count ≤ length old → m < 10
      → (at + count ≡ place_after (digits n) at old) × (set out at (48 + m) ≡ put_at (digits n) at old)
  putting_all count e f h =
      let one : length (digits m) ≡ 1 = ap length (digits_one m h) in (
        omega (arith, place_fits (digits n) at old (omega arith)),
        (stored out at (at + 1) (48 + m) (omega (arith, s.place, s.within, s.size)) refl).1
            ∙ ap (λ (l : List ℕ). put_at l at out) (sym (digits_one m h)) ∙ s.text,
      )

-- one digit alone
pub number_one : (n at : ℕ) (old : List ℕ) → n < 10 → at < length old
    → (at + 1 ≡ place_after (digits n) at old) × (set old at (48 + n) ≡ put_at (digits n) at old)
number_one n at old h l =
    same_text ((48 + n) ∷ []) (digits n) at old (at + 1) (set old at (48 + n)) (sym (digits_one n h))
    (stored old at (at + 1) (48 + n) l refl)
