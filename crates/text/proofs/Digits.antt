-- Laws of numbers in decimal: their text reads back to the number, is made of digits, has no leading zero, and is as long as the powers
-- of ten say.
use Prim.Native.Nat.{ℕ, zero, suc, ◌+◌, ◌-◌, ◌*◌, ◌/◌, ◌%◌, ◌^◌, ◌≤◌, ◌<◌}
use mathlib.Core.Bool.{true}
use mathlib.Core.Path.{◌≡◌, refl, sym, ap, ◌∙◌, subst}
use mathlib.Core.List.{List, [], ◌∷◌, ◌++◌, map}
use native.Mathlib.Nat.{pow-suc, one-le-pow, le_refl}
use native.Mathlib.Decide.{dec_lt}
use native.Mathlib.Omega.{arith}
use lib.ListN.{length, get_or, length-append}
use borrow.Author.Tests.{lt-ltb, le-ltb, le-leb}
use Rattle.lists.specs.Lists.{every, below}
use Rattle.lists.proofs.Tests.{every_append}
use Rattle.text.specs.Text.{digits_in, digits, is_digit, value_from, hex_digit}

-- ---- the recursion's bound does not matter
one_digit : (room n : ℕ) → n < 10 → digits_in (suc room) n ≡ (48 + n) ∷ []
unfolding digits_in
one_digit room n h = simp (lt-ltb n 10 h)

more_digits : (room n : ℕ) → 10 ≤ n → digits_in (suc room) n ≡ digits_in room (n / 10) ++ ((48 + n % 10) ∷ [])
unfolding digits_in
more_digits room n h = simp (le-ltb n 10 h)

no_room : (n : ℕ) → digits_in zero n ≡ (48 + n) ∷ []
unfolding digits_in
no_room n = refl

enough : (a b n : ℕ) → n ≤ a → n ≤ b → digits_in a n ≡ digits_in b n
enough zero zero n h l = refl
enough zero (suc b) n h l = no_room n ∙ sym (one_digit b n (omega arith))
enough (suc a) zero n h l = one_digit a n (omega arith) ∙ sym (no_room n)
enough (suc a) (suc b) n h l = go (dec_lt n 10) (λ i. enough a b (n / 10) (omega arith) (omega arith))
  where
    go : Dec (n < 10) → (10 ≤ n → digits_in a (n / 10) ≡ digits_in b (n / 10)) → digits_in (suc a) n ≡ digits_in (suc b) n
    go (yes i) e = one_digit a n i ∙ sym (one_digit b n i)
    go (no i) e =
        let j : 10 ≤ n = omega arith in
        more_digits a n j ∙ ap (λ (l : List ℕ). l ++ ((48 + n % 10) ∷ [])) (e j) ∙ sym (more_digits b n j)

-- ---- one digit, and one more
pub digits_one : (n : ℕ) → n < 10 → digits n ≡ (48 + n) ∷ []
unfolding digits
digits_one n h = enough n (suc n) n (le_refl n) (omega arith) ∙ one_digit n n h

pub digits_more : (n : ℕ) → 10 ≤ n → digits n ≡ digits (n / 10) ++ ((48 + n % 10) ∷ [])
unfolding digits
digits_more n h =
    enough n (suc n) n (le_refl n) (omega arith) ∙ more_digits n n h
    ∙ ap (λ (l : List ℕ). l ++ ((48 + n % 10) ∷ [])) (enough n (n / 10) (n / 10) (omega arith) (le_refl (n / 10)))

-- what holds of one digit, and of one more, holds of every number's digits
by_digits : (P : ℕ → List ℕ → Type 0) → ((n : ℕ) → n < 10 → P n ((48 + n) ∷ []))
    → ((n : ℕ) (text : List ℕ) → 10 ≤ n → P (n / 10) text → P n (text ++ ((48 + n % 10) ∷ []))) → (n : ℕ) → P n (digits n)
by_digits P one more n = go n n (le_refl n)
  where
    go : (room n : ℕ) → n ≤ room → P n (digits n)
    go zero n h = subst (P n) (sym (digits_one n (omega arith))) (one n (omega arith))
    go (suc room) n h = turn (dec_lt n 10) (λ i. go room (n / 10) (omega arith))
      where
        turn : Dec (n < 10) → (10 ≤ n → P (n / 10) (digits (n / 10))) → P n (digits n)
        turn (yes i) e = subst (P n) (sym (digits_one n i)) (one n i)
        turn (no i) e = let j : 10 ≤ n = omega arith in subst (P n) (sym (digits_more n j)) (more n (digits (n / 10)) j (e j))

-- ---- the laws
value_append : (xs : List ℕ) (b v : ℕ) → value_from v (xs ++ (b ∷ [])) ≡ value_from v xs * 10 + (b - 48)
value_append [] b v = refl
value_append (x ∷ xs) b v = value_append xs b (v * 10 + (x - 48))

-- the text reads back to the number
pub reads_back : (n : ℕ) → value_from 0 (digits n) ≡ n
reads_back =
    by_digits (λ n text. value_from 0 text ≡ n) (λ n h. omega arith)
    (λ n text h e. value_append text (48 + n % 10) 0 ∙ omega arith)

-- it is made of digits
pub all_digits : (n : ℕ) → every is_digit (digits n) ≡ true
all_digits =
    by_digits (λ n text. every is_digit text ≡ true)
    (λ n h. simp (le-leb 48 (48 + n) (omega arith), le-leb (48 + n) 57 (omega arith)))
    (λ n text h e. every_append is_digit text ((48 + n % 10) ∷ [])
    ∙ simp (e, le-leb 48 (48 + n % 10) (omega arith), le-leb (48 + n % 10) 57 (omega arith)))

-- 0 is "0", and no other number begins with a 0
pub zero_text : digits 0 ≡ 48 ∷ []
zero_text = digits_one 0 (omega arith)

lead : (text : List ℕ) (b : ℕ) → 48 < get_or text 0 0 → 48 < get_or (text ++ (b ∷ [])) 0 0
lead [] b h = absurd (omega arith)
lead (x ∷ text) b h = h

pub no_leading_zero : (n : ℕ) → 0 < n → 48 < get_or (digits n) 0 0
no_leading_zero =
    by_digits (λ n text. (0 < n → 48 < get_or text 0 0)) (λ n h l. omega arith)
    (λ n text h f l. lead text (48 + n % 10) (f (omega arith)))

-- a number below a power of ten has no more digits than that power has zeros
pub digits_at_most : (k n : ℕ) → n < 10 ^ suc k → length (digits n) ≤ suc k
digits_at_most zero n h = rw (digits_one n (omega arith)) (omega arith)
digits_at_most (suc k) n h = go (dec_lt n 10) (λ l. digits_at_most k (n / 10) l)
  where
    go : Dec (n < 10) → (n / 10 < 10 ^ suc k → length (digits (n / 10)) ≤ suc k) → length (digits n) ≤ suc (suc k)
    go (yes i) f = rw (digits_one n i) (omega arith)
    go (no i) f =
        let grows : 10 ^ suc (suc k) ≡ 10 ^ suc k * 10 = pow-suc 10 (suc k) in
        let shorter : length (digits (n / 10)) ≤ suc k = f (omega arith) in
        rw (digits_more n (omega arith), length-append) (omega arith)

-- and one that is at least that power has more
pub digits_some : (n : ℕ) → 1 ≤ length (digits n)
digits_some =
    by_digits (λ n text. 1 ≤ length text) (λ n h. omega arith)
    (λ n text h e. omega (arith, length-append text ((48 + n % 10) ∷ [])))

pub digits_at_least : (k n : ℕ) → 10 ^ k ≤ n → k < length (digits n)
digits_at_least zero n h = omega (arith, digits_some n)
digits_at_least (suc k) n h =
    let grows : 10 ^ suc k ≡ 10 ^ k * 10 = pow-suc 10 k in
    let one : 1 ≤ 10 ^ k = one-le-pow k 10 (omega arith) in
    let shorter : k < length (digits (n / 10)) = digits_at_least k (n / 10) (omega arith) in
    rw (digits_more n (omega arith), length-append) (omega arith)

-- the sixteen hexadecimal digits, in order
pub hex_table : map hex_digit (below 16) ≡ 48 ∷ 49 ∷ 50 ∷ 51 ∷ 52 ∷ 53 ∷ 54 ∷ 55 ∷ 56 ∷ 57 ∷ 65 ∷ 66 ∷ 67 ∷ 68 ∷ 69 ∷ 70 ∷ []
hex_table = refl
