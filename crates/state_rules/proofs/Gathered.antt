-- What is gathered of many numbers, with one more: the laws of the gatherers, over plain numbers.
use Prim.Native.Nat.{ℕ, zero, suc, ◌+◌, ◌*◌, ◌/◌, ◌%◌, ◌^◌, ◌≤◌, ◌<◌, max, min}
use mathlib.Core.Bool.{Bool, true, false, ◌&&◌}
use mathlib.Core.Path.{◌≡◌, refl, sym, ap, ap₂, ◌∙◌}
use mathlib.Core.List.{[], ◌∷◌}
use native.Mathlib.Decide.{dec_lt}
use native.Mathlib.Omega.{arith}
use lib.Bits.{bit_and, and_le_l, and_le_r, bit_or, or_add_and, or_lt, or_shr, or_mod}
use lib.Dec.{eqb, leb, ltb, eqb→eq, leb→le}
use borrow.Author.Tests.{eq-eqb, ne_eqb, lt-ltb, le-ltb, le-leb}
use Rattle.lists.specs.Lists.{every, below}
use Rattle.lists.specs.Words.{bit_at, in_word}
use Rattle.lists.proofs.Tests.{and_l, and_r, and_i, and_yes, is_T, eq→eqb, same_test, every_append}
use Rattle.lists.proofs.Numbers.{below_at, at_below, below_snoc}
use Rattle.lists.proofs.Words.{bit_zero, and_at}
use Rattle.net.specs.Sizes.{station_room, link_room}
use Rattle.state_rules.specs.Carried.{in_rooms}

-- ---- a test that holds so far, and of the next one
pub gather_more : (p : ℕ → Bool) (k : ℕ) (a b : Bool) → a ≡ every p (below k) → b ≡ (a && p k) → b ≡ every p (below (k + 1))
gather_more p k a b e d =
    d ∙ ap₂ (λ (x y : Bool). x && y) e (sym (and_yes (p k)))
    ∙ sym (ap (every p) (below_snoc k) ∙ every_append p (below k) (k ∷ []))

-- two such tests are one
pub gather_both : (p q : ℕ → Bool) (k : ℕ) → (every p (below k) && every q (below k)) ≡ every (λ t. p t && q t) (below k)
gather_both p q k =
    same_test (every p (below k) && every q (below k)) (every (λ t. p t && q t) (below k))
    (λ t. at_below (λ t. p t && q t) k (λ j h. and_i (p j) (q j) (below_at p k (and_l (every p (below k)) _ t) j h)
    (below_at q k (and_r (every p (below k)) _ t) j h)))
    (λ t. and_i (every p (below k)) _ (at_below p k (λ j h. and_l (p j) _ (below_at (λ t. p t && q t) k t j h)))
    (at_below q k (λ j h. and_r (p j) _ (below_at (λ t. p t && q t) k t j h))))

-- ---- two numbers joined
module _ (a b : ℕ) where
  or_left : a ≤ bit_or a b
  or_left = omega (arith, or_add_and a b, and_le_r a b)

  or_right : b ≤ bit_or a b
  or_right = omega (arith, or_add_and a b, and_le_l a b)

  pub or_zero : eqb (bit_or a b) 0 ≡ (eqb a 0 && eqb b 0)
  or_zero =
      same_test (eqb (bit_or a b) 0) (eqb a 0 && eqb b 0)
      (λ t. and_i (eqb a 0) _ (eq→eqb a 0 (omega (arith, or_left, eqb→eq (bit_or a b) 0 t)))
      (eq→eqb b 0 (omega (arith, or_right, eqb→eq (bit_or a b) 0 t))))
      (λ t. eq→eqb (bit_or a b) 0 (omega (arith, or_add_and a b, eqb→eq a 0 (and_l (eqb a 0) _ t), eqb→eq b 0 (and_r (eqb a 0) _ t))))

  pub or_one : leb (bit_or a b) 1 ≡ (leb a 1 && leb b 1)
  or_one =
      same_test (leb (bit_or a b) 1) (leb a 1 && leb b 1)
      (λ t. and_i (leb a 1) _ (is_T _ (le-leb a 1 (omega (arith, or_left, leb→le (bit_or a b) 1 t))))
      (is_T _ (le-leb b 1 (omega (arith, or_right, leb→le (bit_or a b) 1 t)))))
      (λ t. is_T _ (le-leb (bit_or a b) 1 (joined_few (leb→le a 1 (and_l (leb a 1) _ t)) (leb→le b 1 (and_r (leb a 1) _ t)))))
    where
      joined_few : a ≤ 1 → b ≤ 1 → bit_or a b ≤ 1
      joined_few h l = omega (arith, or_lt 1 a b (omega arith) (omega arith))

-- ---- links and senders
and_swap : (a b c d : Bool) → ((a && b) && (c && d)) ≡ ((a && c) && (b && d))
and_swap true b true d = refl
and_swap true true false d = refl
and_swap true false false d = refl
and_swap false b c d = refl

way_link : (l s : ℕ) → l < 65536 → eqb ((l + s * 65536) / 64 % 1024) 0 ≡ ltb l link_room
way_link l s h = go (dec_lt l 64)
  where
    go : Dec (l < 64) → eqb ((l + s * 65536) / 64 % 1024) 0 ≡ ltb l link_room
    go (yes p) = eq-eqb ((l + s * 65536) / 64 % 1024) 0 (omega arith) ∙ sym (lt-ltb l 64 p)
    go (no p) = ne_eqb ((l + s * 65536) / 64 % 1024) 0 (λ e. p (omega arith)) ∙ sym (le-ltb l 64 (omega arith))

way_sender : (l s : ℕ) → l < 65536 → eqb ((l + s * 65536) / 2097152) 0 ≡ ltb s station_room
way_sender l s h = go (dec_lt s 32)
  where
    go : Dec (s < 32) → eqb ((l + s * 65536) / 2097152) 0 ≡ ltb s station_room
    go (yes p) = eq-eqb ((l + s * 65536) / 2097152) 0 (omega arith) ∙ sym (lt-ltb s 32 p)
    go (no p) = ne_eqb ((l + s * 65536) / 2097152) 0 (λ e. p (omega arith)) ∙ sym (le-ltb s 32 (omega arith))

pub ways_more : (w l s : ℕ) → l < 65536 → in_rooms (bit_or w (l + s * 65536)) ≡ (in_rooms w && (ltb l link_room && ltb s station_room))
ways_more w l s h =
    ap₂ (λ (x y : Bool). x && y)
    (ap (λ (n : ℕ). eqb n 0) (ap (λ (n : ℕ). n % 1024) (or_shr w x 6) ∙ or_mod (w / 64) (x / 64) 10)
    ∙ or_zero (w / 64 % 1024) (x / 64 % 1024) ∙ ap (λ (b : Bool). eqb (w / 64 % 1024) 0 && b) (way_link l s h))
    (ap (λ (n : ℕ). eqb n 0) (or_shr w x 21) ∙ or_zero (w / 2097152) (x / 2097152)
    ∙ ap (λ (b : Bool). eqb (w / 2097152) 0 && b) (way_sender l s h))
    ∙ and_swap (eqb (w / 64 % 1024) 0) (ltb l link_room) (eqb (w / 2097152) 0) (ltb s station_room)
  where
    x : ℕ
    x = l + s * 65536

-- ---- bit 0 of two words
ones : (x y : ℕ) → x < 2 → y < 2 → eqb (x * y) 1 ≡ (eqb x 1 && eqb y 1)
ones zero zero h l = refl
ones zero (suc zero) h l = refl
ones zero (suc (suc y)) h l = absurd (omega arith)
ones (suc zero) zero h l = refl
ones (suc zero) (suc zero) h l = refl
ones (suc zero) (suc (suc y)) h l = absurd (omega arith)
ones (suc (suc x)) y h l = absurd (omega arith)

pub ended_more : (e own k : ℕ) → in_word (bit_and e (own / 2 ^ k)) 0 ≡ (in_word e 0 && in_word own k)
ended_more e own k =
    ap (λ (n : ℕ). eqb n 1) (and_at e (own / 2 ^ k) 0)
    ∙ ones (bit_at e 0) (bit_at (own / 2 ^ k) 0) (omega arith) (omega arith)
    ∙ ap (λ (n : ℕ). in_word e 0 && eqb n 1) (bit_zero (own / 2 ^ k))

-- ---- the most and the least
pub most_more : (a b n : ℕ) → leb (max a b) n ≡ (leb a n && leb b n)
most_more a b n =
    same_test (leb (max a b) n) (leb a n && leb b n)
    (λ t. and_i (leb a n) _ (is_T _ (le-leb a n (omega (arith, leb→le (max a b) n t))))
    (is_T _ (le-leb b n (omega (arith, leb→le (max a b) n t)))))
    (λ t. is_T _ (le-leb (max a b) n (omega (arith, leb→le a n (and_l (leb a n) _ t), leb→le b n (and_r (leb a n) _ t)))))

pub least_more : (a b n : ℕ) → leb n (min a b) ≡ (leb n a && leb n b)
least_more a b n =
    same_test (leb n (min a b)) (leb n a && leb n b)
    (λ t. and_i (leb n a) _ (is_T _ (le-leb n a (omega (arith, leb→le n (min a b) t))))
    (is_T _ (le-leb n b (omega (arith, leb→le n (min a b) t)))))
    (λ t. is_T _ (le-leb n (min a b) (omega (arith, leb→le n a (and_l (leb n a) _ t), leb→le n b (and_r (leb n a) _ t)))))
