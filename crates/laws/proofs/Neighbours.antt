-- A station has as many neighbours, counted as stations, as own links: in a network that keeps the sheet rules each own link joins it
-- to one station, and no two of them to the same. The pairs of a link and a station that it joins to s are counted by links and by
-- stations.
use Rattle.std.specs.Prelude.{if◌then◌else◌}
use Prim.Native.Nat.{ℕ, ◌+◌, ◌<◌}
use mathlib.Core.Bool.{Bool, true, false, ◌&&◌, ◌||◌}
use mathlib.Core.Path.{◌≡◌, refl, sym, ap, ◌∙◌, subst, subst⁻¹}
use mathlib.Core.Logic.{⊎_elim}
use mathlib.Core.List.{List, [], ◌∷◌}
use native.Mathlib.Omega.{arith}
use lib.Dec.{T, eqb, eqb→eq, eqb_refl}
use lib.ListN.{length}
use Rattle.lists.specs.Lists.{keep, any, sum_of, below}
use Rattle.lists.specs.Words.{bit}
use Rattle.lists.proofs.Tests.{T_is, and_l, and_r, and_i, or_cases, or_left, or_right, same_test}
use Rattle.lists.proofs.Numbers.{any_out, any_in}
use Rattle.lists.proofs.Sums.{sum_le}
use Rattle.lists.proofs.OneSum.{sum_none, sum_only}
use Rattle.net.specs.Network.{Network, ends, is_end, other, ties}
use Rattle.sheet_rules.specs.Rules.{sheet_holds}
use Rattle.sheet_rules.proofs.Ends.{ends_rise, other_real}
use Rattle.sheet_rules.proofs.Neighbours.{neighbours_differ}
use Rattle.station.proofs.Doing.{own}
use Rattle.laws.specs.Flood.{neighbours}

-- ---- counting by sums
module _ {A : Type 0} where
  kept_sum : (p : A → Bool) (xs : List A) → length (keep p xs) ≡ sum_of (λ x. bit (p x)) xs
  kept_sum p [] = refl
  kept_sum p (x ∷ xs) = go (p x) (kept_sum p xs)
    where
      go : (b : Bool) → length (keep p xs) ≡ sum_of (λ y. bit (p y)) xs
          → length (if b then (x ∷ keep p xs) else keep p xs) ≡ bit b + sum_of (λ y. bit (p y)) xs
      go true e = omega arith
      go false e = omega arith

  sum_nothing : (xs : List A) → sum_of (λ x. 0) xs ≡ 0
  sum_nothing [] = refl
  sum_nothing (x ∷ xs) = omega (arith, sum_nothing xs)

  sum_plus : (f g : A → ℕ) (xs : List A) → sum_of (λ x. f x + g x) xs ≡ sum_of f xs + sum_of g xs
  sum_plus f g [] = refl
  sum_plus f g (x ∷ xs) = omega (arith, sum_plus f g xs)

-- by rows and by columns
sum_swap : (f : ℕ → ℕ → ℕ) (xs ys : List ℕ) → sum_of (λ x. sum_of (f x) ys) xs ≡ sum_of (λ y. sum_of (λ x. f x y) xs) ys
sum_swap f [] ys = sym (sum_nothing ys)
sum_swap f (x ∷ xs) ys = ap (λ (n : ℕ). sum_of (f x) ys + n) (sum_swap f xs ys) ∙ sym (sum_plus (f x) (λ y. sum_of (λ x. f x y) xs) ys)

sum_alike : (f g : ℕ → ℕ) (n : ℕ) → ((j : ℕ) → j < n → f j ≡ g j) → sum_of f (below n) ≡ sum_of g (below n)
sum_alike f g n h = omega (arith, sum_le f g n (λ j p. omega (arith, h j p)), sum_le g f n (λ j p. omega (arith, h j p)))

no_bit : (b : Bool) → (T b → ⊥) → bit b ≡ 0
no_bit true h = absurd (h tt)
no_bit false h = refl

-- at most one of the numbers below n passes the test: their sum says whether one does
bit_sum : (p : ℕ → Bool) (n : ℕ) → ((i j : ℕ) → i < n → j < n → T (p i) → T (p j) → i ≡ j)
    → sum_of (λ j. bit (p j)) (below n) ≡ bit (any p (below n))
bit_sum p n one = go (any p (below n)) refl
  where
    go : (b : Bool) → any p (below n) ≡ b → sum_of (λ j. bit (p j)) (below n) ≡ bit b
    go true e =
        let a = any_out p n 0 (subst⁻¹ T e tt) in
        let l : a.0 < n = omega (arith, a.2) in
        sum_only (λ j. bit (p j)) n a.0 l (λ j h z. no_bit (p j) (λ t. z (one j a.0 h l t a.3))) ∙ ap bit (T_is (p a.0) a.3)
    go false e =
        sum_none (λ j. bit (p j)) n (λ j h. no_bit (p j) (λ t. subst T e (any_in p n 0 j h (subst⁻¹ (λ (x : ℕ). T (p x)) (omega arith) t))))

-- ---- the link k joins s to one station: to its other end
module _ (net : Network) (ok : T (sheet_holds net)) (s : ℕ) where
  record Joins (k t : ℕ) : Type 0 where
    own : T (is_end net k s)
    to : t ≡ other net k s

  ties_joins : (k t : ℕ) → k < length net.links → T (ties net k s t) → Joins k t
  ties_joins k t l c =
      ⊎_elim (λ u. first (eqb→eq lo s (and_l (eqb lo s) _ u)) (eqb→eq hi t (and_r (eqb lo s) _ u)))
      (λ u. second (eqb→eq lo t (and_l (eqb lo t) _ u)) (eqb→eq hi s (and_r (eqb lo t) _ u)))
      (or_cases (eqb lo s && eqb hi t) _ c)
    where
      lo : ℕ
      lo = (ends net k).low

      hi : ℕ
      hi = (ends net k).high

      first : lo ≡ s → hi ≡ t → Joins k t
      first a b =
          let q : T (eqb lo s) = subst (λ (x : ℕ). T (eqb lo x)) a (eqb_refl lo) in
          record { own = or_left (eqb lo s) _ q; to = sym b ∙ sym (ap (λ (c : Bool). if c then hi else lo) (T_is (eqb lo s) q)) }

      higher : lo < hi → hi ≡ s → lo ≡ s → ⊥
      higher x y z = omega arith

      second : lo ≡ t → hi ≡ s → Joins k t
      second a b = record { own = or_right (eqb lo s) _ (subst (λ (x : ℕ). T (eqb hi x)) b (eqb_refl hi)); to = by (eqb lo s) refl }
        where
          by : (c : Bool) → eqb lo s ≡ c → t ≡ (if c then hi else lo)
          by true e = absurd (higher (ends_rise net ok k l) b (eqb→eq lo s (subst⁻¹ T e tt)))
          by false e = sym a

  other_ties : (k : ℕ) → T (is_end net k s) → T (ties net k s (other net k s))
  other_ties k c = go (eqb (ends net k).low s) refl c
    where
      lo : ℕ
      lo = (ends net k).low

      hi : ℕ
      hi = (ends net k).high

      go : (b : Bool) → eqb lo s ≡ b → T (b || eqb hi s) → T (ties net k s (if b then hi else lo))
      go true e t = or_left (eqb lo s && eqb hi hi) _ (and_i (eqb lo s) _ (subst⁻¹ T e tt) (eqb_refl hi))
      go false e t = or_right (eqb lo s && eqb hi lo) _ (and_i (eqb lo lo) _ (eqb_refl lo) t)

  -- so an own link gives one pair, and any other none
  by_link : (k : ℕ) → k < length net.links → sum_of (λ t. bit (ties net k s t)) (below net.stations) ≡ bit (is_end net k s)
  by_link k l =
      bit_sum (ties net k s) net.stations (λ i j p q a b. (ties_joins k i l a).to ∙ sym (ties_joins k j l b).to)
      ∙ ap bit (same_test (any (ties net k s) (below net.stations)) (is_end net k s)
      (λ t. let a = any_out (ties net k s) net.stations 0 t in (ties_joins k a.0 l a.3).own)
      (λ t. any_in (ties net k s) net.stations 0 (other net k s) (other_real net ok k l s)
      (subst⁻¹ (λ (x : ℕ). T (ties net k s x)) (omega arith) (other_ties k t))))

  -- and a neighbour gives one pair, since no two links lead to the same
  by_station : (t : ℕ) → sum_of (λ k. bit (ties net k s t)) (below (length net.links)) ≡ bit
      (any (λ k. ties net k s t) (below (length net.links)))
  by_station t =
      bit_sum (λ k. ties net k s t) (length net.links) (λ i j p q a b.
      let x = ties_joins i t p a in
      let y = ties_joins j t q b in
      neighbours_differ net ok s i j p q x.own y.own (sym x.to ∙ y.to))

  -- AS MANY NEIGHBOURS AS OWN LINKS.
  pub neighbours_count : length (neighbours net s) ≡ length (own net s)
  neighbours_count =
      kept_sum (λ t. any (λ k. ties net k s t) (below (length net.links))) (below net.stations)
      ∙ sum_alike (λ t. bit (any (λ k. ties net k s t) (below (length net.links))))
      (λ t. sum_of (λ k. bit (ties net k s t)) (below (length net.links))) net.stations (λ t p. sym (by_station t))
      ∙ sym (sum_swap (λ k t. bit (ties net k s t)) (below (length net.links)) (below net.stations))
      ∙ sum_alike (λ k. sum_of (λ t. bit (ties net k s t)) (below net.stations)) (λ k. bit (is_end net k s)) (length net.links) by_link
      ∙ sym (kept_sum (λ k. is_end net k s) (below (length net.links)))
