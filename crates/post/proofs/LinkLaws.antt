-- Laws of a set of links that is gone through from its lowest link on: what its links are, and what a word's trailing zeros
-- say of them.
use Rattle.std.specs.Prelude.{if◌then◌else◌}
use Prim.Native.Nat.{ℕ, ◌+◌, ◌-◌, ◌*◌, ◌%◌, ◌^◌, ◌≤◌, ◌<◌}
use mathlib.Core.Bool.{Bool, true, false, not}
use mathlib.Core.Path.{◌≡◌, refl, sym, ap, ◌∙◌, subst}
use mathlib.Core.Logic.{⊎_elim}
use mathlib.Core.List.{List, [], ◌∷◌}
use native.Mathlib.Nat.{zero-add}
use native.Mathlib.Omega.{arith}
use lib.Dec.{T, eqb}
use lib.Count.{count_trailing_zeros}
use lib.Pow.{ones_sub-lt}
use borrow.Author.Tests.{eq-eqb, ne_eqb}
use Rattle.lists.specs.Lists.{keep, first_of, below}
use Rattle.lists.specs.Words.{in_word}
use Rattle.lists.proofs.Tests.{is_T}
use Rattle.lists.proofs.Numbers.{any_in, first_is, first_none}
use Rattle.lists.proofs.Words.{one_is_in, zero_is_out, not_at}
use Rattle.lists.proofs.Counts.{Run, run}
use Rattle.lists.proofs.First.{first_below}
use Rattle.lists.proofs.Heads.{fails_still, keep_head, keep_nothing}
use Rattle.sets.specs.Sets.{word_by}
use Rattle.sets.proofs.WordLaws.{in_by, by_ext, by_none, off_fits, off_is}
use Rattle.station.specs.Values.{members_of}
use Rattle.station.proofs.Sent.{keep_same}
use Rattle.post.specs.Links.{some_in, lowest_in, less_lowest}

-- ---- its links
members_made : (f : ℕ → Bool) → members_of (word_by f) ≡ keep f (below 64)
unfolding members_of
members_made f = keep_same (in_word (word_by f)) f 64 (λ t l. in_by f t l)

-- the lowest first, then those of the word without it
pub some_members : (w : ℕ) → some_in w ≡ true → members_of w ≡ lowest_in w ∷ members_of (less_lowest w)
unfolding some_in lowest_in less_lowest members_of
some_members w e =
    keep_head (in_word w) 0 64 e
    ∙ ap {B = List ℕ} (λ l. first_of (in_word w) (below 64) 0 ∷ l)
    (sym (members_made (λ t. if eqb t (first_of (in_word w) (below 64) 0) then false else in_word w t)))

pub no_members : (w : ℕ) → some_in w ≡ false → members_of w ≡ []
unfolding some_in members_of
no_members w e = keep_nothing (in_word w) (below 64) e

pub lowest_lt : (w : ℕ) → lowest_in w < 64
unfolding lowest_in
lowest_lt w = ⊎_elim (λ q. omega (arith, q.0)) (λ q. q.under) (first_below (in_word w) 64 0)

-- ---- what the code reads off a word
module _ (w : ℕ) (h : w < 2 ^ 64) where
  -- trailing zeros: the word lacks what is below them, and has what comes next
  zeros : Run 64 ((2 ^ 64 - 1) - w) (count_trailing_zeros 64 w)
  zeros =
      let back : (2 ^ 64 - 1) - ((2 ^ 64 - 1) - w) ≡ w = omega arith in
      subst (λ (x : ℕ). Run 64 ((2 ^ 64 - 1) - w) (count_trailing_zeros 64 x)) back (run 64 ((2 ^ 64 - 1) - w) (ones_sub-lt 64 w))

  lacks : (t : ℕ) → t < count_trailing_zeros 64 w → t < 64 → in_word w t ≡ false
  lacks t l m = zero_is_out w t (omega (arith, zeros.has t l, not_at 64 w t m h))

  has : count_trailing_zeros 64 w < 64 → in_word w (count_trailing_zeros 64 w) ≡ true
  has l = one_is_in w (count_trailing_zeros 64 w) (omega (arith, zeros.lacks l, not_at 64 w (count_trailing_zeros 64 w) l h))

  pub lowest_is : count_trailing_zeros 64 w < 64 → count_trailing_zeros 64 w ≡ lowest_in w
  unfolding lowest_in
  lowest_is l = sym (first_is (in_word w) 64 (count_trailing_zeros 64 w) 0 l (λ t m. lacks t m (omega arith)) (has l))

  pub lowest_none : 64 ≤ count_trailing_zeros 64 w → 0 ≡ lowest_in w
  unfolding lowest_in
  lowest_none l = sym (first_none (in_word w) 64 0 (λ t m. lacks t (omega arith) m))

  pub less_fits : count_trailing_zeros 64 w < 64 → (1 * 2 ^ count_trailing_zeros 64 w) % 2 ^ 64 ≤ w
  less_fits l = off_fits w (count_trailing_zeros 64 w) false h l (has l)

  pub less_is : count_trailing_zeros 64 w < 64 → w - (1 * 2 ^ count_trailing_zeros 64 w) % 2 ^ 64 ≡ less_lowest w
  unfolding less_lowest
  less_is l =
      off_is w (count_trailing_zeros 64 w) false h l (has l) refl
      ∙ ap (λ (z : ℕ). word_by (λ t. if eqb t z then false else in_word w t)) (lowest_is l)

  pub less_none : 64 ≤ count_trailing_zeros 64 w → w ≡ less_lowest w
  unfolding less_lowest
  less_none l =
      by_ext w (λ t. if eqb t (lowest_in w) then false else in_word w t) h
      (λ t m. lacks t (omega arith) m ∙ sym (fails_still (in_word w) (lowest_in w) t (lacks t (omega arith) m)))

none_in_it : (w : ℕ) → some_in w ≡ false → (t : ℕ) → t < 64 → in_word w t ≡ false
unfolding some_in
none_in_it w e t l = go (in_word w t) refl
  where
    go : (b : Bool) → in_word w t ≡ b → in_word w t ≡ false
    go true q = absurd (subst T e (any_in (in_word w) 64 0 t l (is_T (in_word w (0 + t)) (ap (in_word w) (zero-add t) ∙ q))))
    go false q = q

zero_none : some_in 0 ≡ false
unfolding some_in
zero_none = refl

-- only the zero word has no link
pub some_is : (w : ℕ) → w < 2 ^ 64 → not (eqb w 0) ≡ some_in w
some_is w h = go (some_in w) refl
  where
    go : (b : Bool) → some_in w ≡ b → not (eqb w 0) ≡ some_in w
    go true e = ap not (ne_eqb w 0 (λ q. never q)) ∙ sym e
      where
        never : w ≡ 0 → ⊥
        never q = subst T zero_none (is_T (some_in 0) (subst (λ (x : ℕ). some_in x ≡ true) q e))
    go false e =
        ap not (eq-eqb w 0 (by_ext w (in_word w) h (λ t l. refl) ∙ sym (by_none (in_word w) (none_in_it w e)))) ∙ sym e

-- the same for what the code's test was
pub some_seen : (w : ℕ) → w < 2 ^ 64 → (w ≡ 0 → ⊥) → some_in w ≡ true
some_seen w h n = sym (some_is w h) ∙ ap not (ne_eqb w 0 n)

pub none_seen : (w : ℕ) → w ≡ 0 → some_in w ≡ false
none_seen w e = ap some_in e ∙ zero_none
