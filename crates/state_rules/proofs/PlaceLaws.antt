-- Laws of a test of all 64 places at once, and of words that are compared: a comparison is a test of each place.
use Prim.Native.Nat.{ℕ, ◌^◌, ◌<◌}
use mathlib.Core.Bool.{Bool, true, false, not, ◌&&◌}
use mathlib.Core.Path.{◌≡◌, refl, sym, ap, ◌∙◌, subst, subst⁻¹}
use lib.Dec.{T, eqb, eqb→eq}
use lib.Pow.{pow_pos}
use Rattle.lists.specs.Words.{in_word}
use Rattle.lists.proofs.Tests.{and_l, and_r, and_i, eq→eqb, same_test}
use Rattle.lists.proofs.Numbers.{below_at, at_below}
use Rattle.lists.proofs.Words.{zero_is_out, none_in}
use Rattle.sets.specs.Sets.{word_by}
use Rattle.sets.proofs.WordLaws.{in_by, by_ext}
use Rattle.net.specs.Sizes.{link_room}
use Rattle.state_rules.specs.Steps.{every_place}

pub place_at : (p : ℕ → Bool) → T (every_place p) → (k : ℕ) → k < link_room → T (p k)
unfolding every_place
place_at p t k h = below_at p link_room t k h

pub at_place : (p : ℕ → Bool) → ((k : ℕ) → k < link_room → T (p k)) → T (every_place p)
unfolding every_place
at_place p f = at_below p link_room f

pub places_same : (p q : ℕ → Bool) → ((k : ℕ) → k < link_room → p k ≡ q k) → every_place p ≡ every_place q
places_same p q e =
    same_test (every_place p) (every_place q) (λ t. at_place q (λ k h. subst T (e k h) (place_at p t k h)))
    (λ t. at_place p (λ k h. subst⁻¹ T (e k h) (place_at q t k h)))

pub places_both : (p q : ℕ → Bool) → (every_place p && every_place q) ≡ every_place (λ k. p k && q k)
places_both p q =
    same_test (every_place p && every_place q) (every_place (λ k. p k && q k))
    (λ t. at_place (λ k. p k && q k) (λ k h. and_i (p k) (q k) (place_at p (and_l (every_place p) _ t) k h)
    (place_at q (and_r (every_place p) _ t) k h)))
    (λ t. and_i (every_place p) _ (at_place p (λ k h. and_l (p k) _ (place_at (λ k. p k && q k) t k h)))
    (at_place q (λ k h. and_r (p k) _ (place_at (λ k. p k && q k) t k h))))

-- ---- words
abbrev pub same : Bool → Bool → Bool
same true b = b
same false b = not b

same_is : (a b : Bool) → T (same a b) → a ≡ b
same_is true true t = refl
same_is true false t = absurd t
same_is false true t = absurd t
same_is false false t = refl

is_same : (a b : Bool) → a ≡ b → T (same a b)
is_same true b e = subst T e tt
is_same false b e = subst (λ (x : Bool). T (not x)) e tt

same_none : (a : Bool) → same a false ≡ not a
same_none true = refl
same_none false = refl

-- what is in a word that a test made
pub in_of : (w : ℕ) (f : ℕ → Bool) → w ≡ word_by f → (t : ℕ) → t < link_room → in_word w t ≡ f t
in_of w f e t h = ap (λ (x : ℕ). in_word x t) e ∙ in_by f t h

pub word_places : (w a : ℕ) (f : ℕ → Bool) → w ≡ word_by f → a < 2 ^ 64 → eqb w a ≡ every_place (λ t. same (f t) (in_word a t))
word_places w a f e l =
    same_test (eqb w a) (every_place (λ t. same (f t) (in_word a t)))
    (λ u. at_place (λ t. same (f t) (in_word a t)) (λ t h. is_same (f t) (in_word a t)
    (sym (in_of w f e t h) ∙ ap (λ (x : ℕ). in_word x t) (eqb→eq w a u))))
    (λ u. eq→eqb w a (e ∙ sym (by_ext a f l (λ t h. sym (same_is (f t) (in_word a t) (place_at (λ t. same (f t) (in_word a t)) u t h))))))

pub none_places : (w : ℕ) (f : ℕ → Bool) → w ≡ word_by f → eqb w 0 ≡ every_place (λ t. not (f t))
none_places w f e =
    word_places w 0 f e (pow_pos 64)
    ∙ places_same (λ t. same (f t) (in_word 0 t)) (λ t. not (f t)) (λ t h. ap (same (f t)) (zero_is_out 0 t (none_in t)) ∙ same_none (f t))

pub equal_places : (a b : ℕ) → a < 2 ^ 64 → b < 2 ^ 64 → eqb a b ≡ every_place (λ t. same (in_word a t) (in_word b t))
equal_places a b l m = word_places a b (in_word a) (by_ext a (in_word a) l (λ t h. refl)) m
