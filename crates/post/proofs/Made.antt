-- What each case of the code answers: the first letter, and what is left after it.
use Prim.Native.Nat.{ℕ, ◌^◌, ◌<◌}
use mathlib.Core.Bool.{Bool, true, false}
use mathlib.Core.Path.{◌≡◌, refl, sym, ap, ap₂, ◌∙◌}
use Rattle.net.specs.declared.Body.TheVariants.{Request, Reply, Notice}
use Rattle.station.specs.Done.{letter}
use Rattle.post.specs.declared.Post.{Post}
use Rattle.post.specs.Links.{some_in, lowest_in, less_lowest}
use Rattle.post.specs.Post.{tells, first_by, first_left, changed_post, rest_by, rest_left}
use Rattle.post.proofs.LinkLaws.{some_seen, none_seen}

-- ---- the first letter
module _ (s c : ℕ) (p : Post) where
  first_by_lem : (a t : Bool) → some_in p.requests ≡ a → tells p ≡ t → first_by a t s c p ≡ first_left s c p
  unfolding first_left
  first_by_lem a t ea et = ap₂ (λ (x y : Bool). first_by x y s c p) (sym ea) (sym et)

  pub first_asks : (request : ℕ) → p.requests < 2 ^ 64 → (p.requests ≡ 0 → ⊥) → request ≡ lowest_in p.requests
      → letter s request Request ≡ first_left s c p
  first_asks request h n e =
      ap (λ (x : ℕ). letter s x Request) e ∙ first_by_lem true (tells p) (some_seen p.requests h n) refl

  pub first_tells : (r : Bool) (way subject : ℕ) → p.requests ≡ 0 → r ≡ tells p → r ≡ true
      → way ≡ lowest_in p.left → subject ≡ lowest_in p.subjects → letter s way (Notice subject c) ≡ first_left s c p
  first_tells r way subject z er et ew ej =
      ap₂ (λ (x y : ℕ). letter s x (Notice y c)) ew ej ∙ first_by_lem false true (none_seen p.requests z) (sym er ∙ et)

  pub first_replies : (r : Bool) → p.requests ≡ 0 → r ≡ tells p → r ≡ false → letter s p.link (Reply p.reply) ≡ first_left s c p
  first_replies r z er et = first_by_lem false false (none_seen p.requests z) (sym er ∙ et)

-- ---- what is left after it
module _ (p : Post) where
  rest_by_lem : (a t m : Bool) → some_in p.requests ≡ a → tells p ≡ t → some_in (less_lowest p.left) ≡ m → rest_by a t m p ≡ rest_left p
  unfolding rest_left
  rest_by_lem a t m ea et em = λ i. rest_by (sym ea i) (sym et i) (sym em i) p

  pub rest_asks : (less : ℕ) → p.requests < 2 ^ 64 → (p.requests ≡ 0 → ⊥) → less ≡ less_lowest p.requests
      → changed_post p less p.subjects p.left p.replies ≡ rest_left p
  rest_asks less h n e =
      ap (λ (x : ℕ). changed_post p x p.subjects p.left p.replies) e
      ∙ rest_by_lem true (tells p) (some_in (less_lowest p.left)) (some_seen p.requests h n) refl refl

  pub rest_tells : (r : Bool) (less : ℕ) → p.requests ≡ 0 → r ≡ tells p → r ≡ true
      → less < 2 ^ 64 → less ≡ less_lowest p.left → (less ≡ 0 → ⊥)
      → changed_post p p.requests p.subjects less p.replies ≡ rest_left p
  rest_tells r less z er et h e n =
      ap (λ (x : ℕ). changed_post p p.requests p.subjects x p.replies) e
      ∙ rest_by_lem false true true (none_seen p.requests z) (sym er ∙ et) (ap some_in (sym e) ∙ some_seen less h n)

  pub rest_tells_last : (r : Bool) (less later : ℕ) → p.requests ≡ 0 → r ≡ tells p → r ≡ true
      → less ≡ less_lowest p.left → less ≡ 0 → later ≡ less_lowest p.subjects
      → changed_post p p.requests later p.ways p.replies ≡ rest_left p
  rest_tells_last r less later z er et e n l =
      ap (λ (x : ℕ). changed_post p p.requests x p.ways p.replies) l
      ∙ rest_by_lem false true false (none_seen p.requests z) (sym er ∙ et) (ap some_in (sym e) ∙ none_seen less n)

  pub rest_replies : (r : Bool) → p.requests ≡ 0 → r ≡ tells p → r ≡ false
      → changed_post p p.requests p.subjects p.left false ≡ rest_left p
  rest_replies r z er et =
      rest_by_lem false false (some_in (less_lowest p.left)) (none_seen p.requests z) (sym er ∙ et) refl
