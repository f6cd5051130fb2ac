-- The marks after event 3, as the code makes them of whole words.
use Rattle.std.specs.Prelude.{if◌then◌else◌}
use Prim.Native.Nat.{ℕ, ◌^◌, ◌<◌}
use mathlib.Core.Bool.{Bool, true, false, not, ◌&&◌, ◌||◌}
use mathlib.Core.Path.{◌≡◌, refl, ap, ap₂, ◌∙◌}
use Rattle.lists.specs.Words.{in_word}
use Rattle.sets.specs.Sets.{word_by}
use Rattle.sets.proofs.WordLaws.{by_ext, by_same, in_by}
use Rattle.marks.specs.declared.Marks.{Marks}
use Rattle.marks.specs.declared.Words.{Words}
use Rattle.marks.specs.Marks.{marks_at}
use Rattle.station.specs.Acts.{all_own, interval_marks, interval_tests, recovery_act}
use Rattle.station_plan.specs.Plans.{links_word, marks_by}

tests_bit : (o k u : Bool) → (o && not (((o && not k)) && not u)) ≡ (o && (k || u))
tests_bit true true u = refl
tests_bit true false true = refl
tests_bit true false false = refl
tests_bit false k u = refl

pub tests_are : (own : ℕ) (w : Words) (a n r : ℕ) → a ≡ word_by (λ t. in_word own t && not (in_word w.token t))
    → n ≡ word_by (λ t. in_word a t && not (in_word w.turn t))
    → r ≡ word_by (λ t. in_word own t && not (in_word n t)) → r ≡ links_word own w (all_own interval_tests)
tests_are own w a n r ea en er =
    er ∙ by_same (λ t. in_word own t && not (in_word n t)) (λ t. in_word own t && interval_tests (marks_at w t))
    (λ t h. ap (λ (b : Bool). in_word own t && not b)
    (ap (λ (x : ℕ). in_word x t) en ∙ in_by (λ t. in_word a t && not (in_word w.turn t)) t h
    ∙ ap (λ (b : Bool). b && not (in_word w.turn t))
    (ap (λ (x : ℕ). in_word x t) ea ∙ in_by (λ t. in_word own t && not (in_word w.token t)) t h))
    ∙ tests_bit (in_word own t) (in_word w.token t) (in_word w.turn t))

-- the five marks, told apart
five : Bool → Bool → Bool → Bool → Bool → Marks
five k u x a q = record { token = k; turn = u; testing = x; asked = a; quiet = q }

token_bit : (o k u x a q : Bool) → (k && not o) ≡ (if o then interval_marks (five k u x a q) else five k u x a q).token
unfolding five
token_bit true true u x a q = refl
token_bit true false true x a q = refl
token_bit true false false x a q = refl
token_bit false true u x a q = refl
token_bit false false u x a q = refl

turn_bit : (o k u x a q : Bool) → ((u && not (o && not k)) || ((o && not k) && not u))
    ≡ (if o then interval_marks (five k u x a q) else five
    k u x a q).turn
unfolding five
turn_bit true true true x a q = refl
turn_bit true true false x a q = refl
turn_bit true false true x a q = refl
turn_bit true false false x a q = refl
turn_bit false k true x a q = refl
turn_bit false k false x a q = refl

testing_bit : (o k u x a q : Bool) → (x || (o && (k || u))) ≡ (if o then interval_marks (five k u x a q) else five k u x a q).testing
unfolding five
testing_bit true true u true a q = refl
testing_bit true true u false a q = refl
testing_bit true false true true a q = refl
testing_bit true false true false a q = refl
testing_bit true false false true a q = refl
testing_bit true false false false a q = refl
testing_bit false k u true a q = refl
testing_bit false k u false a q = refl

asked_bit : (o k u x a q : Bool) → a ≡ (if o then interval_marks (five k u x a q) else five k u x a q).asked
unfolding five
asked_bit true true u x a q = refl
asked_bit true false true x a q = refl
asked_bit true false false x a q = refl
asked_bit false k u x a q = refl

quiet_bit : (o k u x a q : Bool) → q ≡ (if o then interval_marks (five k u x a q) else five k u x a q).quiet
unfolding five
quiet_bit true true u x a q = refl
quiet_bit true false true x a q = refl
quiet_bit true false false x a q = refl
quiet_bit false k u x a q = refl

-- ---- the words that the code makes
module _ (own : ℕ) (w : Words) (fits-asked : w.asked < 2 ^ 64) (fits-quiet : w.quiet < 2 ^ 64) where
  -- the marks of link t after it
  abbrev after_four : ℕ → Marks
  after_four t = if in_word own t then interval_marks (marks_at w t) else marks_at w t

  pub words_are : (flips back forth turn tests testing token : ℕ) → flips ≡ word_by (λ t. in_word own t && not (in_word w.token t))
      → back ≡ word_by (λ t. in_word w.turn t && not (in_word flips t)) → forth ≡ word_by (λ t. in_word flips t && not (in_word w.turn t))
      → turn ≡ word_by (λ t. in_word back t || in_word forth t) → tests ≡ word_by (λ t. in_word own t && interval_tests (marks_at w t))
      → testing ≡ word_by (λ t. in_word w.testing t || in_word tests t) → token ≡ word_by (λ t. in_word w.token t && not (in_word own t))
      → ◌≡◌ {A = Words} (record { token = token; turn = turn; testing = testing; asked = w.asked; quiet = w.quiet })
      (marks_by own w recovery_act.marks)
  unfolding five
  words_are flips back forth turn tests testing token ef eb eo eu et ex ek =
      λ i. record { token = tokens i; turn = turns i; testing = tested i; asked = put_off i; quiet = silent i }
    where
      bit : (r t : ℕ) (f : ℕ → Bool) → t < 64 → r ≡ word_by f → in_word r t ≡ f t
      bit r t f h e = ap (λ (x : ℕ). in_word x t) e ∙ in_by f t h

      tokens : token ≡ word_by (λ t. (after_four t).token)
      tokens =
          ek ∙ by_same _ (λ t. (after_four t).token) (λ t h. token_bit (in_word own t) (in_word w.token t) (in_word w.turn t)
          (in_word w.testing t) (in_word w.asked t) (in_word w.quiet t))

      turns : turn ≡ word_by (λ t. (after_four t).turn)
      turns =
          eu ∙ by_same _ (λ t. (after_four t).turn) (λ t h.
          let f = bit flips t (λ t. in_word own t && not (in_word w.token t)) h ef in
          ap₂ (λ (x y : Bool). x || y)
          (bit back t (λ t. in_word w.turn t && not (in_word flips t)) h eb ∙ ap (λ (b : Bool). in_word w.turn t && not b) f)
          (bit forth t (λ t. in_word flips t && not (in_word w.turn t)) h eo ∙ ap (λ (b : Bool). b && not (in_word w.turn t)) f)
          ∙ turn_bit (in_word own t) (in_word w.token t) (in_word w.turn t) (in_word w.testing t) (in_word w.asked t)
          (in_word w.quiet t))

      tested : testing ≡ word_by (λ t. (after_four t).testing)
      tested =
          ex ∙ by_same _ (λ t. (after_four t).testing) (λ t h.
          ap (λ (b : Bool). in_word w.testing t || b) (bit tests t (λ t. in_word own t && interval_tests (marks_at w t)) h et)
          ∙ testing_bit (in_word own t) (in_word w.token t) (in_word w.turn t) (in_word w.testing t) (in_word w.asked t)
          (in_word w.quiet t))

      put_off : w.asked ≡ word_by (λ t. (after_four t).asked)
      put_off =
          by_ext w.asked (λ t. (after_four t).asked) fits-asked
          (λ t h. asked_bit (in_word own t) (in_word w.token t) (in_word w.turn t) (in_word w.testing t) (in_word w.asked t)
          (in_word w.quiet t))

      silent : w.quiet ≡ word_by (λ t. (after_four t).quiet)
      silent =
          by_ext w.quiet (λ t. (after_four t).quiet) fits-quiet
          (λ t h. quiet_bit (in_word own t) (in_word w.token t) (in_word w.turn t) (in_word w.testing t) (in_word w.asked t)
          (in_word w.quiet t))
