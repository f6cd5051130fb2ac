-- The tests of a station's marks, all links at once, are the tests of each link's marks. A rule of marks is tested at all 32 of
-- them by computation.
use Prim.Native.Nat.{ℕ, ◌^◌, ◌<◌}
use mathlib.Core.Bool.{Bool, true, false, not, ◌&&◌, ◌||◌}
use mathlib.Core.Path.{◌≡◌, refl, ap, ap₂, ◌∙◌}
use lib.Dec.{T, eqb}
use Rattle.lists.specs.Words.{in_word}
use Rattle.lists.proofs.Tests.{same_test}
use Rattle.sets.specs.Sets.{word_by}
use Rattle.sets.proofs.WordLaws.{by_ext, by_same}
use Rattle.marks.specs.declared.Marks.{Marks}
use Rattle.marks.specs.declared.Words.{Words}
use Rattle.marks.specs.Marks.{marks_at}
use Rattle.station.specs.declared.Condition.TheVariants.{Down, Waiting, Live}
use Rattle.station.specs.Holding.{implies}
use Rattle.station.proofs.Slots.{all_marks, rule}
use Rattle.state_rules.specs.Steps.{every_place, beside_token, marks_test}
use Rattle.state_rules.proofs.PlaceLaws.{same, in_of, places_same, places_both, word_places, none_places, equal_places}

-- ---- two words
pub within_is : (a b w : ℕ) → w ≡ word_by (λ t. in_word a t && not (in_word b t))
    → eqb w 0 ≡ every_place (λ t. implies (in_word a t) (in_word b t))
within_is a b w e =
    none_places w (λ t. in_word a t && not (in_word b t)) e
    ∙ places_same (λ t. not (in_word a t && not (in_word b t))) (λ t. implies (in_word a t) (in_word b t))
    (λ t h. table (in_word a t) (in_word b t))
  where
    table : (x y : Bool) → not (x && not y) ≡ implies x y
    table true true = refl
    table true false = refl
    table false true = refl
    table false false = refl

pub apart_is : (a b w : ℕ) → a < 2 ^ 64 → w ≡ word_by (λ t. in_word a t && not (in_word b t))
    → eqb w a ≡ every_place (λ t. not (in_word a t && in_word b t))
apart_is a b w l e =
    word_places w a (λ t. in_word a t && not (in_word b t)) e l
    ∙ places_same (λ t. same (in_word a t && not (in_word b t)) (in_word a t)) (λ t. not (in_word a t && in_word b t))
    (λ t h. table (in_word a t) (in_word b t))
  where
    table : (x y : Bool) → same (x && not y) x ≡ not (x && y)
    table true true = refl
    table true false = refl
    table false true = refl
    table false false = refl

-- ---- two tests of marks that pass at the same of all 32 are equal
marks_same : (p q : Marks → Bool) → T (all_marks (λ m. implies (p m) (q m))) → T (all_marks (λ m. implies (q m) (p m))) → (m : Marks)
    → p m ≡ q m
marks_same p q t u m = same_test (p m) (q m) (rule p q t m) (rule q p u m)

abbrev down_test : Marks → Bool
down_test m = not (m.token || beside_token m)

abbrev waiting_test : Bool → Marks → Bool
waiting_test own m = same m.token own && not (beside_token m)

abbrev live_test : Bool → Marks → Bool
live_test own m =
    ((not (m.testing && ((m.token || m.turn) || m.quiet)) && implies m.asked m.testing) && not (m.token && m.turn))
    && implies (m.token || beside_token m) own

down_marks : (own : Bool) (m : Marks) → down_test m ≡ marks_test Down own m
down_marks true m = marks_same down_test (marks_test Down true) tt tt m
down_marks false m = marks_same down_test (marks_test Down false) tt tt m

waiting_marks : (own : Bool) (m : Marks) → waiting_test own m ≡ marks_test Waiting own m
waiting_marks true m = marks_same (waiting_test true) (marks_test Waiting true) tt tt m
waiting_marks false m = marks_same (waiting_test false) (marks_test Waiting false) tt tt m

live_marks : (own : Bool) (m : Marks) → live_test own m ≡ marks_test Live own m
live_marks true m = marks_same (live_test true) (marks_test Live true) tt tt m
live_marks false m = marks_same (live_test false) (marks_test Live false) tt tt m

-- ---- five words
module _ (w : Words) where
  pub beside_is : (a b r : ℕ) → a ≡ word_by (λ t. in_word w.turn t || in_word w.testing t)
      → b ≡ word_by (λ t. in_word w.asked t || in_word w.quiet t)
      → r ≡ word_by (λ t. in_word a t || in_word b t) → r ≡ word_by (λ t. beside_token (marks_at w t))
  beside_is a b r p q e =
      e ∙ by_same (λ t. in_word a t || in_word b t) (λ t. beside_token (marks_at w t))
      (λ t h. ap₂ (λ (x y : Bool). x || y) (in_of a (λ t. in_word w.turn t || in_word w.testing t) p t h)
      (in_of b (λ t. in_word w.asked t || in_word w.quiet t) q t h))

  module _ (own b : ℕ) (e : b ≡ word_by (λ t. beside_token (marks_at w t))) where
    pub down_is : (all : ℕ) → all ≡ word_by (λ t. in_word w.token t || in_word b t)
        → eqb all 0 ≡ every_place (λ t. marks_test Down (in_word own t) (marks_at w t))
    down_is all p =
        none_places all (λ t. in_word w.token t || in_word b t) p
        ∙ places_same (λ t. not (in_word w.token t || in_word b t)) (λ t. marks_test Down (in_word own t) (marks_at w t))
        (λ t h. ap (λ (x : Bool). not (in_word w.token t || x)) (in_of b (λ t. beside_token (marks_at w t)) e t h)
        ∙ down_marks (in_word own t) (marks_at w t))

    pub waiting_is : (r : Bool) → w.token < 2 ^ 64 → own < 2 ^ 64 → r ≡ (eqb w.token own && eqb b 0)
        → r ≡ every_place (λ t. marks_test Waiting (in_word own t) (marks_at w t))
    waiting_is r l m p =
        p ∙ ap₂ (λ (x y : Bool). x && y) (equal_places w.token own l m) (none_places b (λ t. beside_token (marks_at w t)) e)
        ∙ places_both (λ t. same (in_word w.token t) (in_word own t)) (λ t. not (beside_token (marks_at w t)))
        ∙ places_same (λ t. waiting_test (in_word own t) (marks_at w t)) (λ t. marks_test Waiting (in_word own t) (marks_at w t))
        (λ t h. waiting_marks (in_word own t) (marks_at w t))

    -- what the code asks of a live station, one place at a time
    abbrev pub tests_apart : ℕ → Bool
    tests_apart t = not (in_word w.testing t && ((in_word w.token t || in_word w.turn t) || in_word w.quiet t))

    abbrev pub asked_tests : ℕ → Bool
    asked_tests t = implies (in_word w.asked t) (in_word w.testing t)

    abbrev pub token_apart : ℕ → Bool
    token_apart t = not (in_word w.token t && in_word w.turn t)

    abbrev pub marks_own : ℕ → Bool
    marks_own t = implies (in_word w.token t || beside_token (marks_at w t)) (in_word own t)

    pub tests_apart_lem : (j idle : ℕ) (r : Bool) → j ≡ word_by (λ t. in_word w.token t || in_word w.turn t)
        → idle ≡ word_by (λ t. in_word j t || in_word w.quiet t)
        → r ≡ every_place (λ t. not (in_word w.testing t && in_word idle t)) → r ≡ every_place tests_apart
    tests_apart_lem j idle r p q d =
        d ∙ places_same (λ t. not (in_word w.testing t && in_word idle t)) tests_apart
        (λ t h. ap (λ (x : Bool). not (in_word w.testing t && x))
        (in_of idle (λ t. in_word j t || in_word w.quiet t) q t h
        ∙ ap (λ (x : Bool). x || in_word w.quiet t) (in_of j (λ t. in_word w.token t || in_word w.turn t) p t h)))

    pub marks_own_lem : (all : ℕ) (r : Bool) → all ≡ word_by (λ t. in_word w.token t || in_word b t)
        → r ≡ every_place (λ t. implies (in_word all t) (in_word own t)) → r ≡ every_place marks_own
    marks_own_lem all r p d =
        d ∙ places_same (λ t. implies (in_word all t) (in_word own t)) marks_own
        (λ t h. ap (λ (x : Bool). implies x (in_word own t))
        (in_of all (λ t. in_word w.token t || in_word b t) p t h
        ∙ ap (λ (x : Bool). in_word w.token t || x) (in_of b (λ t. beside_token (marks_at w t)) e t h)))

    pub live_is : (p q n o r : Bool) → p ≡ every_place tests_apart → q ≡ every_place asked_tests → n ≡ every_place token_apart
        → o ≡ every_place marks_own
        → r ≡ (((p && q) && n) && o) → r ≡ every_place (λ t. marks_test Live (in_word own t) (marks_at w t))
    live_is p q n o r ep eq en eo d =
        d ∙ ap₂ (λ (x y : Bool). x && y) (ap₂ (λ (x y : Bool). x && y)
        (ap₂ (λ (x y : Bool). x && y) ep eq ∙ places_both tests_apart asked_tests) en
        ∙ places_both (λ t. tests_apart t && asked_tests t) token_apart) eo
        ∙ places_both (λ t. (tests_apart t && asked_tests t) && token_apart t) marks_own
        ∙ places_same (λ t. live_test (in_word own t) (marks_at w t)) (λ t. marks_test Live (in_word own t) (marks_at w t))
        (λ t h. live_marks (in_word own t) (marks_at w t))

-- ---- no mark at all: each word is zero
abbrev no_marks : Marks → Bool
no_marks m = (((not m.token && not m.turn) && not m.testing) && not m.asked) && not m.quiet

no_marks_lem : (own : Bool) (m : Marks) → no_marks m ≡ marks_test Down own m
no_marks_lem true m = marks_same no_marks (marks_test Down true) tt tt m
no_marks_lem false m = marks_same no_marks (marks_test Down false) tt tt m

zero_places : (w : ℕ) → w < 2 ^ 64 → eqb w 0 ≡ every_place (λ t. not (in_word w t))
zero_places w l = none_places w (in_word w) (by_ext w (in_word w) l (λ t h. refl))

pub none_is : (w : Words) (own : ℕ) → w.token < 2 ^ 64 → w.turn < 2 ^ 64 → w.testing < 2 ^ 64 → w.asked < 2 ^ 64 → w.quiet < 2 ^ 64
    → ((((eqb w.token 0 && eqb w.turn 0) && eqb w.testing 0) && eqb w.asked 0) && eqb w.quiet 0)
    ≡ every_place (λ t. marks_test Down (in_word own t) (marks_at w t))
none_is w own a b c d e =
    ap₂ (λ (x y : Bool). x && y) (ap₂ (λ (x y : Bool). x && y) (ap₂ (λ (x y : Bool). x && y)
    (ap₂ (λ (x y : Bool). x && y) (zero_places w.token a) (zero_places w.turn b) ∙ places_both _ _) (zero_places w.testing c)
    ∙ places_both _ _) (zero_places w.asked d) ∙ places_both _ _) (zero_places w.quiet e)
    ∙ places_both _ _
    ∙ places_same _ (λ t. marks_test Down (in_word own t) (marks_at w t)) (λ t h. no_marks_lem (in_word own t) (marks_at w t))
