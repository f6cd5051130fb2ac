-- Laws of counting answers: one event more, and none left.
use Prim.Native.Nat.{ℕ, zero, suc, ◌+◌, ◌*◌, ◌/◌, ◌<◌}
use mathlib.Core.Path.{◌≡◌, refl, sym, ap, ◌∙◌}
use mathlib.Core.List.{List, [], ◌∷◌}
use native.Mathlib.Omega.{arith}
use lib.ListN.{length, get_or, take, drop, length-drop}
use lib.Seq.{drop-drop}
use borrow.Author.Tests.{ne_eqb}
use Rattle.tally.specs.Sums.{added}
use Rattle.std.specs.Simd.{first_chunks}
use Rattle.backlog_rules.proofs.Threes.{three}
use Rattle.page_program.specs.declared.Answers.{Answers}
use Rattle.page_program.specs.Counting.{counted, counting}

-- ---- one event
pub event_refused : (answer : ℕ) (a : Answers) (n : ℕ) → (answer ≡ 0 → ⊥) → n ≡ added a.refused 1
    → record { taken = a.taken; refused = n } ≡ counted answer a
event_refused answer a n h p = simp (ne_eqb answer 0 h) (λ i. record { taken = a.taken; refused = p i })

-- ---- the trace, taken three numbers at a time: the first number of event i
event_at : (n i : ℕ) (trace : List ℕ) → i < n → get_or (first_chunks 3 n trace) i [] ≡ take 3 (drop (3 * i) trace)
event_at zero i trace h = elim h [ ]
event_at (suc n) zero trace h = refl
event_at (suc n) (suc i) trace h =
    event_at n i (drop 3 trace) (omega arith) ∙ ap (take 3) (drop-drop (3 * i) 3 trace ∙ ap (λ (k : ℕ). drop k trace) (omega arith))

-- ---- events one after the other
pub counting_more : (trace : List ℕ) (a n : Answers) (i : ℕ) {events : List (List ℕ)} → i < length trace / 3
    → events ≡ first_chunks 3 (length trace / 3) trace
    → n ≡ counted (get_or (get_or events i []) 0 0) a → counting (drop (3 * i) trace) a ≡ counting (drop (3 * (i + 1)) trace) n
unfolding counting
counting_more trace a n i {events} h es e =
    let here = three trace i (omega arith) in
    let first : get_or (get_or events i []) 0 0 ≡ get_or trace (3 * i) 0 =
    ap (λ (l : List (List ℕ)). get_or (get_or l i []) 0 0) es
    ∙ ap (λ (l : List ℕ). get_or l 0 0) (event_at (length trace / 3) i trace h ∙ ap (take 3) here) in
    ap (λ (l : List ℕ). counting l a) here
    ∙ ap (counting (drop (3 * (i + 1)) trace)) (ap (λ (x : ℕ). counted x a) (sym first) ∙ sym e)

none_left : (l : List ℕ) (a : Answers) → length l < 3 → counting l a ≡ a
unfolding counting
none_left [] a h = refl
none_left (x ∷ []) a h = refl
none_left (x ∷ y ∷ []) a h = refl
none_left (x ∷ y ∷ z ∷ l) a h = absurd (never h)
  where
    never : length (x ∷ y ∷ z ∷ l) < 3 → ⊥
    never h = omega arith

pub counting_none : (trace : List ℕ) (a : Answers) (i : ℕ) → i ≡ length trace / 3 → counting (drop (3 * i) trace) a ≡ a
counting_none trace a i e = none_left (drop (3 * i) trace) a (omega (arith, length-drop (3 * i) trace))
