-- What a step's counts do to a tally: where the step says no they are zeros, and the tally is as it was.
use Rattle.std.specs.Prelude.{if◌then◌else◌}
use Prim.Native.Nat.{ℕ}
use mathlib.Core.Path.{◌≡◌, refl, ◌∙◌}
use mathlib.Core.Bool.{Bool, true, false}
use lib.Dec.{eqb}
use Rattle.tally.specs.declared.Tally.{Tally}
use Rattle.tally.specs.Sums.{tallied}
use Rattle.tally.proofs.Plain.{no_counts}
use Rattle.tally.proofs.Sums.{Fits, nothing_more}
use Rattle.state.specs.declared.State.{State}
use Rattle.step_rules.specs.declared.Stepped.{Stepped}
use Rattle.step_rules.specs.Step.{event, refusing, accepting, number_of, stepped_of}
use Rattle.step_rules.specs.Counting.{tallied_by}

-- adding the counts is what the tally is to be
abbrev Adds : Tally → Stepped → Type 0
Adds t r = tallied t r.counts ≡ tallied_by r t

either : (yes : Bool) (t : Tally) (x y : Stepped) → Adds t x → Adds t y → Adds t (if yes then x else y)
either true t x y p q = p
either false t x y p q = q

either_way : (yes : Bool) (t : Tally) → Fits t → tallied t no_counts ≡ (if yes then tallied t no_counts else t)
either_way true t f = refl
either_way false t f = nothing_more t f

step_adds : (t : Tally) → Fits t → (s : State) (kind a b : ℕ) → Adds t (stepped_of s kind a b)
unfolding stepped_of
step_adds t f s kind a b =
    either (eqb (number_of s (event kind a b)) 0) t (accepting s (event kind a b)) (refusing (number_of s (event kind a b)) s) refl
    (either_way (eqb (number_of s (event kind a b)) 0) t f)

-- a tally to which the counts of the step's answer were added
pub added_by : (t : Tally) → Fits t → (s : State) (kind a b : ℕ) (r : Stepped) → r ≡ stepped_of s kind a b → (t' : Tally)
    → t' ≡ tallied t r.counts → t' ≡ tallied_by (stepped_of s kind a b) t
added_by t f s kind a b r e t' e' = e' ∙ ((λ i. tallied t (e i).counts) ∙ step_adds t f s kind a b)
