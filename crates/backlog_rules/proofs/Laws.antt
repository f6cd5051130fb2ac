-- First laws of the call over many events: what it is for a state that is well formed and for one that isn't; at the end of the list; one
-- event more; where it stops.
use Prim.Native.Nat.{ℕ, ◌+◌}
use mathlib.Core.Bool.{false}
use mathlib.Core.Path.{◌≡◌, refl, ap}
use mathlib.Core.List.{List, [], ◌∷◌}
use native.Mathlib.Omega.{arith}
use borrow.Author.Tests.{eq-eqb, ne_eqb}
use lib.Dec.{T}
use Rattle.lists.proofs.Tests.{T_is}
use Rattle.tally.specs.declared.Tally.{Tally}
use Rattle.state.specs.declared.State.{State}
use Rattle.state.specs.State.{state_holds}
use Rattle.step_rules.specs.declared.Stepped.{Stepped}
use Rattle.step_rules.specs.Step.{stepped_of}
use Rattle.step_rules.specs.Counting.{tallied_by}
use Rattle.backlog_rules.specs.declared.Taken.{Taken}
use Rattle.backlog_rules.specs.Backlog.{stopping, and_before, calls, backlog_of}

-- none taken before changes nothing, and before what was taken before there were more
pub before_none : (r : Taken) → and_before 0 r ≡ r
before_none r = ap (λ (n : ℕ). record { answer = r.answer; taken = n; tally = r.tally; state = r.state }) (omega arith)

pub before_more : (n m : ℕ) (r : Taken) → and_before n (and_before m r) ≡ and_before (n + m) r
before_more n m r = ap (λ (k : ℕ). record { answer = r.answer; taken = k; tally = r.tally; state = r.state }) (omega arith)

module _ (s : State) (t : Tally) where
  -- 11
  pub bad_state : (es : List ℕ) → state_holds s ≡ false → backlog_of s t es ≡ stopping 11 t s
  unfolding backlog_of
  bad_state es q = rw q

  pub good_state : (es : List ℕ) → T (state_holds s) → backlog_of s t es ≡ calls s t es
  unfolding backlog_of
  good_state es q = rw (T_is (state_holds s) q)

  -- the end of the list, and one or two numbers left over there
  pub at_the_end : calls s t [] ≡ stopping 0 t s
  unfolding calls
  at_the_end = refl

  pub one_left_over : (x : ℕ) → calls s t (x ∷ []) ≡ stopping 6 t s
  unfolding calls
  one_left_over x = refl

  pub two_left_over : (x y : ℕ) → calls s t (x ∷ y ∷ []) ≡ stopping 6 t s
  unfolding calls
  two_left_over x y = refl

  module _ (kind a b : ℕ) (es : List ℕ) where
    -- an event that the step accepts
    pub one_taken : (r : Stepped) → r ≡ stepped_of s kind a b → r.answer ≡ 0
        → calls s t (kind ∷ a ∷ b ∷ es) ≡ and_before 1 (calls r.state (tallied_by r t) es)
    unfolding calls
    one_taken r e z = rw (← e, eq-eqb r.answer 0 z)

    -- and one that it refuses
    pub one_refused : (r : Stepped) → r ≡ stepped_of s kind a b → (r.answer ≡ 0 → ⊥)
        → calls s t (kind ∷ a ∷ b ∷ es) ≡ stopping r.answer t s
    unfolding calls
    one_refused r e n = rw (← e, ne_eqb r.answer 0 n)
