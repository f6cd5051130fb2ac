-- The call over many events (document 02, L1): its numbers; that it is a run of calls of the step, lent the same tally; and what holds of
-- such runs, read over the events taken. For every answer that the promise allows.
use Prim.Native.Nat.{ℕ, ◌+◌, ◌*◌, ◌<◌}
use mathlib.Core.Bool.{Bool, true, false, not}
use mathlib.Core.Path.{◌≡◌, refl, sym, ap, ◌∙◌, subst, subst⁻¹}
use mathlib.Core.Logic.{◌↔◌}
use mathlib.Core.List.{List, [], ◌∷◌, ◌++◌}
use native.Mathlib.Omega.{arith}
use lib.Dec.{T}
use lib.ListN.{take}
use Rattle.lists.proofs.Tests.{T_not_is, is_T}
use Rattle.tally.specs.declared.Tally.{Tally}
use Rattle.tally.specs.Sums.{largest, tallied}
use Rattle.tally.proofs.Sums.{Fits}
use Rattle.world.specs.World.{Event, refusal}
use Rattle.world.specs.History.{run, ever_settled}
use Rattle.state.specs.declared.State.{State}
use Rattle.state.specs.State.{world_of, state_holds, Sized}
use Rattle.step_rules.specs.Step.{stepped_of}
use Rattle.step_rules.specs.Counting.{tallied_by}
use Rattle.step_rules.proofs.Bridge.{Good}
use Rattle.backlog_rules.specs.declared.Taken.{Taken}
use Rattle.backlog_rules.specs.Backlog.{stopping, and_before, calls, backlog_of}
use Rattle.backlog_rules.proofs.Laws.{bad_state, good_state, at_the_end, one_left_over, two_left_over, one_taken}
use Rattle.backlog_rules.proofs.Threes.{stopped_at}
use Rattle.backlog_rules.proofs.Joining as J
use Rattle.backlog_rules.proofs.Joining.{Course, course, by_taken, by_refused, backlog_good}
use Rattle.backlog_rules.proofs.OneByOne as O
use Rattle.backlog_rules.proofs.OneByOne.{taken_by, Takes, OneByOne, one_by_one}
use Rattle.laws.specs.Flood.{only_notices}
use Rattle.laws.specs.Tallied.{ever_counted}
use Rattle.laws.proofs.Calls as C
use Rattle.step_counted.proofs.Runs.{Lent, LentCalls, tally_is_history}
use Rattle.demands.specs.Calls.{TakesBacklog}
use Rattle.demands.specs.StateReasons as W
use Rattle.demands.specs.StateReasons.{GoodState, BadState, Stopped, Backlog}
use Rattle.demands.proofs.States.{step_numbers}
use Rattle.demands.proofs.Runs.{IsRun, lent_is_run, LentDiesOut, lent_dies_out}

-- ---- its numbers
abbrev number : Taken → ℕ
number r = r.answer

why_stopped : {s : State} {xs : List ℕ} {n : ℕ} → Stopped s xs n → (t : Tally) → (calls s t xs).answer ≡ n
why_stopped {s} W.all_taken t = ap number (at_the_end s t)
why_stopped {s} (W.one_over {x = x}) t = ap number (one_left_over s t x)
why_stopped {s} (W.two_over {x = x} {y = y}) t = ap number (two_left_over s t x y)
why_stopped {s} (W.refused {kind = kind} {a = a} {b = b} {n = n} {rest = rest} w h) t =
    let z : (stepped_of s kind a b).answer ≡ n = (step_numbers s kind a b (stepped_of s kind a b) refl n).1 w in
    ap number (by_refused s t kind a b rest (λ q. h (sym z ∙ q))) ∙ z
why_stopped {s} (W.goes_on {kind = kind} {a = a} {b = b} {rest = rest} c z p) t =
    ap number (one_taken s t kind a b rest c.answer c.promise z) ∙ why_stopped p (tallied_by c.answer t)

stopped_why : {s : State} {t : Tally} {xs : List ℕ} → Course s t xs → Stopped s xs (calls s t xs).answer
stopped_why {s} {t} J.none = subst⁻¹ (Stopped s []) (ap number (at_the_end s t)) W.all_taken
stopped_why {s} {t} (J.one_over {x = x}) = subst⁻¹ (Stopped s (x ∷ [])) (ap number (one_left_over s t x)) W.one_over
stopped_why {s} {t} (J.two_over {x = x} {y = y}) = subst⁻¹ (Stopped s (x ∷ y ∷ [])) (ap number (two_left_over s t x y)) W.two_over
stopped_why {s} {t} (J.stop kind a b es h) =
    subst⁻¹ (Stopped s (kind ∷ a ∷ b ∷ es)) (ap number (by_refused s t kind a b es h))
    (W.refused ((step_numbers s kind a b (stepped_of s kind a b) refl (stepped_of s kind a b).answer).0 refl) h)
stopped_why {s} {t} (J.more kind a b es z c) =
    subst⁻¹ (Stopped s (kind ∷ a ∷ b ∷ es)) (ap number (by_taken s t kind a b es z))
    (W.goes_on (record { answer = stepped_of s kind a b; promise = refl }) z (stopped_why c))

module _ (s : State) (t : Tally) (xs : List ℕ) where
  why_backlog : {n : ℕ} → Backlog s xs n → (backlog_of s t xs).answer ≡ n
  why_backlog (W.eleven p) = ap number (bad_state s t xs (T_not_is (state_holds s) p))
  why_backlog (W.told g w) = ap number (good_state s t xs g) ∙ why_stopped w t

  backlog_why : Backlog s xs (backlog_of s t xs).answer
  backlog_why = go (state_holds s) refl
    where
      go : (b : Bool) → state_holds s ≡ b → Backlog s xs (backlog_of s t xs).answer
      go true e =
          let g = is_T (state_holds s) e in
          W.told g (subst⁻¹ (Stopped s xs) (ap number (good_state s t xs g)) (stopped_why (course s t xs)))
      go false e =
          subst⁻¹ (Backlog s xs) (ap number (bad_state s t xs e)) (W.eleven (subst⁻¹ (λ (b : Bool). T (not b)) e tt))

-- ---- a run of calls
pub takes_lent : {s u : State} {t v : Tally} {es : List Event} → Takes s t es u v → LentCalls s t es u v
takes_lent O.none = C.none
takes_lent (O.more {s = s} {t = t} {e = e} z p) =
    let r = stepped_of s e.kind e.a e.b in
    let here : Lent s t e r.state (tallied_by r t) = record { answer = r; promised = refl; state = refl; tally = refl } in
    C.more here (takes_lent p)

module _ (before : Tally) (s : State) (events : List ℕ) (c : TakesBacklog before s events) where
  abbrev es : List Event
  es = taken_by c.answer events

  -- EACH NUMBER WHEN, AND ONLY WHEN, ITS REASON STANDS
  pub backlog_numbers : (n : ℕ) → (c.answer.answer ≡ n) ↔ Backlog s events n
  backlog_numbers n =
      let e : c.answer.answer ≡ (backlog_of s before events).answer = ap number c.promise in
      ((λ q. subst (Backlog s events) (sym e ∙ q) (backlog_why s before events)), (λ w. e ∙ why_backlog s before events w))

  -- 11 takes nothing, and leaves the state and the tally as they were
  pub backlog_bad : BadState s → (c.answer ≡ stopping 11 before s) × (c.tally ≡ before)
  backlog_bad p =
      let e = bad_state s before events (T_not_is (state_holds s) p) in
      (c.promise ∙ e, c.promise_tally ∙ ap (λ (r : Taken). r.tally) e)

  -- the lent tally is left as the answer has it
  pub tally_answered : c.tally ≡ c.answer.tally
  tally_answered = c.promise_tally ∙ ap (λ (r : Taken). r.tally) (sym c.promise)

  -- the calls one by one
  pub backlog_exact : GoodState s → OneByOne s before events c.answer
  backlog_exact g = subst⁻¹ (OneByOne s before events) c.promise (one_by_one s before events g)

  -- what a refusal keeps: what the same call leaves that is given the events taken alone
  pub backlog_keeps : GoodState s → (d : TakesBacklog before s (take (3 * c.answer.taken) events))
      → (d.answer ≡ stopped_at 0 c.answer.taken c.answer.tally c.answer.state) × (d.tally ≡ c.tally)
  backlog_keeps g d =
      let e : d.answer ≡ stopped_at 0 c.answer.taken c.answer.tally c.answer.state
      = d.promise ∙ good_state s before (take (3 * c.answer.taken) events) g ∙ (backlog_exact g).kept in
      (e, d.promise_tally ∙ ap (λ (r : Taken). r.tally) (sym d.promise ∙ e) ∙ sym tally_answered)

  -- A RUN OF CALLS, all lent the same tally; and in its states one of the step
  pub backlog_run : GoodState s → LentCalls s before es c.answer.state c.tally
  backlog_run g =
      subst⁻¹ (LentCalls s before es c.answer.state) tally_answered (takes_lent (backlog_exact g).takes)

  pub backlog_calls : GoodState s → IsRun s es c.answer.state
  backlog_calls g = lent_is_run (backlog_run g)

  module _ (g : Good s) where
    pub backlog_well : Good c.answer.state
    backlog_well = subst⁻¹ (λ (r : Taken). Good r.state) c.promise (backlog_good s before g events)

    -- the world that the rules leave after the events taken, each of them accepted
    pub backlog_means : world_of c.answer.state ≡ run (world_of s) es
    backlog_means =
        subst⁻¹ (λ (r : Taken). world_of r.state ≡ run (world_of s) (taken_by r events)) c.promise (O.backlog_means s before events g)

    pub backlog_accepted : (ds fs : List Event) (e : Event) → es ≡ ds ++ (e ∷ fs) → refusal (run (world_of s) ds) e ≡ 0
    backlog_accepted ds fs e q =
        O.each_accepted s before events g ds fs e (ap (λ (r : Taken). taken_by r events) (sym c.promise) ∙ q)

    -- the tally before with what the events taken count
    pub backlog_history : Fits before → c.tally ≡ tallied before (ever_counted (world_of s) es)
    backlog_history f = tally_is_history g f (backlog_run g.holds)

-- ---- DEMAND 3 over the events taken
module _ (before : Tally) (s : State) (events : List ℕ) (c : TakesBacklog before s events) (g : Good s) (f : Fits before) where
  -- where the tally's settled count does not reach its largest value, what is added to it is how many notices were settled
  pub settled_is : c.tally.settled < largest → c.tally.settled ≡ before.settled + ever_settled (world_of s) (taken_by c.answer events)
  settled_is h = omega (arith, ap (λ (t : Tally). t.settled) (backlog_history before s events c g f))

  pub taken_die_out : T (only_notices (world_of s) (taken_by c.answer events))
      → LentDiesOut s c.answer.state before c.tally c.answer.taken
  taken_die_out o =
      subst (LentDiesOut s c.answer.state before c.tally) (backlog_exact before s events c g.holds).many
      (lent_dies_out (taken_by c.answer events) g f o (backlog_run before s events c g.holds))

-- ---- two lists in one call
pub backlog_joined : (before : Tally) (s : State) → Sized s → (xs ys : List ℕ) (c : TakesBacklog before s xs) → c.answer.answer ≡ 0
    → (d : TakesBacklog c.tally c.answer.state ys) (b : TakesBacklog before s (xs ++ ys))
    → (b.answer ≡ and_before c.answer.taken d.answer) × (b.tally ≡ d.tally)
backlog_joined before s z xs ys c q d b =
    let e : backlog_of s before (xs ++ ys) ≡ and_before c.answer.taken (backlog_of c.answer.state c.tally ys)
    = J.joined s before xs ys z (sym (ap number c.promise) ∙ q)
    ∙ (λ i. and_before (sym c.promise i).taken (backlog_of (sym c.promise i).state (sym c.promise_tally i) ys)) in (
      b.promise ∙ e ∙ ap (and_before c.answer.taken) (sym d.promise),
      b.promise_tally ∙ ap (λ (r : Taken). r.tally) e ∙ sym d.promise_tally,
    )
