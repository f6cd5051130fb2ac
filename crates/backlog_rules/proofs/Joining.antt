-- Two lists in one call. A list that is taken whole and then another is the same as both in one; and what comes after the event at which
-- the call stopped changes nothing. Every state that it hands back is well formed if the one given is.
use Prim.Native.Nat.{ℕ, ◌+◌, ◌*◌, ◌≤◌, ◌<◌}
use mathlib.Core.Bool.{Bool, true, false}
use mathlib.Core.Path.{◌≡◌, refl, sym, ap, ◌∙◌, subst⁻¹}
use mathlib.Core.List.{List, [], ◌∷◌, ◌++◌}
use native.Mathlib.Decide.{ℕ_discrete}
use native.Mathlib.Omega.{arith}
use lib.Dec.{T}
use lib.ListN.{length}
use Rattle.lists.proofs.Tests.{is_T}
use Rattle.tally.specs.declared.Tally.{Tally}
use Rattle.state.specs.declared.State.{State}
use Rattle.state.specs.State.{state_holds, Sized}
use Rattle.step_rules.specs.Step.{stepped_of}
use Rattle.step_rules.specs.Counting.{tallied_by}
use Rattle.step_rules.proofs.Bridge.{Good, is_step}
use Rattle.backlog_rules.specs.declared.Taken.{Taken}
use Rattle.backlog_rules.specs.Backlog.{stopping, and_before, calls, backlog_of}
use Rattle.backlog_rules.proofs.Laws.{before_none, before_more, bad_state, good_state, one_taken, one_refused}

-- ---- the course that the calls take through a list: what it comes down to at each place
pub data Course : State → Tally → List ℕ → Type 0 where
  none : {s : State} {t : Tally} → Course s t []
  one_over : {s : State} {t : Tally} {x : ℕ} → Course s t (x ∷ [])
  two_over : {s : State} {t : Tally} {x y : ℕ} → Course s t (x ∷ y ∷ [])
  stop : {s : State} {t : Tally} (kind a b : ℕ) (es : List ℕ) → ((stepped_of s kind a b).answer ≡ 0 → ⊥) → Course s t (kind ∷ a ∷ b ∷ es)
  more : {s : State} {t : Tally} (kind a b : ℕ) (es : List ℕ) → (stepped_of s kind a b).answer ≡ 0
      → Course (stepped_of s kind a b).state (tallied_by (stepped_of s kind a b) t) es → Course s t (kind ∷ a ∷ b ∷ es)

pub course : (s : State) (t : Tally) (xs : List ℕ) → Course s t xs
course s t [] = none
course s t (x ∷ []) = one_over
course s t (x ∷ y ∷ []) = two_over
course s t (kind ∷ a ∷ b ∷ es) =
    go (ℕ_discrete (stepped_of s kind a b).answer 0) (course (stepped_of s kind a b).state (tallied_by (stepped_of s kind a b) t) es)
  where
    go : Dec ((stepped_of s kind a b).answer ≡ 0) → Course (stepped_of s kind a b).state (tallied_by (stepped_of s kind a b) t) es
        → Course s t (kind ∷ a ∷ b ∷ es)
    go (yes z) c = more kind a b es z c
    go (no n) c = stop kind a b es n

-- the calls where the first event is taken, and where it is refused
module _ (s : State) (t : Tally) (kind a b : ℕ) (es : List ℕ) where
  pub by_taken : (stepped_of s kind a b).answer ≡ 0
      → calls s t (kind ∷ a ∷ b ∷ es) ≡ and_before 1 (calls (stepped_of s kind a b).state (tallied_by (stepped_of s kind a b) t) es)
  by_taken z = one_taken s t kind a b es (stepped_of s kind a b) refl z

  pub by_refused : ((stepped_of s kind a b).answer ≡ 0 → ⊥) → calls s t (kind ∷ a ∷ b ∷ es) ≡ stopping (stepped_of s kind a b).answer t s
  by_refused n = one_refused s t kind a b es (stepped_of s kind a b) refl n

six : ◌≡◌ {A = ℕ} 6 0 → ⊥
six z = omega arith

-- ---- a list taken whole, then another
-- what an answer says, followed by the calls on what it hands back
abbrev pub then_calls : Taken → List ℕ → Taken
then_calls r ys = and_before r.taken (calls r.state r.tally ys)

abbrev pub then_backlog : Taken → List ℕ → Taken
then_backlog r ys = and_before r.taken (backlog_of r.state r.tally ys)

joins : {s : State} {t : Tally} {xs : List ℕ} → Course s t xs → (ys : List ℕ) → (calls s t xs).answer ≡ 0
    → calls s t (xs ++ ys) ≡ then_calls (calls s t xs) ys
unfolding calls
joins {s} {t} none ys z = sym (before_none (calls s t ys))
joins one_over ys z = absurd (six z)
joins two_over ys z = absurd (six z)
joins {s} {t} (stop kind a b es n) ys z = absurd (n (ap (λ (r : Taken). r.answer) (sym (by_refused s t kind a b es n)) ∙ z))
joins {s} {t} (more kind a b es q c) ys z =
    let r = stepped_of s kind a b in
    let u = tallied_by (stepped_of s kind a b) t in
    let here : calls s t (kind ∷ a ∷ b ∷ es) ≡ and_before 1 (calls r.state u es) = by_taken s t kind a b es q in
    by_taken s t kind a b (es ++ ys) q
    ∙ ap (and_before 1) (joins c ys (ap (λ (r : Taken). r.answer) (sym here) ∙ z))
    ∙ before_more 1 (calls r.state u es).taken (calls (calls r.state u es).state (calls r.state u es).tally ys)
    ∙ ap (λ (x : Taken). then_calls x ys) (sym here)

-- over the calls, whatever the state
pub calls_joined : (s : State) (t : Tally) (xs ys : List ℕ) → (calls s t xs).answer ≡ 0
    → calls s t (xs ++ ys) ≡ then_calls (calls s t xs) ys
calls_joined s t xs ys z = joins (course s t xs) ys z

-- ---- well formed
stays_good : {s : State} {t : Tally} {xs : List ℕ} → Course s t xs → Good s → Good (calls s t xs).state
unfolding calls
stays_good none g = g
stays_good one_over g = g
stays_good two_over g = g
stays_good {s} {t} (stop kind a b es n) g = subst⁻¹ (λ (r : Taken). Good r.state) (by_refused s t kind a b es n) g
stays_good {s} {t} (more kind a b es q c) g =
    subst⁻¹ (λ (r : Taken). Good r.state) (by_taken s t kind a b es q) (stays_good c (is_step s kind a b g).good)

pub calls_good : (s : State) (t : Tally) (xs : List ℕ) → Good s → Good (calls s t xs).state
calls_good s t xs g = stays_good (course s t xs) g

module _ (s : State) (t : Tally) (g : Good s) where
  -- WELL FORMED: the state that is handed back, whatever the list
  pub backlog_good : (xs : List ℕ) → Good (backlog_of s t xs).state
  backlog_good xs = subst⁻¹ (λ (r : Taken). Good r.state) (good_state s t xs g.holds) (calls_good s t xs g)

-- TWO LISTS IN ONE CALL: the first taken whole, the second goes on from what it left. (11 is not 0: the state given is well formed.)
pub joined : (s : State) (t : Tally) (xs ys : List ℕ) → Sized s → (backlog_of s t xs).answer ≡ 0
    → backlog_of s t (xs ++ ys) ≡ then_backlog (backlog_of s t xs) ys
joined s t xs ys z q = go (state_holds s) refl
  where
    goes_on : T (state_holds s) → backlog_of s t (xs ++ ys) ≡ then_backlog (backlog_of s t xs) ys
    goes_on h =
        let e : backlog_of s t xs ≡ calls s t xs = good_state s t xs h in
        let after : Good (calls s t xs).state = calls_good s t xs (record { sized = z; holds = h }) in
        good_state s t (xs ++ ys) h
        ∙ calls_joined s t xs ys (ap (λ (r : Taken). r.answer) (sym e) ∙ q)
        ∙ ap (and_before (calls s t xs).taken) (sym (good_state (calls s t xs).state (calls s t xs).tally ys after.holds))
        ∙ ap (λ (r : Taken). then_backlog r ys) (sym e)

    eleven : ◌≡◌ {A = ℕ} 11 0 → ⊥
    eleven z = omega arith

    go : (b : Bool) → state_holds s ≡ b → backlog_of s t (xs ++ ys) ≡ then_backlog (backlog_of s t xs) ys
    go true e = goes_on (is_T (state_holds s) e)
    go false e = absurd (eleven (ap (λ (r : Taken). r.answer) (sym (bad_state s t xs e)) ∙ q))

-- ---- where it ends
-- all taken; or an event refused that has its three numbers; or one or two numbers left over
pub data Ended (r : Taken) (size : ℕ) : Type 0 where
  whole : r.answer ≡ 0 → size ≡ 3 * r.taken → Ended r size
  refused : (r.answer ≡ 0 → ⊥) → 3 * r.taken + 3 ≤ size → Ended r size
  over : r.answer ≡ 6 → 3 * r.taken < size → size < 3 * r.taken + 3 → Ended r size

ends_here : {s : State} {t : Tally} {xs : List ℕ} → Course s t xs → Ended (calls s t xs) (length xs)
unfolding calls
ends_here none = whole refl refl
ends_here one_over = over refl (omega arith) (omega arith)
ends_here two_over = over refl (omega arith) (omega arith)
ends_here {s} {t} (stop kind a b es n) =
    subst⁻¹ (λ (r : Taken). Ended r (length (kind ∷ a ∷ b ∷ es))) (by_refused s t kind a b es n) (refused n (omega arith))
ends_here {s} {t} (more kind a b es q c) =
    subst⁻¹ (λ (r : Taken). Ended r (length (kind ∷ a ∷ b ∷ es))) (by_taken s t kind a b es q) (one_more (ends_here c))
  where
    one_more : {r : Taken} → Ended r (length es) → Ended (and_before 1 r) (length (kind ∷ a ∷ b ∷ es))
    one_more (whole z e) = whole z (omega arith)
    one_more (refused n h) = refused n (omega arith)
    one_more (over z l h) = over z (omega arith) (omega arith)

pub ended : (s : State) (t : Tally) (xs : List ℕ) → Ended (calls s t xs) (length xs)
ended s t xs = ends_here (course s t xs)

-- ---- stopped at an event
stops_there : {s : State} {t : Tally} {xs : List ℕ} → Course s t xs → (ys : List ℕ) → 3 * (calls s t xs).taken + 3 ≤ length xs
    → calls s t (xs ++ ys) ≡ calls s t xs
unfolding calls
stops_there none ys h = absurd (never h)
  where
    never : 3 * 0 + 3 ≤ 0 → ⊥
    never h = omega arith
stops_there one_over ys h = absurd (never h)
  where
    never : 3 * 0 + 3 ≤ 1 → ⊥
    never h = omega arith
stops_there two_over ys h = absurd (never h)
  where
    never : 3 * 0 + 3 ≤ 2 → ⊥
    never h = omega arith
stops_there {s} {t} (stop kind a b es n) ys h = by_refused s t kind a b (es ++ ys) n ∙ sym (by_refused s t kind a b es n)
stops_there {s} {t} (more kind a b es q c) ys h =
    let one : (calls s t (kind ∷ a ∷ b ∷ es)).taken ≡ 1 + (calls (stepped_of s kind a b).state (tallied_by (stepped_of s kind a b) t) es).taken
    = ap (λ (r : Taken). r.taken) (by_taken s t kind a b es q) in
    by_taken s t kind a b (es ++ ys) q ∙ ap (and_before 1) (stops_there c ys (omega arith)) ∙ sym (by_taken s t kind a b es q)

module _ (s : State) (t : Tally) (xs ys : List ℕ) where
  -- where the event at which it stopped has its three numbers in the list, what comes after it changes nothing
  pub stopped : 3 * (calls s t xs).taken + 3 ≤ length xs → calls s t (xs ++ ys) ≡ calls s t xs
  stopped h = stops_there (course s t xs) ys h

  -- as in a list of whole events
  pub stopped_whole : (n : ℕ) → length xs ≡ 3 * n → ((calls s t xs).answer ≡ 0 → ⊥) → calls s t (xs ++ ys) ≡ calls s t xs
  stopped_whole n l z = stopped (at_event (ended s t xs))
    where
      at_event : Ended (calls s t xs) (length xs) → 3 * (calls s t xs).taken + 3 ≤ length xs
      at_event (whole q e) = absurd (z q)
      at_event (refused q h) = h
      at_event (over q h k) = omega arith

  -- and so for the call, whatever the state
  pub backlog_stopped : (n : ℕ) → length xs ≡ 3 * n → ((backlog_of s t xs).answer ≡ 0 → ⊥) → backlog_of s t (xs ++ ys) ≡ backlog_of s t xs
  backlog_stopped n l z = go (state_holds s) refl
    where
      go : (b : Bool) → state_holds s ≡ b → backlog_of s t (xs ++ ys) ≡ backlog_of s t xs
      go true e =
          let same : backlog_of s t xs ≡ calls s t xs = good_state s t xs (is_T (state_holds s) e) in
          good_state s t (xs ++ ys) (is_T (state_holds s) e)
          ∙ stopped_whole n l (λ q. z (ap (λ (r : Taken). r.answer) same ∙ q))
          ∙ sym same
      go false e = bad_state s t (xs ++ ys) e ∙ sym (bad_state s t xs e)
