-- The run with answers: its numbers; what stands in the trace, in the words of document 01's event program; that it is a run of calls of
-- the step over all its events, lent the same tally, and what holds of such runs. For every answer that the promise allows.
use Prim.Native.Nat.{ℕ, suc, ◌+◌, ◌*◌, ◌/◌, ◌≤◌, ◌<◌}
use mathlib.Core.Bool.{Bool, true, false, not}
use mathlib.Core.Path.{◌≡◌, refl, sym, ap, ap₂, ◌∙◌, subst, subst⁻¹, transport}
use mathlib.Core.Logic.{◌↔◌}
use mathlib.Core.List.{List, [], ◌∷◌, ◌++◌}
use native.Mathlib.Decide.{dec_lt}
use native.Mathlib.Omega.{arith}
use borrow.Author.Tests.{lt-ltb, le-ltb}
use lib.Dec.{T}
use lib.ListN.{length, take, drop, length-append, length-drop}
use Rattle.lists.proofs.Tests.{T_is, T_not_is, is_T}
use Rattle.fields.specs.Fields.{onto}
use Rattle.fields.specs.Output.{Writing, denied, writes, fitting, writing_number, writing_output}
use Rattle.fields.proofs.Seen.{onto_more}
use Rattle.tally.specs.declared.Tally.{Tally}
use Rattle.tally.specs.Sums.{largest, added, tallied}
use Rattle.tally.proofs.Sums.{Fits}
use Rattle.world.specs.World.{World, Event, refusal}
use Rattle.world.specs.History.{run, ever_settled}
use Rattle.state.specs.declared.State.{State}
use Rattle.state.specs.State.{world_of, state_holds, Sized}
use Rattle.state.proofs.Meaning.{world_flying}
use Rattle.step_rules.specs.Counting.{tallied_by}
use Rattle.step_rules.proofs.Bridge.{Good, is_step}
use Rattle.backlog_rules.specs.declared.Taken.{Taken}
use Rattle.backlog_rules.specs.declared.Answered.{Answered}
use Rattle.backlog_rules.specs.Answers.{turns, last_state, last_tally, tracing, answered_by}
use Rattle.backlog_rules.proofs.Laws.{good_state}
use Rattle.backlog_rules.proofs.Tracing.{turns_long, last_good}
use Rattle.backlog_rules.proofs.Answering as A
use Rattle.backlog_rules.proofs.Answering.{all_events, step_of, Answers, answers, as_backlog}
use Rattle.laws.specs.Flood.{only_notices}
use Rattle.laws.specs.Tallied.{ever_counted, tally_after}
use Rattle.laws.proofs.Tallies as Tallies
use Rattle.laws.proofs.Calls as C
use Rattle.step_counted.proofs.Runs.{Lent, LentCalls, one_lent, tally_is_history, lent_mean}
use Rattle.demands.specs.Calls.{TakesBacklog, RunsAnswered}
use Rattle.demands.specs.StateReasons as W
use Rattle.demands.specs.StateReasons.{GoodState, trace_size, Run}
use Rattle.demands.proofs.Written.{first_bytes}
use Rattle.demands.proofs.Runs.{accepted_of, lent_accepted, LentDiesOut, lent_dies_out}

-- ---- its numbers
module _ (s : State) (t : Tally) (events old : List ℕ) where
  abbrev wrote : Writing
  wrote = tracing s t events old

  long : length (turns s t events) ≡ trace_size events
  long = turns_long events s t (trace_size events / 3) (omega arith) (omega arith) ∙ omega arith

  run_writes : GoodState s → trace_size events ≤ length old → wrote ≡ writes (turns s t events)
  unfolding tracing fitting
  run_writes g h = simp (T_is (state_holds s) g, le-ltb (length old) (length (turns s t events)) (omega (arith, long)))

  why_run : {n : ℕ} → Run s events old n → writing_number wrote ≡ n
  unfolding tracing fitting
  why_run (W.eleven p) = simp (T_not_is (state_holds s) p)
  why_run (W.ten g h) = simp (T_is (state_holds s) g, lt-ltb (length old) (length (turns s t events)) (omega (arith, long)))
  why_run (W.taken g h) = ap writing_number (run_writes g h)

  run_why : Run s events old (writing_number wrote)
  run_why = go (state_holds s) refl (dec_lt (length old) (trace_size events))
    where
      is : {n : ℕ} → Run s events old n → Run s events old (writing_number wrote)
      is x = subst⁻¹ (Run s events old) (why_run x) x

      go : (b : Bool) → state_holds s ≡ b → Dec (length old < trace_size events) → Run s events old (writing_number wrote)
      go false p d = is (W.eleven (subst⁻¹ (λ (b : Bool). T (not b)) p tt))
      go true p (yes h) = is (W.ten (is_T _ p) h)
      go true p (no h) = is (W.taken (is_T _ p) (omega arith))

  answer_number : (w : Writing) → (answered_by w s t events).answer ≡ writing_number w
  answer_number (denied n) = refl
  answer_number (writes trace) = refl

-- ---- the calls one by one are a run of calls that are lent the tally
answers_lent : {s u : State} {t v : Tally} {es : List Event} {ns : List ℕ} → Answers s t es ns u v → LentCalls s t es u v
answers_lent A.none = C.none
answers_lent (A.more {s = s} {t = t} {e = e} p) =
    let r = step_of s e in
    let here : Lent s t e r.state (tallied_by r t) = record { answer = r; promised = refl; state = refl; tally = refl } in
    C.more here (answers_lent p)

-- what they leave in the trace for the event e, with ds before it: three numbers of the world that the state means
answers_told : {s u : State} {t v : Tally} (ds fs : List Event) (e : Event) (more : List ℕ) {ns : List ℕ}
    → Answers s t (ds ++ (e ∷ fs)) ns u v → Good s
    → take 3 (drop (3 * length ds) (ns ++ more))
    ≡ refusal (run (world_of s) ds) e ∷ length (run (world_of s) (ds ++ (e ∷ []))).letters ∷ (tally_after t (world_of s) (ds ++ (e ∷ []))
    ).settled ∷ []
unfolding run tally_after
answers_told {s} {t = t} [] fs e more (A.more p) g =
    let r = step_of s e in
    let i = is_step s e.kind e.a e.b g in
    let l = one_lent s t e r.state (tallied_by r t) g (record { answer = r; promised = refl; state = refl; tally = refl }) in
    let flying : r.state.flying ≡ length (world_of r.state).letters
    = sym (world_flying r.state i.good.sized i.good.holds) in
    λ k. i.number k ∷ (flying ∙ ap (λ (w : World). length w.letters) i.world) k ∷ (l.tally k).settled ∷ []
answers_told {s} {t = t} (d ∷ ds) fs e more (A.more {ns = ns} p) g =
    let r = step_of s d in
    let l = one_lent s t d r.state (tallied_by r t) g (record { answer = r; promised = refl; state = refl; tally = refl }) in
    let three : 3 * length (d ∷ ds) ≡ suc (suc (suc (3 * length ds))) = omega arith in
    ap (λ (k : ℕ). take 3 (drop k (r.answer ∷ r.state.flying ∷ (tallied_by r t).settled ∷ (ns ++ more)))) three
    ∙ answers_told {s = r.state} ds fs e more p l.fit
    ∙ ap₂ (λ (w : World) (x : Tally). refusal (run w ds) e ∷ length (run w (ds ++ (e ∷ []))).letters
    ∷ (tally_after x w (ds ++ (e ∷ []))).settled ∷ []) l.world l.tally

module _ (before : Tally) (s : State) (events old : List ℕ) (c : RunsAnswered before s events old) where
  abbrev es : List Event
  es = all_events events

  abbrev said : Writing
  said = tracing s before events old

  number : c.answer.answer ≡ writing_number said
  number = ap (λ (r : Answered). r.answer) c.promise ∙ answer_number s before events old said

  -- EACH NUMBER WHEN, AND ONLY WHEN, ITS REASON STANDS
  pub run_numbers : (n : ℕ) → (c.answer.answer ≡ n) ↔ Run s events old n
  run_numbers n = (
    (λ q. subst (Run s events old) (sym number ∙ q) (run_why s before events old)),
    (λ w. number ∙ why_run s before events old w),
  )

  -- the lent tally is left as the answer has it
  pub tally_answered : c.tally ≡ c.answer.tally
  tally_answered = c.promise_tally ∙ ap (λ (r : Answered). r.tally) (sym c.promise)

  -- a refused run touches nothing
  pub run_refused : (c.answer.answer ≡ 0 → ⊥) → (c.answer.state ≡ s) × ((c.tally ≡ before) × (c.trace ≡ old))
  run_refused h = go said refl
    where
      go : (w : Writing) → said ≡ w → (c.answer.state ≡ s) × ((c.tally ≡ before) × (c.trace ≡ old))
      go (denied n) e = (
        ap (λ (r : Answered). r.state) c.promise ∙ ap (λ (w : Writing). (answered_by w s before events).state) e,
        (
          c.promise_tally ∙ ap (λ (w : Writing). (answered_by w s before events).tally) e,
          c.promise_trace
              ∙ ap (λ (w : Writing). writing_output w old) e,
        ),
      )
      go (writes new) e = absurd (h (number ∙ ap writing_number e))

  -- ---- a run that is answered by 0. (11 is not 0: the state given is well formed.)
  module _ (q : c.answer.answer ≡ 0) where
    given : GoodState s × (trace_size events ≤ length old)
    given = go ((run_numbers 0).0 q) refl
      where
        go : {n : ℕ} → Run s events old n → n ≡ 0 → GoodState s × (trace_size events ≤ length old)
        go (W.eleven p) z = absurd (omega arith)
        go (W.ten g h) z = absurd (omega arith)
        go (W.taken g h) z = (g, h)

    written : said ≡ writes (turns s before events)
    written = run_writes s before events old given.0 given.1

    run_state : c.answer.state ≡ last_state s events
    run_state = ap (λ (r : Answered). r.state) c.promise ∙ ap (λ (w : Writing). (answered_by w s before events).state) written

    run_tally : c.tally ≡ last_tally s before events
    run_tally = c.promise_tally ∙ ap (λ (w : Writing). (answered_by w s before events).tally) written

    run_trace : c.trace ≡ onto (turns s before events) old
    run_trace = c.promise_trace ∙ ap (λ (w : Writing). writing_output w old) written

    parts : (take (trace_size events) c.trace ≡ turns s before events)
        × (drop (trace_size events) c.trace ≡ drop (trace_size events) old)
    parts = first_bytes old c.trace (turns s before events) (trace_size events) run_trace (sym (long s before events old))

    -- A LONGER TRACE KEEPS ITS TAIL
    pub run_tail : drop (trace_size events) c.trace ≡ drop (trace_size events) old
    run_tail = parts.1

    module _ (z : Sized s) where
      pub run_good : Good s
      run_good = record { sized = z; holds = given.0 }

      -- THE CALLS ONE BY ONE, over all events: what they leave in the trace, the state and the tally
      pub run_exact : Answers s before es (take (trace_size events) c.trace) c.answer.state c.tally
      run_exact =
          transport (λ i. Answers s before es (sym parts.0 i) (sym run_state i) (sym run_tally i)) (answers s before events run_good)

      -- a run of calls, all lent the same tally
      pub run_calls : LentCalls s before es c.answer.state c.tally
      run_calls = answers_lent run_exact

      -- the world that the rules leave after all events
      pub run_means : world_of c.answer.state ≡ run (world_of s) es
      run_means = lent_mean run_good run_calls

      -- THE TRACE. For each event "answer, letters in flight, notices settled so far": the rules' number in the world that those before it
      -- leave, the letters in the world after it, and the count lent with what was settled since
      pub run_told : Fits before → (ds fs : List Event) (e : Event) → es ≡ ds ++ (e ∷ fs)
          → take 3 (drop (3 * length ds) c.trace)
          ≡ refusal (run (world_of s) ds) e ∷ length (run (world_of s) (ds ++ (e ∷ []))).letters
          ∷ added before.settled (ever_settled (world_of s) (ds ++ (e ∷ []))) ∷ []
      run_told f ds fs e p =
          let w = world_of s in
          let is : Answers s before (ds ++ (e ∷ fs)) (turns s before events) (last_state s events) (last_tally s before events)
          = subst (λ (l : List Event). Answers s before l (turns s before events) (last_state s events) (last_tally s before events)) p
          (answers s before events run_good) in
          ap (λ (l : List ℕ). take 3 (drop (3 * length ds) l)) run_trace
          ∙ answers_told ds fs e (drop (length (turns s before events)) old) is run_good
          ∙ ap (λ (x : Tally). refusal (run w ds) e ∷ length (run w (ds ++ (e ∷ []))).letters ∷ x.settled ∷ [])
          (Tallies.tally_is_history before w (ds ++ (e ∷ [])) f)

      module _ (f : Fits before) where
        -- the tally before with what the events count
        pub run_history : c.tally ≡ tallied before (ever_counted (world_of s) es)
        run_history = tally_is_history run_good f run_calls

        -- where the tally's settled count does not reach its largest value, what is added to it is how many notices were settled
        pub run_settled : c.tally.settled < largest → c.tally.settled ≡ before.settled + ever_settled (world_of s) es
        run_settled h = omega (arith, ap (λ (t : Tally). t.settled) run_history)

        -- DEMAND 3, whatever is refused between the notices
        pub run_dies_out : T (only_notices (world_of s) (accepted_of (world_of s) es))
            → LentDiesOut s c.answer.state before c.tally (length (accepted_of (world_of s) es))
        run_dies_out o = lent_dies_out (accepted_of (world_of s) es) run_good f o (lent_accepted run_good run_calls)

    -- where the backlog's call takes every event, the run leaves the same state and the same tally
    pub run_as_backlog : (b : TakesBacklog before s events) → b.answer.answer ≡ 0
        → (c.answer.state ≡ b.answer.state) × (c.tally ≡ b.tally)
    run_as_backlog b z =
        let e : _ = good_state s before events given.0 in
        let same = as_backlog s before events (ap (λ (r : Taken). r.answer) (sym (b.promise ∙ e)) ∙ z) in (
          run_state ∙ same.0 ∙ ap (λ (r : Taken). r.state) (sym (b.promise ∙ e)),
          run_tally ∙ same.1 ∙ ap (λ (r : Taken). r.tally) (sym e) ∙ sym b.promise_tally,
        )

  -- WELL FORMED: the state that it hands back, whatever its number
  pub run_well : Good s → Good c.answer.state
  run_well g = subst⁻¹ (λ (r : Answered). Good r.state) c.promise (go said)
    where
      go : (w : Writing) → Good (answered_by w s before events).state
      go (denied n) = g
      go (writes trace) = last_good events s g

-- ---- TWO LISTS, whole events first: the second call is given what the first one left, and is lent the trace's rest
module _ (before : Tally) (s : State) (xs ys old : List ℕ) (n : ℕ) (l : length xs ≡ 3 * n) (c : RunsAnswered before s xs old)
    (q : c.answer.answer ≡ 0) (d : RunsAnswered c.tally c.answer.state ys (drop (3 * n) c.trace)) (p : d.answer.answer ≡ 0)
    (b : RunsAnswered before s (xs ++ ys) old) where
  size : trace_size xs ≡ 3 * n
  size = omega arith

  rest : drop (3 * n) c.trace ≡ drop (3 * n) old
  rest = subst (λ (k : ℕ). drop k c.trace ≡ drop k old) size (run_tail before s xs old c q)

  fits : trace_size (xs ++ ys) ≤ length old
  fits =
      omega (
        arith,
        (given before s xs old c q).1,
        (given c.tally c.answer.state ys (drop (3 * n) c.trace) d p).1,
        length-append xs ys,
        ap length rest,
        length-drop (3 * n) old,
      )

  zero : b.answer.answer ≡ 0
  zero = (run_numbers before s (xs ++ ys) old b 0).1 (W.taken (given before s xs old c q).0 fits)

  both : A.Joined s before xs ys
  both = A.run_joined s before xs ys n l

  same_state : b.answer.state ≡ d.answer.state
  same_state =
      run_state before s (xs ++ ys) old b zero ∙ both.state ∙ ap (λ (u : State). last_state u ys) (sym (run_state before s xs old c q))
      ∙ sym (run_state c.tally c.answer.state ys (drop (3 * n) c.trace) d p)

  same_tally : b.tally ≡ d.tally
  same_tally =
      run_tally before s (xs ++ ys) old b zero ∙ both.tally
      ∙ ap₂ (λ (u : State) (v : Tally). last_tally u v ys) (sym (run_state before s xs old c q)) (sym (run_tally before s xs old c q))
      ∙ sym (run_tally c.tally c.answer.state ys (drop (3 * n) c.trace) d p)

  same_trace : b.trace ≡ take (3 * n) c.trace ++ d.trace
  same_trace =
      let first = run_trace before s xs old c q in
      run_trace before s (xs ++ ys) old b zero ∙ ap (λ (k : List ℕ). onto k old) both.trace
      ∙ sym (onto_more (turns s before xs) (turns (last_state s xs) (last_tally s before xs) ys) old (3 * n) (long s before xs old ∙ size))
      ∙ (λ i. take (3 * n) (sym first i) ++ onto (turns (sym (run_state before s xs old c q) i) (sym (run_tally before s xs old c q) i) ys)
      (drop (3 * n) (sym first i)))
      ∙ ap (λ (k : List ℕ). take (3 * n) c.trace ++ k)
      (sym (run_trace c.tally c.answer.state ys (drop (3 * n) c.trace) d p))

  pub run_joined : (b.answer ≡ d.answer) × ((b.tally ≡ d.tally) × (b.trace ≡ take (3 * n) c.trace ++ d.trace))
  run_joined =
      let tally : b.answer.tally ≡ d.answer.tally
      = sym (tally_answered before s (xs ++ ys) old b) ∙ same_tally
      ∙ tally_answered c.tally c.answer.state ys (drop (3 * n) c.trace) d in
      ((λ i. record { answer = (zero ∙ sym p) i; tally = tally i; state = same_state i }), (same_tally, same_trace))
