-- The run with answers, from the place of a list that it has come to: after n events the trace has three numbers for each of them, and the
-- rest of the list is still to come. For a loop that counts the events.
use Prim.Native.Nat.{ℕ, ◌+◌, ◌*◌, ◌-◌, ◌≤◌, ◌<◌}
use mathlib.Core.Bool.{false}
use mathlib.Core.Path.{◌≡◌, refl, sym, ap, ap₂, ◌∙◌}
use mathlib.Core.List.{List, [], ◌∷◌, ◌++◌, append_assoc, append-nil}
use native.Mathlib.Omega.{arith}
use borrow.Author.Tests.{ne_eqb, lt-ltb, le-ltb}
use lib.Dec.{T}
use lib.ListN.{length, get_or, take, drop, length-append, take-append-drop}
use lib.Seq.{take_at, drop_at, drop-drop, length-take-le}
use Rattle.lists.proofs.Tests.{T_is}
use Rattle.tally.specs.declared.Tally.{Tally}
use Rattle.fields.specs.Output.{fitting, writing_output}
use Rattle.text.specs.Text.{put_at}
use Rattle.text.proofs.Puts.{put_fits, length_put}
use Rattle.station.specs.Events.{due_of}
use Rattle.world.specs.World.{World, exists, comes, refusal}
use Rattle.state.specs.declared.State.{State}
use Rattle.state.specs.State.{world_of, state_holds}
use Rattle.step_rules.specs.declared.Stepped.{Stepped}
use Rattle.step_rules.specs.Step.{event, number_of, stepped_of}
use Rattle.step_rules.specs.Counting.{tallied_by}
use Rattle.step_rules.proofs.Bridge.{Good, is_step}
use Rattle.backlog_rules.specs.declared.Answered.{Answered}
use Rattle.backlog_rules.specs.Answers.{turn_of, turns, last_state, last_tally, RanThrough, tracing, answered_by}
use Rattle.backlog_rules.proofs.Threes.{three, none_left, Over, one, two, left_over}

-- a refusal touches no tally
pub refusal_counts_nothing : (r : Stepped) (t : Tally) → (r.answer ≡ 0 → ⊥) → t ≡ tallied_by r t
refusal_counts_nothing r t h = simp (ne_eqb r.answer 0 h)

-- there is no kind 0: an event of that kind is refused as 6
pub no_kind : (w : World) (a b : ℕ) → refusal w (event 0 a b) ≡ 6
unfolding refusal exists comes due_of
no_kind w a b = refl

pub names_nothing : (s : State) (a b : ℕ) → T (state_holds s) → (stepped_of s 0 a b).answer ≡ 6
unfolding stepped_of number_of
names_nothing s a b h = simp (T_is (state_holds s) h, no_kind (world_of s) a b)

-- after n events of the list, with this state and this tally
pub record Traced (es : List ℕ) (s₀ : State) (t₀ : Tally) (old : List ℕ) (s : State) (t : Tally) (n : ℕ) (trace : List ℕ) : Type 0 where
  pub state : last_state s₀ es ≡ last_state s (drop (3 * n) es)
  pub tally : last_tally s₀ t₀ es ≡ last_tally s t (drop (3 * n) es)
  pub so_far : turns s₀ t₀ es ≡ take (3 * n) trace ++ turns s t (drop (3 * n) es)
  pub tail : drop (3 * n) trace ≡ drop (3 * n) old
  pub size : length trace ≡ length old

pub trace_begins : (es : List ℕ) (s : State) (t : Tally) (old : List ℕ) → Traced es s t old s t 0 old
trace_begins es s t old = record { state = refl; tally = refl; so_far = refl; tail = refl; size = refl }

-- what is to come, where one event more is done
record Next (rest later : List ℕ) (s : State) (t : Tally) (n : ℕ) (s' : State) (t' : Tally) : Type 0 where
  state : last_state s rest ≡ last_state s' later
  tally : last_tally s t rest ≡ last_tally s' t' later
  turn : turns s t rest ≡ turn_of n t' s' ++ turns s' t' later

module _ (es : List ℕ) (s₀ : State) (t₀ : Tally) (old : List ℕ) (s : State) (t : Tally) (n : ℕ) (trace : List ℕ)
    (c : Traced es s₀ t₀ old s t n trace) (room : 3 * n + 3 ≤ length old) where
  goes : (m : ℕ) (s' : State) (t' : Tally) (new : List ℕ) → new ≡ put_at (turn_of m t' s') (3 * n) trace
      → Next (drop (3 * n) es) (drop (3 * (n + 1)) es) s t m s' t' → Traced es s₀ t₀ old s' t' (n + 1) new
  goes m s' t' new e x =
      let words = turn_of m t' s' in
      let fits : 3 * n + 3 ≤ length trace = omega (arith, c.size) in
      let is : new ≡ (take (3 * n) trace ++ words) ++ drop (3 * n + 3) trace = e ∙ put_fits words (3 * n) trace fits in
      let front : length (take (3 * n) trace ++ words) ≡ 3 * (n + 1) =
      length-append (take (3 * n) trace) words ∙ omega (arith, length-take-le (3 * n) trace (omega arith)) in
      let behind : 3 * n + 3 ≡ 3 * (n + 1) = omega arith in
      record {
        state = c.state ∙ x.state;
        tally = c.tally ∙ x.tally;
        so_far =
            c.so_far ∙ ap (λ (l : List ℕ). take (3 * n) trace ++ l) x.turn
            ∙ sym (append_assoc (take (3 * n) trace) words (turns s' t' (drop (3 * (n + 1)) es)))
            ∙ ap (λ (l : List ℕ). l ++ turns s' t' (drop (3 * (n + 1)) es))
            (sym (ap (take (3 * (n + 1))) is
            ∙ take_at (take (3 * n) trace ++ words) (drop (3 * n + 3) trace) (3 * (n + 1)) front));
        tail =
            ap (drop (3 * (n + 1))) is ∙ drop_at (take (3 * n) trace ++ words) (drop (3 * n + 3) trace) (3 * (n + 1)) front
            ∙ sym (drop-drop 3 (3 * n) trace) ∙ ap (drop 3) c.tail ∙ drop-drop 3 (3 * n) old ∙ ap (λ (k : ℕ). drop k old) behind;
        size = ap length e ∙ length_put words (3 * n) trace ∙ c.size;
      }

  -- an event of three numbers: the step that it comes to
  pub trace_more : (kind a b : ℕ) → 3 * n + 3 ≤ length es → kind ≡ get_or es (3 * n) 0 → a ≡ get_or es (3 * n + 1) 0
      → b ≡ get_or es (3 * n + 2) 0 → (r : Stepped) → r ≡ stepped_of s kind a b → (u : Tally) → u ≡ tallied_by r t
      → (new : List ℕ) → new ≡ put_at (turn_of r.answer u r.state) (3 * n) trace
      → Traced es s₀ t₀ old r.state u (n + 1) new
  unfolding turns last_state last_tally
  trace_more kind a b i k₀ a₀ b₀ r e u q new w =
      let later = drop (3 * (n + 1)) es in
      let here : drop (3 * n) es ≡ kind ∷ a ∷ b ∷ later = three es n i ∙ (λ j. sym k₀ j ∷ sym a₀ j ∷ sym b₀ j ∷ later) in
      let counts : tallied_by (stepped_of s kind a b) t ≡ u = ap (λ (x : Stepped). tallied_by x t) (sym e) ∙ sym q in
      goes r.answer r.state u new w
      (record {
        state = ap (last_state s) here ∙ ap (λ (x : Stepped). last_state x.state later) (sym e);
        tally = ap (last_tally s t) here ∙ ap₂ (λ (x : Stepped) (v : Tally). last_tally x.state v later) (sym e) counts;
        turn =
            ap (turns s t) here
            ∙ ap₂ (λ (x : Stepped) (v : Tally). turn_of x.answer v x.state ++ turns x.state v later) (sym e) counts;
      })

  over_turn : {rest : List ℕ} → Over rest → Next rest [] s t 6 s t
  unfolding turns last_state last_tally
  over_turn (one x) = record { state = refl; tally = refl; turn = refl }
  over_turn (two x y) = record { state = refl; tally = refl; turn = refl }

  -- one or two numbers left over
  pub trace_over : 3 * n < length es → length es < 3 * n + 3 → (new : List ℕ) → new ≡ put_at (turn_of 6 t s) (3 * n) trace
      → Traced es s₀ t₀ old s t (n + 1) new
  trace_over h l new w =
      let x = over_turn (left_over es n h l) in
      let none : [] ≡ drop (3 * (n + 1)) es = sym (none_left es (n + 1) (omega arith)) in
      goes 6 s t new w
      (record {
        state = x.state ∙ ap (last_state s) none;
        tally = x.tally ∙ ap (last_tally s t) none;
        turn = x.turn ∙ ap (λ (later : List ℕ). turn_of 6 t s ++ turns s t later) none;
      })

-- ---- the end of the list
pub trace_ends : (es : List ℕ) (s₀ : State) (t₀ : Tally) (old : List ℕ) (s : State) (t : Tally) (n : ℕ) (trace : List ℕ)
    → Traced es s₀ t₀ old s t n trace → length es ≤ 3 * n → 3 * n ≤ length old → RanThrough es s₀ t₀ old s t trace
unfolding turns last_state last_tally
trace_ends es s₀ t₀ old s t n trace c h room =
    let none : drop (3 * n) es ≡ [] = none_left es n h in
    let all : turns s₀ t₀ es ≡ take (3 * n) trace =
    c.so_far ∙ ap (λ (l : List ℕ). take (3 * n) trace ++ turns s t l) none ∙ append-nil (take (3 * n) trace) in
    let long : length (turns s₀ t₀ es) ≡ 3 * n = ap length all ∙ length-take-le (3 * n) trace (omega (arith, c.size)) in
    record {
      state = sym (c.state ∙ ap (last_state s) none);
      tally = sym (c.tally ∙ ap (last_tally s t) none);
      output =
          sym (take-append-drop (3 * n) trace)
          ∙ ap₂ (λ (x y : List ℕ). x ++ y) (sym all) (c.tail ∙ ap (λ (k : ℕ). drop k old) (sym long));
    }

-- how long the trace is: three numbers an event, where so many events are in the list
pub turns_long : (es : List ℕ) (s : State) (t : Tally) (n : ℕ) → length es ≤ 3 * n → 3 * n < length es + 3 → length (turns s t es) ≡ 3 * n
unfolding turns
turns_long [] s t n h l = omega arith
turns_long (x ∷ []) s t n h l = omega arith
turns_long (x ∷ y ∷ []) s t n h l = omega arith
turns_long (kind ∷ a ∷ b ∷ es) s t n h l =
    let r = stepped_of s kind a b in
    let rest = turns_long es r.state (tallied_by r t) (n - 1) (omega arith) (omega arith) in
    omega (arith, rest)

-- ---- the call: what each way out of it gives
module _ (s : State) (t : Tally) (es old : List ℕ) where
  abbrev pub RunAnswers : Answered → List ℕ → Type 0
  RunAnswers r new = (r ≡ answered_by (tracing s t es old) s t es) × (new ≡ writing_output (tracing s t es old) old)

  -- the state is not well formed
  pub answers_bad : state_holds s ≡ false → RunAnswers (record { answer = 11; tally = t; state = s }) old
  unfolding tracing
  answers_bad e = rw e (refl, refl)

  module _ (n : ℕ) (covers : length es ≤ 3 * n) (tight : 3 * n < length es + 3) (h : T (state_holds s)) where
    -- the trace is too short
    pub answers_short : length old < 3 * n → RunAnswers (record { answer = 10; tally = t; state = s }) old
    unfolding tracing fitting
    answers_short l =
        simp (T_is (state_holds s) h, lt-ltb (length old) (length (turns s t es)) (omega (arith, turns_long es s t n covers tight)))
        (refl, refl)

    -- all events are done
    pub answers_all : 3 * n ≤ length old → (after : State) (sums : Tally) (new : List ℕ) → RanThrough es s t old after sums new
        → RunAnswers (record { answer = 0; tally = sums; state = after }) new
    unfolding tracing fitting
    answers_all l after sums new r =
        simp (T_is (state_holds s) h, le-ltb (length old) (length (turns s t es)) (omega (arith, turns_long es s t n covers tight)))
        ((λ i. record { answer = 0; tally = r.tally i; state = r.state i }), r.output)

-- ---- well formed: the state after all events
pub last_good : (es : List ℕ) (s : State) → Good s → Good (last_state s es)
unfolding last_state
last_good [] s g = g
last_good (x ∷ []) s g = g
last_good (x ∷ y ∷ []) s g = g
last_good (kind ∷ a ∷ b ∷ es) s g = last_good es (stepped_of s kind a b).state (is_step s kind a b g).good
