-- The run with answers is the calls of the step one by one, over all events of its list: each given the state that the one before it
-- handed back and lent the same tally, whatever it answered. What a refused event leaves; two lists in one call; and where no event is
-- refused, what the backlog's call leaves. From the place of a list that a loop has come to, and that the state stays well formed:
-- Tracing.antt. In the world that the state means, and with all that holds of runs of calls: demands/proofs/AnsweredRuns.antt.
use Prim.Native.Nat.{ℕ, ◌*◌, ◌-◌}
use mathlib.Core.Path.{◌≡◌, refl, sym, ap, ap₂, ◌∙◌, transport}
use mathlib.Core.List.{List, [], ◌∷◌, ◌++◌}
use native.Mathlib.Omega.{arith}
use lib.ListN.{length}
use Rattle.tally.specs.declared.Tally.{Tally}
use Rattle.world.specs.World.{Event}
use Rattle.state.specs.declared.State.{State}
use Rattle.step_rules.specs.declared.Stepped.{Stepped}
use Rattle.step_rules.specs.Step.{event, stepped_of}
use Rattle.step_rules.specs.Counting.{tallied_by}
use Rattle.step_rules.proofs.Bridge.{Good, is_step}
use Rattle.backlog_rules.specs.declared.Taken.{Taken}
use Rattle.backlog_rules.specs.Backlog.{calls}
use Rattle.backlog_rules.specs.Answers.{turn_of, turns, last_state, last_tally}
use Rattle.backlog_rules.proofs.Tracing.{refusal_counts_nothing, names_nothing}
use Rattle.backlog_rules.proofs.Joining as J
use Rattle.backlog_rules.proofs.Joining.{Course, course, by_taken, by_refused}
use Rattle.backlog_rules.proofs.OneByOne.{events_of}

-- ---- all events of a list of numbers, three each; "one or two left over count as an event refused as 6": it is of no kind
abbrev pub no_kind : Event
no_kind = event 0 0 0

unfoldable pub all_events : List ℕ → List Event
all_events [] = []
all_events (x ∷ []) = no_kind ∷ []
all_events (x ∷ y ∷ []) = no_kind ∷ []
all_events (kind ∷ a ∷ b ∷ rest) = event kind a b ∷ all_events rest

-- where none is left over these are the list's events
pub all_whole : (xs : List ℕ) (n : ℕ) → length xs ≡ 3 * n → all_events xs ≡ events_of xs
unfolding all_events events_of
all_whole [] n l = refl
all_whole (x ∷ []) n l = absurd (omega arith)
all_whole (x ∷ y ∷ []) n l = absurd (omega arith)
all_whole (kind ∷ a ∷ b ∷ xs) n l = ap (λ (es : List Event). event kind a b ∷ es) (all_whole xs (n - 1) (omega arith))

-- ---- the calls one by one
abbrev pub step_of : State → Event → Stepped
step_of s e = stepped_of s e.kind e.a e.b

-- calls of the step one by one, for these events, from one state and tally to another, whatever each answers, with what they leave in the
-- trace: each is given the state that the one before it handed back, and is lent the same tally
pub data Answers : State → Tally → List Event → List ℕ → State → Tally → Type 0 where
  none : {s : State} {t : Tally} → Answers s t [] [] s t
  more : {s u : State} {t v : Tally} {e : Event} {es : List Event} {ns : List ℕ}
      → Answers (step_of s e).state (tallied_by (step_of s e) t) es ns u v
      → Answers s t (e ∷ es) (turn_of (step_of s e).answer (tallied_by (step_of s e) t) (step_of s e).state ++ ns) u v

-- a refused step leaves the state and the tally as they stand
module _ (s : State) (t : Tally) (e : Event) (g : Good s) (n : (step_of s e).answer ≡ 0 → ⊥) where
  same_state : (step_of s e).state ≡ s
  same_state = (is_step s e.kind e.a e.b g).refused_same n

  same_tally : tallied_by (step_of s e) t ≡ t
  same_tally = sym (refusal_counts_nothing (step_of s e) t n)

-- so does one of no kind, refused as 6
over : (s : State) (t : Tally) → Good s → Answers s t (no_kind ∷ []) (turn_of 6 t s) s t
over s t g =
    let six : (step_of s no_kind).answer ≡ 6 = names_nothing s 0 0 g.holds in
    let refused : (step_of s no_kind).answer ≡ 0 → ⊥ = λ z. omega arith in
    let u = same_state s t no_kind g refused in
    let v = same_tally s t no_kind g refused in
    transport (λ i. Answers s t (no_kind ∷ []) (turn_of (six i) (v i) (u i)) (u i) (v i)) (more none)

-- THE RUN IS THE CALLS ONE BY ONE: its trace, its state and its tally are what these answer,
pub answers : (s : State) (t : Tally) (xs : List ℕ) → Good s → Answers s t (all_events xs) (turns s t xs) (last_state s xs) (last_tally s t xs)
unfolding all_events turns last_state last_tally
answers s t [] g = none
answers s t (x ∷ []) g = over s t g
answers s t (x ∷ y ∷ []) g = over s t g
answers s t (kind ∷ a ∷ b ∷ xs) g =
    more (answers (stepped_of s kind a b).state (tallied_by (stepped_of s kind a b) t) xs (is_step s kind a b g).good)

-- and nothing else is
pub answers_once : {s u w : State} {t v x : Tally} {es : List Event} {ns ms : List ℕ} → Answers s t es ns u v → Answers s t es ms w x
    → (ns ≡ ms) × ((u ≡ w) × (v ≡ x))
answers_once none none = (refl, (refl, refl))
answers_once {s} {t = t} (more {e = e} p) (more q) =
    let r = answers_once p q in
    (ap (λ (l : List ℕ). turn_of (step_of s e).answer (tallied_by (step_of s e) t) (step_of s e).state ++ l) r.0, r.1)

-- ---- A REFUSED EVENT changes nothing: its number and the two standing numbers are told, and the run goes on from the same state and tally
module _ (s : State) (t : Tally) (kind a b : ℕ) (xs : List ℕ) (g : Good s) (n : (stepped_of s kind a b).answer ≡ 0 → ⊥) where
  abbrev e : Event
  e = event kind a b

  pub refused_turn : turns s t (kind ∷ a ∷ b ∷ xs) ≡ turn_of (stepped_of s kind a b).answer t s ++ turns s t xs
  unfolding turns
  refused_turn =
      ap₂ (λ (u : State) (v : Tally). turn_of (stepped_of s kind a b).answer v u ++ turns u v xs) (same_state s t e g n)
      (same_tally s t e g n)

  pub refused_state : last_state s (kind ∷ a ∷ b ∷ xs) ≡ last_state s xs
  unfolding last_state
  refused_state = ap (λ (u : State). last_state u xs) (same_state s t e g n)

  pub refused_tally : last_tally s t (kind ∷ a ∷ b ∷ xs) ≡ last_tally s t xs
  unfolding last_tally
  refused_tally = ap₂ (λ (u : State) (v : Tally). last_tally u v xs) (same_state s t e g n) (same_tally s t e g n)

-- ---- TWO LISTS IN ONE CALL: whole events, then any list. The second goes on from what the first left, and its trace stands behind
pub record Joined (s : State) (t : Tally) (xs ys : List ℕ) : Type 0 where
  pub trace : turns s t (xs ++ ys) ≡ turns s t xs ++ turns (last_state s xs) (last_tally s t xs) ys
  pub state : last_state s (xs ++ ys) ≡ last_state (last_state s xs) ys
  pub tally : last_tally s t (xs ++ ys) ≡ last_tally (last_state s xs) (last_tally s t xs) ys

pub run_joined : (s : State) (t : Tally) (xs ys : List ℕ) (n : ℕ) → length xs ≡ 3 * n → Joined s t xs ys
unfolding turns last_state last_tally
run_joined s t [] ys n l = record { trace = refl; state = refl; tally = refl }
run_joined s t (x ∷ []) ys n l = absurd (omega arith)
run_joined s t (x ∷ y ∷ []) ys n l = absurd (omega arith)
run_joined s t (kind ∷ a ∷ b ∷ xs) ys n l =
    let r = stepped_of s kind a b in
    let j = run_joined r.state (tallied_by r t) xs ys (n - 1) (omega arith) in
    record {
      trace = ap (λ (l : List ℕ). turn_of r.answer (tallied_by r t) r.state ++ l) j.trace;
      state = j.state;
      tally = j.tally;
    }

-- ---- WHERE EVERY EVENT IS TAKEN the run leaves what the backlog's call does
six : ◌≡◌ {A = ℕ} 6 0 → ⊥
six z = omega arith

takes_all : {s : State} {t : Tally} {xs : List ℕ} → Course s t xs → (calls s t xs).answer ≡ 0
    → (last_state s xs ≡ (calls s t xs).state) × (last_tally s t xs ≡ (calls s t xs).tally)
unfolding calls last_state last_tally
takes_all J.none z = (refl, refl)
takes_all J.one_over z = absurd (six z)
takes_all J.two_over z = absurd (six z)
takes_all {s} {t} (J.stop kind a b es n) z = absurd (n (ap (λ (r : Taken). r.answer) (sym (by_refused s t kind a b es n)) ∙ z))
takes_all {s} {t} (J.more kind a b es q c) z =
    let here = by_taken s t kind a b es q in
    let r = takes_all c (ap (λ (r : Taken). r.answer) (sym here) ∙ z) in
    (r.0 ∙ ap (λ (r : Taken). r.state) (sym here), r.1 ∙ ap (λ (r : Taken). r.tally) (sym here))

pub as_backlog : (s : State) (t : Tally) (xs : List ℕ) → (calls s t xs).answer ≡ 0
    → (last_state s xs ≡ (calls s t xs).state) × (last_tally s t xs ≡ (calls s t xs).tally)
as_backlog s t xs z = takes_all (course s t xs) z
