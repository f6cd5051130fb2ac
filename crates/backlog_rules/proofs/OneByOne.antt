-- The call over many events is the calls of the step one by one: in the state, the tally, the number, and how many. What follows the
-- events taken; what a refusal keeps; and the world that the state after them means, by the rules. That these are runs of calls, with
-- all that holds of such, is said in demands/proofs/Backlogs.antt.
use Prim.Native.Nat.{ℕ, suc, ◌+◌, ◌*◌}
use mathlib.Core.Bool.{Bool, true, false}
use mathlib.Core.Path.{◌≡◌, refl, sym, ap, ◌∙◌, subst, subst⁻¹}
use mathlib.Core.List.{List, [], ◌∷◌, ◌++◌}
use native.Mathlib.Omega.{arith}
use lib.Dec.{T}
use lib.ListN.{length, take, drop}
use Rattle.lists.proofs.Tests.{is_T}
use Rattle.tally.specs.declared.Tally.{Tally}
use Rattle.world.specs.World.{World, Event, refusal}
use Rattle.world.specs.History.{run}
use Rattle.state.specs.declared.State.{State}
use Rattle.state.specs.State.{world_of, state_holds}
use Rattle.step_rules.specs.Step.{event, stepped_of}
use Rattle.step_rules.specs.Counting.{tallied_by}
use Rattle.step_rules.proofs.Bridge.{Good, is_step}
use Rattle.backlog_rules.specs.declared.Taken.{Taken}
use Rattle.backlog_rules.specs.Backlog.{and_before, calls, backlog_of}
use Rattle.backlog_rules.proofs.Laws.{bad_state, good_state}
use Rattle.backlog_rules.proofs.Threes.{stopped_at}
use Rattle.backlog_rules.proofs.Joining as J
use Rattle.backlog_rules.proofs.Joining.{Course, course, by_taken, by_refused}

-- ---- the events of a list of numbers, three each; one or two left over are none
unfoldable pub events_of : List ℕ → List Event
events_of [] = []
events_of (kind ∷ []) = []
events_of (kind ∷ a ∷ []) = []
events_of (kind ∷ a ∷ b ∷ rest) = event kind a b ∷ events_of rest

-- the events taken: as many of them, from the first on, as the answer says
abbrev pub taken_by : Taken → List ℕ → List Event
taken_by r xs = take r.taken (events_of xs)

-- calls of the step one by one, for these events, from one state and tally to another: each answers 0, is given the state that the one
-- before it handed back, and is lent the same tally
pub data Takes : State → Tally → List Event → State → Tally → Type 0 where
  none : {s : State} {t : Tally} → Takes s t [] s t
  more : {s u : State} {t v : Tally} {e : Event} {es : List Event} → (stepped_of s e.kind e.a e.b).answer ≡ 0
      → Takes (stepped_of s e.kind e.a e.b).state (tallied_by (stepped_of s e.kind e.a e.b) t) es u v
      → Takes s t (e ∷ es) u v

-- why it ended, by the numbers that follow those of the events taken: there are none; or one or two, which is 6; or an event that the
-- next call, on the state as it stands, refuses with that number
pub data Follows (r : Taken) : List ℕ → Type 0 where
  nothing : r.answer ≡ 0 → Follows r []
  one_over : {x : ℕ} → r.answer ≡ 6 → Follows r (x ∷ [])
  two_over : {x y : ℕ} → r.answer ≡ 6 → Follows r (x ∷ y ∷ [])
  refused : {kind a b : ℕ} {rest : List ℕ} → (r.answer ≡ 0 → ⊥) → r.answer ≡ (stepped_of r.state kind a b).answer
      → Follows r (kind ∷ a ∷ b ∷ rest)

-- what is claimed of an answer
pub record OneByOne (s : State) (t : Tally) (xs : List ℕ) (r : Taken) : Type 0 where
  pub takes : Takes s t (taken_by r xs) r.state r.tally
  pub many : length (taken_by r xs) ≡ r.taken
  -- where the answer is 0 these are all, and nothing is left: three numbers for each
  pub all : r.answer ≡ 0 → taken_by r xs ≡ events_of xs
  pub whole : r.answer ≡ 0 → length xs ≡ 3 * r.taken
  pub follows : Follows r (drop (3 * r.taken) xs)
  -- the numbers of the events taken, alone, are taken whole, and leave the same
  pub kept : calls s t (take (3 * r.taken) xs) ≡ stopped_at 0 r.taken r.tally r.state

-- one event more
take_one : {A : Type 0} (n : ℕ) (x : A) (l : List A) → take (1 + n) (x ∷ l) ≡ x ∷ take n l
take_one n x l = ap (λ (k : ℕ). take k (x ∷ l)) one
  where
    one : 1 + n ≡ suc n
    one = omega arith

take_three : (n x y z : ℕ) (l : List ℕ) → take (3 * (1 + n)) (x ∷ y ∷ z ∷ l) ≡ x ∷ y ∷ z ∷ take (3 * n) l
take_three n x y z l = ap (λ (k : ℕ). take k (x ∷ y ∷ z ∷ l)) three
  where
    three : 3 * (1 + n) ≡ suc (suc (suc (3 * n)))
    three = omega arith

drop_three : (n x y z : ℕ) (l : List ℕ) → drop (3 * (1 + n)) (x ∷ y ∷ z ∷ l) ≡ drop (3 * n) l
drop_three n x y z l = ap (λ (k : ℕ). drop k (x ∷ y ∷ z ∷ l)) three
  where
    three : 3 * (1 + n) ≡ suc (suc (suc (3 * n)))
    three = omega arith

follows_before : {r : Taken} {rest : List ℕ} → Follows r rest → Follows (and_before 1 r) rest
follows_before (nothing z) = nothing z
follows_before (one_over z) = one_over z
follows_before (two_over z) = two_over z
follows_before (refused n e) = refused n e

module _ (s : State) (t : Tally) (kind a b : ℕ) (es : List ℕ) (z : (stepped_of s kind a b).answer ≡ 0) where
  abbrev next_state : State
  next_state = (stepped_of s kind a b).state

  abbrev next_tally : Tally
  next_tally = tallied_by (stepped_of s kind a b) t

  one_before : {r : Taken} → OneByOne next_state next_tally es r → OneByOne s t (kind ∷ a ∷ b ∷ es) (and_before 1 r)
  unfolding events_of
  one_before {r} o =
      let first = take_one r.taken (event kind a b) (events_of es) in
      record {
        takes = subst⁻¹ (λ (l : List Event). Takes s t l r.state r.tally) first (more z o.takes);
        many = ap length first ∙ omega (arith, o.many);
        all = λ q. first ∙ ap (λ (l : List Event). event kind a b ∷ l) (o.all q);
        whole = λ q. omega (arith, o.whole q);
        follows = subst⁻¹ (Follows (and_before 1 r)) (drop_three r.taken kind a b es) (follows_before o.follows);
        kept = ap (calls s t) (take_three r.taken kind a b es) ∙ by_taken s t kind a b (take (3 * r.taken) es) z
            ∙ ap (and_before 1) o.kept;
      }

six : ◌≡◌ {A = ℕ} 6 0 → ⊥
six z = omega arith

goes : {s : State} {t : Tally} {xs : List ℕ} → Course s t xs → OneByOne s t xs (calls s t xs)
unfolding calls events_of
goes J.none = record { takes = none; many = refl; all = λ z. refl; whole = λ z. refl; follows = nothing refl; kept = refl }
goes J.one_over = record { takes = none; many = refl; all = λ z. refl; whole = λ z. absurd (six z); follows = one_over refl; kept = refl }
goes J.two_over = record { takes = none; many = refl; all = λ z. refl; whole = λ z. absurd (six z); follows = two_over refl; kept = refl }
goes {s} {t} (J.stop kind a b es n) =
    subst⁻¹ (OneByOne s t (kind ∷ a ∷ b ∷ es)) (by_refused s t kind a b es n)
    (record { takes = none; many = refl; all = λ z. absurd (n z); whole = λ z. absurd (n z); follows = refused n refl; kept = refl })
goes {s} {t} (J.more kind a b es z c) =
    subst⁻¹ (OneByOne s t (kind ∷ a ∷ b ∷ es)) (by_taken s t kind a b es z) (one_before s t kind a b es z (goes c))

-- THE CALLS ONE BY ONE: for every state that is well formed by its own test, and every list.
pub one_by_one : (s : State) (t : Tally) (xs : List ℕ) → T (state_holds s) → OneByOne s t xs (backlog_of s t xs)
one_by_one s t xs h = subst⁻¹ (OneByOne s t xs) (good_state s t xs h) (goes (course s t xs))

module _ (s : State) (t : Tally) (xs : List ℕ) where
  abbrev r : Taken
  r = backlog_of s t xs

  -- WHAT A REFUSAL KEEPS: the state and the tally after the events taken. Their numbers alone are taken whole, and leave the same.
  pub keeps : T (state_holds s) → backlog_of s t (take (3 * r.taken) xs) ≡ stopped_at 0 r.taken r.tally r.state
  keeps h = good_state s t (take (3 * r.taken) xs) h ∙ (one_by_one s t xs h).kept

  -- NOTHING IS LEFT where the answer is 0, whatever the state: 11 is not 0
  pub whole_taken : r.answer ≡ 0 → length xs ≡ 3 * r.taken
  whole_taken z = go (state_holds s) refl
    where
      eleven : ◌≡◌ {A = ℕ} 11 0 → ⊥
      eleven z = omega arith

      go : (b : Bool) → state_holds s ≡ b → length xs ≡ 3 * r.taken
      go true e = (one_by_one s t xs (is_T (state_holds s) e)).whole z
      go false e = absurd (eleven (sym (ap (λ (x : Taken). x.answer) (bad_state s t xs e)) ∙ z))

-- ---- in the world that the state means
takes_mean : {s u : State} {t v : Tally} {es : List Event} → Takes s t es u v → Good s → world_of u ≡ run (world_of s) es
unfolding run
takes_mean none g = refl
takes_mean (more {s = s} {e = e} {es = es} z p) g =
    let i = is_step s e.kind e.a e.b g in
    takes_mean p i.good ∙ ap (λ (w : World). run w es) i.world

takes_accepted : {s u : State} {t v : Tally} (ds fs : List Event) (e : Event) → Takes s t (ds ++ (e ∷ fs)) u v → Good s
    → refusal (run (world_of s) ds) e ≡ 0
unfolding run
takes_accepted {s} [] fs e (more z p) g = sym (is_step s e.kind e.a e.b g).number ∙ z
takes_accepted {s} (d ∷ ds) fs e (more z p) g =
    let i = is_step s d.kind d.a d.b g in
    ap (λ (w : World). refusal (run w ds) e) (sym i.world) ∙ takes_accepted {s = (stepped_of s d.kind d.a d.b).state} ds fs e p i.good

module _ (s : State) (t : Tally) (xs : List ℕ) (g : Good s) where
  abbrev R : Taken
  R = backlog_of s t xs

  -- DEMAND 2 OVER THE EVENTS TAKEN: the state after them means the world that the rules leave,
  pub backlog_means : world_of R.state ≡ run (world_of s) (taken_by R xs)
  backlog_means = takes_mean (one_by_one s t xs g.holds).takes g

  -- and the rules accept each of them, in the world that those before it leave
  pub each_accepted : (ds fs : List Event) (e : Event) → taken_by R xs ≡ ds ++ (e ∷ fs) → refusal (run (world_of s) ds) e ≡ 0
  each_accepted ds fs e q =
      let p : Takes s t (ds ++ (e ∷ fs)) R.state R.tally =
      subst (λ (l : List Event). Takes s t l R.state R.tally) q (one_by_one s t xs g.holds).takes in
      takes_accepted ds fs e p g

-- two answers that are allowed for one input are equal
pub backlog_unique : (s : State) (t : Tally) (xs : List ℕ) (q r : Taken) → q ≡ backlog_of s t xs → r ≡ backlog_of s t xs → q ≡ r
backlog_unique s t xs q r p z = p ∙ sym z
