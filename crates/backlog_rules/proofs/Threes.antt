-- The calls one by one, from the place of a list that they have come to: after n events, three numbers each, the rest of the list is still
-- to come. For a loop that counts the events taken.
use Prim.Native.Nat.{ℕ, ◌+◌, ◌*◌, ◌≤◌, ◌<◌}
use mathlib.Core.Path.{◌≡◌, refl, sym, ap, ◌∙◌}
use mathlib.Core.List.{List, [], ◌∷◌}
use native.Mathlib.Numerals.{add-one}
use native.Mathlib.Omega.{arith}
use lib.ListN.{length, get_or, drop, length-drop}
use lib.Seq.{drop-cons}
use Rattle.tally.specs.declared.Tally.{Tally}
use Rattle.state.specs.declared.State.{State}
use Rattle.step_rules.specs.declared.Stepped.{Stepped}
use Rattle.step_rules.specs.Step.{stepped_of}
use Rattle.step_rules.specs.Counting.{tallied_by}
use Rattle.backlog_rules.specs.declared.Taken.{Taken}
use Rattle.backlog_rules.specs.Backlog.{stopping, and_before, calls}
use Rattle.backlog_rules.proofs.Laws.{before_more, one_taken, one_refused, at_the_end, one_left_over, two_left_over}

-- what is left from a place on, by its first number
first_left_lem : (es : List ℕ) (i j : ℕ) → i < length es → j ≡ i + 1 → drop i es ≡ get_or es i 0 ∷ drop j es
first_left_lem es i j h e = drop-cons es i 0 h ∙ ap (λ (m : ℕ). get_or es i 0 ∷ drop m es) (sym (e ∙ add-one i))

-- the three numbers of event n stand first in what is left after n events
pub three : (es : List ℕ) (n : ℕ) → 3 * n + 3 ≤ length es
    → drop (3 * n) es ≡ get_or es (3 * n) 0 ∷ get_or es (3 * n + 1) 0 ∷ get_or es (3 * n + 2) 0 ∷ drop (3 * (n + 1)) es
three es n h =
    first_left_lem es (3 * n) (3 * n + 1) (omega arith) refl
    ∙ ap (λ (l : List ℕ). get_or es (3 * n) 0 ∷ l) (first_left_lem es (3 * n + 1) (3 * n + 2) (omega arith) (omega arith))
    ∙ ap (λ (l : List ℕ). get_or es (3 * n) 0 ∷ get_or es (3 * n + 1) 0 ∷ l)
    (first_left_lem es (3 * n + 2) (3 * (n + 1)) (omega arith) (omega arith))

-- so many events taken, and no more
abbrev pub stopped_at : ℕ → ℕ → Tally → State → Taken
stopped_at m n t s = record { answer = m; taken = n; tally = t; state = s }

stopped_here : (m n : ℕ) (t : Tally) (s : State) → and_before n (stopping m t s) ≡ stopped_at m n t s
stopped_here m n t s = ap (λ (k : ℕ). stopped_at m k t s) (omega arith)

-- ---- R: what the whole call answers. The calls have come to the state s and the tally t after n events
module _ (R : Taken) (es : List ℕ) (s : State) (t : Tally) (n : ℕ) where
  abbrev pub CameTo : Type 0
  CameTo = R ≡ and_before n (calls s t (drop (3 * n) es))

  module _ (c : CameTo) (kind a b : ℕ) (r : Stepped) (i : 3 * n + 3 ≤ length es) (k₀ : kind ≡ get_or es (3 * n) 0)
      (a₀ : a ≡ get_or es (3 * n + 1) 0) (b₀ : b ≡ get_or es (3 * n + 2) 0) (e : r ≡ stepped_of s kind a b) where
    came : R ≡ and_before n (calls s t (kind ∷ a ∷ b ∷ drop (3 * (n + 1)) es))
    came =
        c ∙ ap (λ (l : List ℕ). and_before n (calls s t l))
        (three es n i ∙ (λ j. sym k₀ j ∷ sym a₀ j ∷ sym b₀ j ∷ drop (3 * (n + 1)) es))

    -- the next event is taken
    pub goes_on : (u : Tally) → u ≡ tallied_by r t → r.answer ≡ 0 → R ≡ and_before (n + 1) (calls r.state u (drop (3 * (n + 1)) es))
    goes_on u q z =
        came ∙ ap (and_before n) (one_taken s t kind a b (drop (3 * (n + 1)) es) r e z)
        ∙ before_more n 1 (calls r.state (tallied_by r t) (drop (3 * (n + 1)) es))
        ∙ ap (λ (x : Tally). and_before (n + 1) (calls r.state x (drop (3 * (n + 1)) es))) (sym q)

    -- or refused
    pub stops : (r.answer ≡ 0 → ⊥) → stopped_at r.answer n t s ≡ R
    stops z = sym (came ∙ ap (and_before n) (one_refused s t kind a b (drop (3 * (n + 1)) es) r e z) ∙ stopped_here r.answer n t s)

-- ---- the end of the list
ends_none : (es : List ℕ) → length es ≡ 0 → es ≡ []
ends_none [] h = refl
ends_none (x ∷ es) h = absurd (never h)
  where
    never : length (x ∷ es) ≡ 0 → ⊥
    never h = omega arith

-- nothing is left behind it
pub none_left : (es : List ℕ) (n : ℕ) → length es ≤ 3 * n → drop (3 * n) es ≡ []
none_left es n h = ends_none (drop (3 * n) es) (length-drop (3 * n) es ∙ omega arith)

pub ends : (R : Taken) (es : List ℕ) (s : State) (t : Tally) (n k : ℕ) → CameTo R es s t n → n ≡ k → length es ≤ 3 * n
    → stopped_at 0 k t s ≡ R
ends R es s t n k c i h =
    ap (λ (j : ℕ). stopped_at 0 j t s) (sym i)
    ∙ sym (c ∙ ap (λ (l : List ℕ). and_before n (calls s t l)) (none_left es n h) ∙ ap (and_before n) (at_the_end s t) ∙ stopped_here 0 n t s)

-- one or two numbers are left over
pub data Over : List ℕ → Type 0 where
  one : (x : ℕ) → Over (x ∷ [])
  two : (x y : ℕ) → Over (x ∷ y ∷ [])

are_over : (es : List ℕ) → 0 < length es → length es < 3 → Over es
are_over [] h l = absurd (omega arith)
are_over (x ∷ []) h l = one x
are_over (x ∷ y ∷ []) h l = two x y
are_over (x ∷ y ∷ z ∷ es) h l = absurd (never l)
  where
    never : length (x ∷ y ∷ z ∷ es) < 3 → ⊥
    never h = omega arith

pub left_over : (es : List ℕ) (n : ℕ) → 3 * n < length es → length es < 3 * n + 3 → Over (drop (3 * n) es)
left_over es n h l = are_over (drop (3 * n) es) (omega (arith, length-drop (3 * n) es)) (omega (arith, length-drop (3 * n) es))

calls_over : {es : List ℕ} (s : State) (t : Tally) → Over es → calls s t es ≡ stopping 6 t s
calls_over s t (one x) = one_left_over s t x
calls_over s t (two x y) = two_left_over s t x y

pub stops_over : (R : Taken) (es : List ℕ) (s : State) (t : Tally) (n : ℕ) → CameTo R es s t n → 3 * n < length es → length es < 3 * n + 3
    → stopped_at 6 n t s ≡ R
stops_over R es s t n c h l =
    sym (c ∙ ap (and_before n) (calls_over s t (left_over es n h l)) ∙ stopped_here 6 n t s)
