-- What the loop over the events knows between two of them, whether it stops at a refusal or goes on; an event more, and the two ends.
use Rattle.std.specs.Prelude.{if◌then◌else◌}
use Prim.Native.Nat.{ℕ, ◌+◌, ◌*◌, ◌/◌, ◌%◌, ◌≤◌, ◌<◌}
use mathlib.Core.Bool.{Bool, true, false}
use mathlib.Core.Path.{◌≡◌, refl, sym, ap, ◌∙◌, subst⁻¹}
use mathlib.Core.List.{List}
use native.Mathlib.Decide.{dec_le, ℕ_discrete}
use native.Mathlib.Omega.{arith}
use borrow.Author.Tests.{eq-eqb, ne_eqb, le-leb, lt-leb}
use lib.Dec.{leb}
use lib.ListN.{length}
use Rattle.tally.specs.declared.Tally.{Tally}
use Rattle.text.specs.Text.{put_at}
use Rattle.text.proofs.Puts.{length_put}
use Rattle.station.specs.Events.{kind_of}
use Rattle.state.specs.declared.State.{State}
use Rattle.step_rules.specs.declared.Stepped.{Stepped}
use Rattle.step_rules.specs.Step.{refusing, stepped_of}
use Rattle.step_rules.specs.Counting.{tallied_by}
use Rattle.step_rules.proofs.Bridge.{Good, is_step}
use Rattle.step_parts.specs.Parts.{place_by}
use Rattle.backlog_rules.specs.Backlog.{calls}
use Rattle.backlog_rules.specs.Answers.{turn_of}
use Rattle.backlog_rules.proofs.Laws.{before_none}
use Rattle.backlog_rules.proofs.Threes.{CameTo, stopped_at, goes_on, stops, stops_over, ends}
use Rattle.backlog_rules.proofs.Tracing.{refusal_counts_nothing, names_nothing, Traced, trace_begins, trace_more, trace_over, trace_ends}
use Rattle.backlog_run.specs.declared.Asked.{Asked}
use Rattle.backlog_run.specs.Events.{asking, numbers, asked_at, event_count, Went}

-- ---- which events there are
pub count_covers : (size : ℕ) → size ≤ 3 * event_count size
unfolding event_count
count_covers size = go (ℕ_discrete (size % 3) 0)
  where
    go : Dec (size % 3 ≡ 0) → size ≤ 3 * event_count size
    go (yes z) = simp (eq-eqb (size % 3) 0 z) (omega arith)
    go (no n) = simp (ne_eqb (size % 3) 0 n) (omega arith)

pub count_tight : (size : ℕ) → 3 * event_count size < size + 3
unfolding event_count
count_tight size = go (ℕ_discrete (size % 3) 0)
  where
    go : Dec (size % 3 ≡ 0) → 3 * event_count size < size + 3
    go (yes z) = simp (eq-eqb (size % 3) 0 z) (omega arith)
    go (no n) = simp (ne_eqb (size % 3) 0 n) (omega arith)

-- its kind, and the place of its letter, by its numbers
pub asked_kind : (es : List ℕ) (n : ℕ) (e : Asked) → e ≡ asked_at es n → e.what ≡ kind_of e.kind
unfolding asked_at
asked_kind es n e is = subst⁻¹ (λ (x : Asked). x.what ≡ kind_of x.kind) is (go (leb (length es / 3) n))
  where
    go : (b : Bool) → (if b then asking 0 0 0 else numbers es n).what ≡ kind_of (if b then asking 0 0 0 else numbers es n).kind
    go true = refl
    go false = refl

pub asked_place : (es : List ℕ) (n : ℕ) (e : Asked) → e ≡ asked_at es n → e.place ≡ place_by e.a
unfolding asked_at
asked_place es n e is = subst⁻¹ (λ (x : Asked). x.place ≡ place_by x.a) is (go (leb (length es / 3) n))
  where
    go : (b : Bool) → (if b then asking 0 0 0 else numbers es n).place ≡ place_by (if b then asking 0 0 0 else numbers es n).a
    go true = refl
    go false = refl

-- event n has its three numbers in the list; or one or two are left over, and it names no kind
data Asks (es : List ℕ) (n : ℕ) : Asked → Type 0 where
  whole : 3 * n + 3 ≤ length es
      → Asks es n (numbers es n)
  over : 3 * n < length es → length es < 3 * n + 3 → Asks es n (asking 0 0 0)

asks : (es : List ℕ) (n : ℕ) (e : Asked) → e ≡ asked_at es n → n < event_count (length es) → Asks es n e
unfolding asked_at
asks es n e is h = subst⁻¹ (Asks es n) is (go (dec_le (length es / 3) n))
  where
    go : Dec (length es / 3 ≤ n) → Asks es n (asked_at es n)
    go (yes l) = simp (le-leb (length es / 3) n l) (over (omega (arith, count_tight (length es))) (omega arith))
    go (no l) = simp (lt-leb (length es / 3) n (omega arith)) (whole (omega arith))

-- ---- between two events
pub record Course (stopping : Bool) (es old : List ℕ) (s₀ : State) (t₀ : Tally) (s : State) (t : Tally) (n : ℕ) (trace : List ℕ)
    : Type 0 where
  pub good : Good s
  pub net : s.net ≡ s₀.net
  pub size : length trace ≡ length old
  pub came : stopping ≡ true → CameTo (calls s₀ t₀ es) es s t n
  pub traced : stopping ≡ false → 3 * event_count (length es) ≤ length old → Traced es s₀ t₀ old s t n trace

pub course_begins : (stopping : Bool) (es old : List ℕ) (s : State) (t : Tally) → Good s → Course stopping es old s t s t 0 old
course_begins stopping es old s t g =
    record {
      good = g;
      net = refl;
      size = refl;
      came = λ e. sym (before_none (calls s t es));
      traced = λ e room. trace_begins es s t old;
    }

module _ (stopping : Bool) (es old : List ℕ) (s₀ : State) (t₀ : Tally) (s : State) (t : Tally) (n : ℕ) (trace : List ℕ)
    (c : Course stopping es old s₀ t₀ s t n trace) where
  -- the end of the list
  pub course_ends : (k : ℕ) → n ≡ k → k ≡ event_count (length es) → Went stopping s₀ t₀ es old (stopped_at 0 k t s) trace
  course_ends k i e =
      let covers = count_covers (length es) in
      record {
        stopped = λ q. ends _ es s t n k (c.came q) i (omega (arith, covers));
        ran = λ q room. trace_ends es s₀ t₀ old s t n trace (c.traced q room) (omega (arith, covers)) (omega arith);
      }

  module _ (e : Asked) (is : e ≡ asked_at es n) (h : n < event_count (length es)) where
    -- ---- the event is taken
    module _ (r : Stepped) (did : r ≡ stepped_of s e.kind e.a e.b) (z : r.answer ≡ 0) (net : r.state.net ≡ s.net)
        (u : Tally) (counts : u ≡ tallied_by r t) (new : List ℕ) (put : new ≡ put_at (turn_of r.answer u r.state) (3 * n) trace) where
      came_on : {e : Asked} → Asks es n e → r ≡ stepped_of s e.kind e.a e.b → stopping ≡ true
          → CameTo (calls s₀ t₀ es) es r.state u (n + 1)
      came_on (whole i) d q = goes_on _ es s t n (c.came q) _ _ _ r i refl refl refl d u counts z
      came_on (over i j) d q =
          absurd (omega (arith, z, ap (λ (x : Stepped). x.answer) d, names_nothing s 0 0 c.good.holds))

      traced_on : {e : Asked} → Asks es n e → r ≡ stepped_of s e.kind e.a e.b → stopping ≡ false
          → 3 * event_count (length es) ≤ length old → Traced es s₀ t₀ old r.state u (n + 1) new
      traced_on (whole i) d q room =
          trace_more es s₀ t₀ old s t n trace (c.traced q room) (omega arith) _ _ _ i refl refl refl r d u counts new put
      traced_on (over i j) d q room =
          absurd (omega (arith, z, ap (λ (x : Stepped). x.answer) d, names_nothing s 0 0 c.good.holds))

      pub course_taken : Course stopping es old s₀ t₀ r.state u (n + 1) new
      course_taken =
          record {
            good = subst⁻¹ (λ (x : Stepped). Good x.state) did (is_step s e.kind e.a e.b c.good).good;
            net = net ∙ c.net;
            size = ap length put ∙ length_put _ (3 * n) trace ∙ c.size;
            came = came_on (asks es n e is h) did;
            traced = traced_on (asks es n e is h) did;
          }

    -- ---- or refused
    module _ (m : ℕ) (did : refusing m s ≡ stepped_of s e.kind e.a e.b) (z : m ≡ 0 → ⊥) (new : List ℕ)
        (put : new ≡ put_at (turn_of m t s) (3 * n) trace) where
      six : {x : Asked} → x ≡ asking 0 0 0 → refusing m s ≡ stepped_of s x.kind x.a x.b → m ≡ 6
      six q d =
          ap (λ (x : Stepped). x.answer) d ∙ ap (λ (x : Asked). (stepped_of s x.kind x.a x.b).answer) q
          ∙ names_nothing s 0 0 c.good.holds

      traced_past : {e : Asked} → Asks es n e → refusing m s ≡ stepped_of s e.kind e.a e.b → stopping ≡ false
          → 3 * event_count (length es) ≤ length old → Traced es s₀ t₀ old s t (n + 1) new
      traced_past (whole i) d q room =
          trace_more es s₀ t₀ old s t n trace (c.traced q room) (omega arith) _ _ _ i refl refl refl (refusing m s) d t
          (refusal_counts_nothing (refusing m s) t z) new put
      traced_past (over i j) d q room =
          trace_over es s₀ t₀ old s t n trace (c.traced q room) (omega arith) i j new
          (put ∙ ap (λ (k : ℕ). put_at (turn_of k t s) (3 * n) trace) (six refl d))

      -- it goes on
      pub course_refused : stopping ≡ false → Course stopping es old s₀ t₀ s t (n + 1) new
      course_refused goes =
          record {
            good = c.good;
            net = c.net;
            size = ap length put ∙ length_put _ (3 * n) trace ∙ c.size;
            came = λ q. absurd (clash (sym q ∙ goes));
            traced = traced_past (asks es n e is h) did;
          }
        where
          clash : true ≡ false → ⊥
          clash q = let w : ◌≡◌ {A = ℕ} 0 1 = cc in omega arith

      stops_there : {e : Asked} → Asks es n e → refusing m s ≡ stepped_of s e.kind e.a e.b
          → CameTo (calls s₀ t₀ es) es s t n → stopped_at m n t s ≡ calls s₀ t₀ es
      stops_there (whole i) d came = stops _ es s t n came _ _ _ (refusing m s) i refl refl refl d z
      stops_there (over i j) d came = ap (λ (k : ℕ). stopped_at k n t s) (six refl d) ∙ stops_over _ es s t n came i j

      -- it stops
      pub course_stops : stopping ≡ true → Went stopping s₀ t₀ es old (stopped_at m n t s) new
      course_stops q₀ =
          record {
            stopped = λ q. stops_there (asks es n e is h) did (c.came q);
            ran = λ q room. absurd (clash (sym q₀ ∙ q));
          }
        where
          clash : true ≡ false → ⊥
          clash q = let w : ◌≡◌ {A = ℕ} 0 1 = cc in omega arith
