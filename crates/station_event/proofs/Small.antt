-- The plans of events 1 to 6, return by return: refused, or the act in words.
use Rattle.std.specs.Prelude.{if◌then◌else◌}
use Prim.Native.Nat.{ℕ, ◌^◌, ◌<◌}
use mathlib.Core.Bool.{Bool, true, false, not}
use mathlib.Core.Path.{◌≡◌, refl, sym, ap, ap₂, ◌∙◌}
use lib.Dec.{eqb}
use Rattle.lists.specs.Words.{in_word, bit}
use Rattle.lists.proofs.Words.{zero_is_out, none_in}
use Rattle.net.specs.declared.Body.TheVariants.{Request}
use Rattle.counters.specs.Counters.{even, timed_out}
use Rattle.sets.specs.Sets.{word_by}
use Rattle.sets.proofs.WordLaws.{by_ext, by_none}
use Rattle.marks.specs.declared.Marks.{Marks}
use Rattle.marks.specs.declared.Words.{Words}
use Rattle.marks.specs.Marks.{marks_at, words_with}
use Rattle.station.specs.declared.Condition.{Condition}
use Rattle.station.specs.declared.Condition.TheVariants.{Down, Waiting}
use Rattle.station.specs.declared.Kind.{Kind}
use Rattle.station.specs.declared.Kind.TheVariants.{Start, Stop, IntervalEnd, TimeoutEnd}
use Rattle.station.specs.Holding.{no_marks, set_token, set_quiet, is_down}
use Rattle.station.specs.Acts.{all_own, other_own, on_link, kept, sets, nothing, notices, Act, act, is_open}
use Rattle.station.specs.Acts.{may_end, interval_marks, interval_tests, test_ended}
use Rattle.station.specs.Acts.{start_act, stop_act, interval_act, timeout_act}
use Rattle.station.specs.Events.{counting, Rule, rule_of, due_of}
use Rattle.station.specs.Values.{no_words}
use Rattle.station_plan.specs.declared.Plan.{Plan}
use Rattle.station_plan.specs.Plans.{putting, links_word, marks_by, done_plan, turns, tells}
use Rattle.station_plan.specs.Comes.{event_plan, own_plan}

-- a link whose test failed is kept quiet
abbrev pub failed : Marks → Marks
failed m = set_quiet true (test_ended m)

-- ---- an event that takes no letter, by its rule
module _ (e : Kind) (own k c : ℕ) (x : Condition) (w : Words) where
  abbrev ruled : Rule
  ruled = rule_of 0 k (record { link = 0; sender = 0; body = Request }) x (marks_at w k) c 0 e

  pub done : (r : Plan) → ruled.allowed ≡ true → ruled.over ≡ false → r ≡ done_plan own w ruled.act ruled.counts
      → r ≡ own_plan e own k c x w
  unfolding event_plan due_of
  done r y o q = rw y (rw o q)

-- ---- 1. Start: a token on each own link, and no other mark
module _ (own : ℕ) (fits : own < 2 ^ 64) (w : Words) where
  started : ◌≡◌ {A = Words} (record { token = own; turn = 0; testing = 0; asked = 0; quiet = 0 }) (marks_by own w start_act.marks)
  started = λ i. record {
    token = by_ext own (λ t. (given t).token) fits (λ t h. shows (in_word own t)) i;
    turn = none (λ m. m.turn) refl refl i;
    testing = none (λ m. m.testing) refl refl i;
    asked = none (λ m. m.asked) refl refl i;
    quiet = none (λ m. m.quiet) refl refl i;
  }
    where
      given : ℕ → Marks
      given t = if in_word own t then set_token true no_marks else no_marks

      shows : (b : Bool) → b ≡ (if b then set_token true no_marks else no_marks).token
      shows true = refl
      shows false = refl

      over : (p : Marks → Bool) (b : Bool) → p (set_token true no_marks) ≡ false → p no_marks ≡ false
          → p (if b then set_token true no_marks else no_marks) ≡ false
      over p true y z = y
      over p false y z = z

      none : (p : Marks → Bool) → p (set_token true no_marks) ≡ false → p no_marks ≡ false → ◌≡◌ {A = ℕ} 0 (word_by (λ t. p (given t)))
      none p y z = by_none (λ t. p (given t)) (λ t h. over p (in_word own t) y z)

  pub start_done : (x : Condition) (r : Plan) → is_down x ≡ true
      → r ≡ turns Waiting (record { token = own; turn = 0; testing = 0; asked = 0; quiet = 0 }) 0 false → r ≡ own_plan Start own 0 0 x w
  start_done x r y q = done Start own 0 0 x w r y refl (q ∙ ap (λ (v : Words). turns Waiting v 0 false) started)

-- ---- 2. Stop: no mark
module _ (x : Condition) (w : Words) where
  stopped : no_words ≡ marks_by 0 w stop_act.marks
  stopped =
      let none = by_none (λ t. false) (λ t h. refl) in
      λ i. record { token = none i; turn = none i; testing = none i; asked = none i; quiet = none i }

  pub stop_done : (r : Plan) → is_down x ≡ false → r ≡ turns Down no_words 0 true → r ≡ own_plan Stop 0 0 0 x w
  stop_done r y q = done Stop 0 0 0 x w r (ap not y) refl (q ∙ ap (λ (v : Words). turns Down v 0 true) stopped)

  module _ (k : ℕ) where
    -- ---- 4. Interval ends
    module _ (b : Bool) (m : Marks) (em : m ≡ marks_at w k) (eb : b ≡ may_end x m) where
      may : b ≡ may_end x (marks_at w k)
      may = eb ∙ ap (may_end x) em

      nothing_put : putting 0 k false ≡ 0
      nothing_put = sym (by_none (λ t. if eqb t k then false else in_word 0 t) (λ t h. go t (eqb t k)))
        where
          go : (t : ℕ) (a : Bool) → (if a then false else in_word 0 t) ≡ false
          go t true = refl
          go t false = zero_is_out 0 t (none_in t)

      asked : (tests : Bool) → interval_tests (marks_at w k) ≡ tests
          → turns x (words_with w k (interval_marks (marks_at w k))) (putting 0 k tests) false
          ≡ done_plan 0 w (interval_act x k (marks_at w k))
          (counting 0 0 0)
      asked true e = rw e refl
      asked false e = rw e (ap (λ (n : ℕ). turns x (words_with w k (interval_marks (marks_at w k))) n false) nothing_put)

      pub interval_done : (tests : Bool) (next : Marks) (ws : Words) (asks : ℕ) (r : Plan) → b ≡ true → tests ≡ interval_tests m
          → asks ≡ putting 0 k tests
          → next ≡ interval_marks m → ws ≡ words_with w k next → r ≡ turns x ws asks false → r ≡ own_plan IntervalEnd 0 k 0 x w
      interval_done tests next ws asks r v et er en ew q =
          done IntervalEnd 0 k 0 x w r (sym may ∙ v) refl
          (q ∙ ap₂ (λ (a : Words) (n : ℕ). turns x a n false) (ew ∙ ap (words_with w k) (en ∙ ap interval_marks em)) er
          ∙ asked tests (sym (et ∙ ap interval_tests em)))

    -- ---- 5. Timeout ends
    module _ (own c : ℕ) (e : Bool) (ht : in_word w.testing k ≡ true) (ee : e ≡ even c) where
      pub timeout_even : (ws : Words) (subjects loud ways up : ℕ) (r : Plan) → e ≡ true → ws ≡ words_with w k (failed (marks_at w k))
          → subjects ≡ putting 0 k true
          → loud ≡ links_word own w (all_own is_open) → ways ≡ putting loud k false → up ≡ timed_out c
          → r ≡ tells x ws k up true false subjects ways (counting 0 1 0) → r ≡ own_plan TimeoutEnd own k c x w
      timeout_even ws subjects loud ways up r v ew es eo ey eu q =
          done TimeoutEnd own k c x w r ht refl (told ∙ sym worked)
        where
          told : r ≡ tells x (words_with w k (failed (marks_at w k))) k (timed_out c) true false (putting 0 k true)
              (putting (links_word own w (all_own is_open)) k false) (counting 0 1 0)
          told = q ∙ (λ i. tells x (ew i) k (eu i) true false (es i) ((ey ∙ ap (λ (a : ℕ). putting a k false) eo) i) (counting 0 1 0))

          worked : done_plan own w (timeout_act x k c) (counting 0 (bit (even c)) 0)
              ≡ tells x (words_with w k (failed (marks_at w k))) k (timed_out c) true false (putting 0 k true)
              (putting (links_word own w (all_own is_open)) k false) (counting 0 1 0)
          worked = ap (λ (b : Bool). done_plan own w (by_even b) (counting 0 (bit b) 0)) (sym ee ∙ v)
            where
              by_even : Bool → Act
              by_even b =
                  if b then act x (on_link k failed) (sets k (timed_out c) true) (notices k (timed_out c) (other_own k is_open))
                  else act x (on_link k test_ended) kept nothing
