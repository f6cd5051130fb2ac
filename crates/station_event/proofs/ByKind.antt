-- The plan of an event, by whether what it names is there and by its kind.
use Rattle.std.specs.Prelude.{if◌then◌else◌}
use Prim.Native.Nat.{ℕ}
use mathlib.Core.Bool.{Bool, true, false, not}
use mathlib.Core.Path.{◌≡◌, refl, sym, ap, ◌∙◌, subst⁻¹}
use Rattle.lists.specs.Words.{bit}
use Rattle.net.specs.declared.Letter.{Letter}
use Rattle.marks.specs.declared.Words.{Words}
use Rattle.marks.specs.Marks.{marks_at}
use Rattle.station.specs.declared.Condition.{Condition}
use Rattle.station.specs.declared.Kind.{Kind}
use Rattle.station.specs.declared.Kind.TheVariants.{NoSuch, Start, Stop, Recovery, IntervalEnd, TimeoutEnd, QuietEnd, Delivery, Loss}
use Rattle.station.specs.Holding.{is_down}
use Rattle.station.specs.Acts.{the_link, on_link, kept, nothing, requests}
use Rattle.station.specs.Acts.{act, may_end, interval_tests, interval_marks, stop_act, interval_act}
use Rattle.station.specs.Acts.{quiet_act}
use Rattle.station.specs.Events.{counting, is_notice, Due, refusing, due_of}
use Rattle.station.proofs.Laid.{Fit}
use Rattle.station_plan.specs.declared.Plan.{Plan}
use Rattle.station_plan.specs.Plans.{plan_of, stays, turns}
use Rattle.station_plan.specs.Comes.{event_plan, own_plan, EventPlans}
use Rattle.station_plan.proofs.Laws.{event_plans}

module _ (own s k : ℕ) (l : Letter) (c told : ℕ) (x : Condition) (w : Words) (r : Plan) where
  -- the plan, and by the law of the plan what the event comes to
  module _ (e : Kind) (f : Fit w) where
    abbrev Right : Bool → Type 0
    Right there = (r ≡ event_plan there e own s k l c told x w) × EventPlans there e own s k l c told x w r

    right : (there : Bool) → r ≡ event_plan there e own s k l c told x w → Right there
    right there q = (q, subst⁻¹ (EventPlans there e own s k l c told x w) q (event_plans own s k l c told x w f there e))

    is_there : (there : Bool) (g : Kind) → there ≡ true → e ≡ g → r ≡ event_plan true g own s k l c told x w → Right there
    is_there there g p i q = right there (rw (p, i) q)

    pub none_there : (there : Bool) → there ≡ false → r ≡ stays 6 0 0 x w → Right there
    unfolding event_plan due_of
    none_there there p q = right there (rw p q)

  -- no such event does nothing, and a letter that is lost is dropped
  no_such_same : r ≡ turns x w 0 false → r ≡ event_plan true NoSuch own s k l c told x w
  unfolding event_plan due_of
  no_such_same q = q

  lost_same : (settled : ℕ) → settled ≡ bit (is_notice l.body) → r ≡ stays 0 settled 1 x w → r ≡ event_plan true Loss own s k l c told x w
  unfolding event_plan due_of
  lost_same settled n q = q ∙ ap (λ (m : ℕ). stays 0 m 1 x w) n

  -- whose own links do not matter in either case do not matter at all
  own_free : (b : Bool) (d e : Due) → plan_of own w d ≡ plan_of 0 w d → plan_of own w e ≡ plan_of 0 w e
      → plan_of 0 w (if b then d else e) ≡ plan_of own w (if b then d else e)
  own_free true d e p q = sym p
  own_free false d e p q = sym q

  -- events 1 to 6: no letter matters, nor the station's number, nor for most of them the link or the own links
  is_start_same : r ≡ own_plan Start own 0 0 x w → r ≡ event_plan true Start own s k l c told x w
  unfolding event_plan due_of
  is_start_same q = q

  is_stop_same : r ≡ own_plan Stop 0 0 0 x w → r ≡ event_plan true Stop own s k l c told x w
  unfolding event_plan due_of
  is_stop_same q =
      q ∙ own_free (not (not (is_down x))) (refusing 7 x) (record { number = 0; act = stop_act; counts = counting 0 0 0 }) refl refl

  is_recovery_same : r ≡ own_plan Recovery own 0 0 x w → r ≡ event_plan true Recovery own s k l c told x w
  unfolding event_plan due_of
  is_recovery_same q = q

  is_interval_same : r ≡ own_plan IntervalEnd 0 k 0 x w → r ≡ event_plan true IntervalEnd own s k l c told x w
  unfolding event_plan due_of
  is_interval_same q =
      q ∙ own_free (not (may_end x (marks_at w k))) (refusing 7 x)
      (record { number = 0; act = interval_act x k (marks_at w k); counts = counting 0 0 0 }) refl (go (interval_tests (marks_at w k)))
    where
      asking : Bool → Due
      asking b =
          record {
            number = 0;
            act = act x (on_link k interval_marks) kept (if b then requests (the_link k) else nothing);
            counts = counting 0
                0 0;
          }

      go : (b : Bool) → plan_of own w (asking b) ≡ plan_of 0 w (asking b)
      go true = refl
      go false = refl

  is_timeout_same : r ≡ own_plan TimeoutEnd own k c x w → r ≡ event_plan true TimeoutEnd own s k l c told x w
  unfolding event_plan due_of
  is_timeout_same q = q

  is_quiet_end_same : r ≡ own_plan QuietEnd 0 k 0 x w → r ≡ event_plan true QuietEnd own s k l c told x w
  unfolding event_plan due_of
  is_quiet_end_same q =
      q ∙ own_free (not (marks_at w k).quiet) (refusing 7 x) (record { number = 0; act = quiet_act x k; counts = counting 0 0 0 }) refl refl

  -- the same where what the event names is there
  module _ (e : Kind) (f : Fit w) (there : Bool) (p : there ≡ true) where
    pub no_such : e ≡ NoSuch → r ≡ turns x w 0 false → Right e f there
    no_such i q = is_there e f there NoSuch p i (no_such_same q)

    pub is_start : e ≡ Start → r ≡ own_plan Start own 0 0 x w → Right e f there
    is_start i q = is_there e f there Start p i (is_start_same q)

    pub is_stop : e ≡ Stop → r ≡ own_plan Stop 0 0 0 x w → Right e f there
    is_stop i q = is_there e f there Stop p i (is_stop_same q)

    pub is_recovery : e ≡ Recovery → r ≡ own_plan Recovery own 0 0 x w → Right e f there
    is_recovery i q = is_there e f there Recovery p i (is_recovery_same q)

    pub is_interval : e ≡ IntervalEnd → r ≡ own_plan IntervalEnd 0 k 0 x w → Right e f there
    is_interval i q = is_there e f there IntervalEnd p i (is_interval_same q)

    pub is_timeout : e ≡ TimeoutEnd → r ≡ own_plan TimeoutEnd own k c x w → Right e f there
    is_timeout i q = is_there e f there TimeoutEnd p i (is_timeout_same q)

    pub is_quiet_end : e ≡ QuietEnd → r ≡ own_plan QuietEnd 0 k 0 x w → Right e f there
    is_quiet_end i q = is_there e f there QuietEnd p i (is_quiet_end_same q)

    pub is_letter : e ≡ Delivery → r ≡ event_plan true Delivery own s k l c told x w → Right e f there
    is_letter i q = is_there e f there Delivery p i q

    pub lost : (settled : ℕ) → e ≡ Loss → settled ≡ bit (is_notice l.body) → r ≡ stays 0 settled 1 x w → Right e f there
    lost settled i n q = is_there e f there Loss p i (lost_same settled n q)
