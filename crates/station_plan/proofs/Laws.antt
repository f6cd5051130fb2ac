-- THE LAW OF THE PLAN: at every station that has what it was made from, the plan of an event is what the event comes to there.
-- It is one act in both, so what remains is that the rule sees the same on both sides, and that the act names what is there.
use Rattle.std.specs.Prelude.{if◌then◌else◌}
use Prim.Native.Nat.{ℕ, ◌<◌}
use mathlib.Core.Bool.{Bool, true, false, not, ◌&&◌, ◌||◌}
use mathlib.Core.Path.{◌≡◌, refl, sym, ap, ap₂, ◌∙◌, subst, subst⁻¹}
use native.Mathlib.Omega.{arith}
use lib.Dec.{T, eqb, ltb}
use lib.ListN.{length, get_or, set}
use lib.Seq.{get_or-set_same}
use Rattle.net.specs.Sizes.{link_room}
use Rattle.lists.specs.Words.{bit}
use Rattle.lists.proofs.Tests.{if_elim}
use Rattle.net.specs.declared.Body.{Body}
use Rattle.net.specs.declared.Body.TheVariants.{Request, Reply, Notice}
use Rattle.net.specs.declared.Letter.{Letter}
use Rattle.net.specs.declared.Net.{Net}
use Rattle.net.specs.Values.{link_count}
use Rattle.std.specs.Prelude.{Option, Some, None}
use Rattle.counters.specs.Counters.{even, odd, healing, newer, timed_out}
use Rattle.reach.proofs.Tables.{counter_of_lem}
use Rattle.marks.specs.declared.Marks.{Marks}
use Rattle.marks.specs.declared.Words.{Words}
use Rattle.marks.specs.Marks.{marks_at}
use Rattle.station.specs.declared.Condition.{Condition}
use Rattle.station.specs.declared.Effect.{Effect}
use Rattle.station.specs.declared.Effect.TheVariants.{Defers, Answers, Heals, Levels, Equal, Takes}
use Rattle.station.specs.declared.Heard.{Heard}
use Rattle.station.specs.declared.Heard.TheVariants.{Gone, Nothing, Overflows, Does}
use Rattle.station.specs.declared.Kind.{Kind}
use Rattle.station.specs.declared.Kind.TheVariants.{NoSuch, Start, Stop, Recovery, IntervalEnd, TimeoutEnd, QuietEnd, Delivery, Loss}
use Rattle.station.specs.declared.Station.{Station}
use Rattle.station.specs.Holding.{Holding, mark, counter, is_live}
use Rattle.station.specs.Acts.{kept, nothing, requests, the_link, Act, idle, interval_tests, effect_act}
use Rattle.station.specs.Acts.{replied_by, body_answer, answer_by, subject_of}
use Rattle.station.specs.Events.{is_notice, Rule, heard_rule, rule_of, rule_at, due_of}
use Rattle.station.specs.Values.{holding_of, blank}
use Rattle.station.proofs.Fresh.{no_marks_lem}
use Rattle.station.proofs.Laid.{Fit, mark_of}
use Rattle.station.proofs.Rules.{due_elim}
use Rattle.station_plan.specs.Plans.{plan_of}
use Rattle.station_plan.specs.Planned.{Planned}
use Rattle.station_plan.specs.Comes.{event_plan, room_of, Plans, Own, Counts, Meant, EventPlans}
use Rattle.station_plan.proofs.Carried.{SendsFit, Fits, MarksRoom, TableRoom, carried_out}

-- ---- a notice is taken of the link that it tells of
clash : {A : Type 0} → ◌≡◌ {A = ℕ} 0 1 → A
clash e = absurd (omega arith)

module _ (s : ℕ) (x : Condition) (m : Marks) (own told : ℕ) (l : Letter) where
  takes_subject : (j d : ℕ) → answer_by s x m own told l ≡ Does (Takes j d) → subject_of l.body ≡ j
  takes_subject j d e = go (is_live x && not m.quiet) e
    where
      requested : (b : Bool) → (if b then Does Defers else Does Answers) ≡ Does (Takes j d) → ◌≡◌ {A = ℕ} 0 1
      requested true p = cc
      requested false p = cc

      evens : (c n : ℕ) (a b : Bool) → (if a then Does (Heals n) else (if b then Does Equal else Does (Levels n))) ≡ Does (Takes j d)
          → ◌≡◌ {A = ℕ} 0 1
      evens c n true b p = cc
      evens c n false true p = cc
      evens c n false false p = cc

      healed : (c : ℕ) (y : Option ℕ) → replied_by own c y ≡ Does (Takes j d) → ◌≡◌ {A = ℕ} 0 1
      healed c None p = cc
      healed c (Some n) p = evens c n (odd own || odd c) (eqb own c) p

      replied : (c : ℕ) (b : Bool) → (if b then replied_by own c (healing own c) else Nothing) ≡ Does (Takes j d) → ◌≡◌ {A = ℕ} 0 1
      replied c true p = healed c (healing own c) p
      replied c false p = cc

      noticed : (i c : ℕ) (b : Bool) → (if b then Does (Takes i c) else Nothing) ≡ Does (Takes j d) → i ≡ j
      noticed i c true p = cc
      noticed i c false p = clash (cc)

      body : (b : Body) → body_answer s l.sender m own told b ≡ Does (Takes j d) → subject_of b ≡ j
      body Request p = clash (requested (m.testing && ltb l.sender s) p)
      body (Reply c) p = clash (replied c m.testing p)
      body (Notice i c) p = noticed i c (newer told c) p

      go : (b : Bool) → (if b then body_answer s l.sender m own told l.body else Gone) ≡ Does (Takes j d) → subject_of l.body ≡ j
      go true p = body l.body p
      go false p = clash (cc)

-- ---- at a station value
module _ (net : Net) (s : ℕ) (st : Station) (own : ℕ) (eo : Own own net s) (fit : Fit st.marks)
    (size : length st.counters ≡ link_room) where
  abbrev H : Holding
  H = holding_of net st

  abbrev X : Condition
  X = st.condition

  abbrev W : Words
  W = st.marks

  counter_at : (k : ℕ) → k < link_count net → counter H k ≡ get_or st.counters k 0
  unfolding holding_of
  counter_at k h = counter_of_lem net st.counters k size h

  -- ---- the rule sees the same: the marks and the counter of the link, and the counter told of
  module _ (k : ℕ) (l : Letter) (c told : ℕ) (ec : Counts c k st) where
    abbrev ruled : Kind → Rule
    ruled e = rule_of s k l X (marks_at W k) c told e

    on_link_lem : (e : Kind) → k < link_count net → ruled e ≡ rule_of s k l H.condition (mark H k) (counter H k) told e
    unfolding holding_of
    on_link_lem e h =
        ap₂ (λ (m : Marks) (n : ℕ). rule_of s k l X m n told e) (sym (mark_of net st k h)) (ec ∙ sym (counter_at k h))

    same_rule : (e : Kind) → Meant net st e k l told → ruled e ≡ rule_at s e k l H
    unfolding holding_of
    same_rule NoSuch m = refl
    same_rule Start m = refl
    same_rule Stop m = refl
    same_rule Recovery m = refl
    same_rule IntervalEnd m = on_link_lem IntervalEnd (m.link tt)
    same_rule TimeoutEnd m = on_link_lem TimeoutEnd (m.link tt)
    same_rule QuietEnd m = on_link_lem QuietEnd (m.link tt)
    same_rule Delivery m =
        on_link_lem Delivery (m.link tt)
        ∙ ap₂ (λ (i n : ℕ). rule_of s i l H.condition (mark H i) (counter H i) n Delivery) (sym (m.letter tt))
        (m.tells tt ∙ sym (counter_at (subject_of l.body) (m.subject tt)))
    same_rule Loss m = refl

    -- ---- the act names what is there
    abbrev Fit_act : Act → Type 0
    Fit_act a = Fits net s st own eo fit size a

    idle_fits : Fit_act (idle X)
    idle_fits = record { marks = tt; table = tt; sends = tt }

    -- a counter that is set is the one that is told
    told_set : (j n : ℕ) → j < link_count net → get_or (set st.counters j n) j 0 ≡ n
    told_set j n h = get_or-set_same st.counters j n 0 (omega (arith, size))

    effect_fits : k < link_count net → (e : Effect) → ((j d : ℕ) → e ≡ Takes j d → j < link_count net) → Fit_act (effect_act X k c e)
    effect_fits h Defers t = record { marks = h; table = tt; sends = tt }
    effect_fits h Answers t = record { marks = h; table = tt; sends = h }
    effect_fits h (Heals n) t = record { marks = h; table = h; sends = tt }
    effect_fits h (Levels n) t = record { marks = h; table = h; sends = (h, told_set k n h, tt) }
    effect_fits h Equal t = record { marks = h; table = tt; sends = tt }
    effect_fits h (Takes j n) t = let i = t j n refl in record { marks = tt; table = i; sends = (i, told_set j n i, tt) }

    heard_fits : (n : ℕ) → k < link_count net → (a : Heard) → ((j d : ℕ) → a ≡ Does (Takes j d) → j < link_count net)
        → Fit_act (heard_rule n X k c a).act
    heard_fits n h Gone t = idle_fits
    heard_fits n h Nothing t = idle_fits
    heard_fits n h Overflows t = idle_fits
    heard_fits n h (Does e) t = effect_fits h e (λ j d q. t j d (ap Does q))

    asks_fit : k < link_count net → (b : Bool) → SendsFit net s st own eo fit size kept (if b then requests (the_link k) else nothing)
    asks_fit h true = h
    asks_fit h false = tt

    act_fits : (e : Kind) → Meant net st e k l told → Fit_act (ruled e).act
    act_fits NoSuch m = idle_fits
    act_fits Start m = record { marks = tt; table = tt; sends = tt }
    act_fits Stop m = record { marks = tt; table = refl; sends = tt }
    act_fits Recovery m = record { marks = tt; table = tt; sends = tt }
    act_fits IntervalEnd m = record { marks = m.link tt; table = tt; sends = asks_fit (m.link tt) (interval_tests (marks_at W k)) }
    act_fits TimeoutEnd m =
        let h = m.link tt in
        if_elim Fit_act (even c) (λ t. record { marks = h; table = h; sends = (h, told_set k (timed_out c) h, tt) })
        (λ t. record { marks = h; table = tt; sends = tt })
    act_fits QuietEnd m = record { marks = m.link tt; table = tt; sends = tt }
    act_fits Delivery m =
        heard_fits (bit (is_notice l.body)) (m.link tt) (answer_by s X (marks_at W k) c told l)
        (λ j d q. subst (λ (n : ℕ). n < link_count net) (takes_subject s X (marks_at W k) c told l j d q) (m.subject tt))
    act_fits Loss m = idle_fits

    -- ---- the room under it
    abbrev Roomy : Station → Act → Type 0
    Roomy room a =
        MarksRoom net s st own eo fit size room.marks a.marks × TableRoom net s st own eo fit size room.counters a.table

    effect_room : (e : Effect) → Roomy st (effect_act X k c e)
    effect_room Defers = (refl, refl)
    effect_room Answers = (refl, refl)
    effect_room (Heals n) = (refl, refl)
    effect_room (Levels n) = (refl, refl)
    effect_room Equal = (refl, refl)
    effect_room (Takes j n) = (refl, refl)

    heard_room : (n : ℕ) (a : Heard) → Roomy st (heard_rule n X k c a).act
    heard_room n Gone = (refl, refl)
    heard_room n Nothing = (refl, refl)
    heard_room n Overflows = (refl, refl)
    heard_room n (Does e) = effect_room e

    act_room : (e : Kind) → Roomy (room_of e st) (ruled e).act
    unfolding blank
    act_room NoSuch = (refl, refl)
    act_room Start = (λ t h i. no_marks_lem t, refl)
    act_room Stop = (λ t h i. no_marks_lem t, refl)
    act_room Recovery = (λ t h i. refl, refl)
    act_room IntervalEnd = (refl, refl)
    act_room TimeoutEnd = if_elim (Roomy st) (even c) (λ t. (refl, refl)) (λ t. (refl, refl))
    act_room QuietEnd = (refl, refl)
    act_room Delivery = heard_room (bit (is_notice l.body)) (answer_by s X (marks_at W k) c told l)
    act_room Loss = (refl, refl)

    -- ---- refused, or done
    due_plans : (there : Bool) (e : Kind) → (T there → Meant net st e k l told)
        → Planned net s st (room_of e st) (due_of there (ruled e) X) (plan_of own W (due_of there (ruled e) X))
    due_plans there e m =
        due_elim there (ruled e) X (λ d. Planned net s st (room_of e st) d (plan_of own W d))
        (λ n z. record { answer = refl; counts = refl; done = λ q. absurd (z q); refused = λ q. refl })
        (λ t a o.
        let done = carried_out net s st own eo fit size (record { number = 0; act = (ruled e).act; counts = (ruled e).counts }) (room_of e st)
        refl (act_fits e (m t)) (act_room e).0 (act_room e).1 in
        record { answer = done.answer; counts = done.counts; done = λ q. done; refused = λ q. absurd (q refl) })

    here_plans : (there : Bool) (e : Kind) → (T there → Meant net st e k l told)
        → Plans e net s k l st there (event_plan there e own s k l c told X W)
    unfolding event_plan holding_of due_of
    here_plans true e m =
        subst (λ (r : Rule). Planned net s st (room_of e st) (due_of true r X) (plan_of own W (due_of true (ruled e) X)))
        (same_rule e (m tt)) (due_plans true e m)
    here_plans false e m = due_plans false e m

pub event_plans : (own s k : ℕ) (l : Letter) (c told : ℕ) (x : Condition) (w : Words) → Fit w → (there : Bool) (e : Kind)
    → EventPlans there e own s k l c told x w (event_plan there e own s k l c told x w)
event_plans own s k l c told x w fit there e = λ net st like o ec m.
    subst (λ (y : Condition). Plans e net s k l st there (event_plan there e own s k l c told y w)) like.condition
    (subst (λ (v : Words). Plans e net s k l st there (event_plan there e own s k l c told st.condition v)) like.words
    (here_plans net s st own o (subst⁻¹ Fit like.words fit) like.size k l c told ec there e m))
