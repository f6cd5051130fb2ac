-- The calls over a state, and the fresh state: each number when, and only when, its reason of specs/StateReasons.antt stands, and a
-- refusal keeps the state, the tally and the output. For every answer that the promises allow.
use Rattle.std.specs.Prelude.{if◌then◌else◌}
use Prim.Native.Nat.{ℕ}
use mathlib.Core.Bool.{Bool, true, false, not, ◌&&◌}
use mathlib.Core.Path.{◌≡◌, refl, sym, ap, ◌∙◌, subst, subst⁻¹}
use mathlib.Core.Logic.{◌↔◌}
use mathlib.Core.List.{List}
use native.Mathlib.Omega.{arith}
use lib.Dec.{T, eqb, leb, eqb→eq}
use borrow.Author.Tests.{ne_eqb}
use Rattle.net.specs.Sizes.{letter_room}
use Rattle.lists.proofs.Tests.{T_is, T_not_is, is_T, if_elim}
use Rattle.net.specs.declared.Net.{Net}
use Rattle.net.specs.Values.{network_of}
use Rattle.tally.specs.declared.Tally.{Tally}
use Rattle.world.specs.World.{World, Event, fresh, refusal}
use Rattle.world.proofs.Steps as Steps
use Rattle.state.specs.declared.State.{State}
use Rattle.state.specs.State.{world_of, state_of, stations_hold, letters_hold, state_holds}
use Rattle.state.specs.declared.Begun.{Begun}
use Rattle.state.specs.Beginning.{unread, begun_of}
use Rattle.step_rules.specs.declared.Stepped.{Stepped}
use Rattle.step_rules.specs.Step.{event, refusing, accepting, number_of, stepped_of}
use Rattle.step_rules.specs.Counting.{tallied_by}
use Rattle.report.specs.Asking.{number_of as numberAsked}
use Rattle.report.proofs.Refusals as Ask
use Rattle.report.specs.Answers.{Asked, no_reach, asked_of}
use Rattle.report.proofs.WordShown.{answer_number}
use Rattle.report.specs.ReportsAnswers.{answer_of, output_of}
use Rattle.report.proofs.ReportsRefusals as Told
use Rattle.demands.specs.Given.{net_holds, GoodNet, BadNet}
use Rattle.demands.specs.StateReasons as W
use Rattle.demands.specs.StateReasons.{GoodState, BadState, Fresh, Step, Reach, Report}

bad : {b : Bool} → b ≡ false → T (not b)
bad p = subst⁻¹ (λ (b : Bool). T (not b)) p tt

-- ---- the fresh state
module _ (net : Net) where
  begun_bad : BadNet net → begun_of net ≡ record { answer = 11; state = unread net }
  unfolding begun_of
  begun_bad p = let a = T_not_is (net_holds net) p in simp a

  pub begun_good : GoodNet net → begun_of net ≡ record { answer = 0; state = state_of net (fresh (network_of net)) }
  unfolding begun_of
  begun_good p = let a = T_is (net_holds net) p in simp a

  why_fresh : {n : ℕ} → Fresh net n → (begun_of net).answer ≡ n
  why_fresh (W.eleven p) = ap (λ (b : Begun). b.answer) (begun_bad p)
  why_fresh (W.taken p) = ap (λ (b : Begun). b.answer) (begun_good p)

  fresh_why : Fresh net (begun_of net).answer
  fresh_why = go (net_holds net) refl
    where
      is : {n : ℕ} → Fresh net n → Fresh net (begun_of net).answer
      is x = subst⁻¹ (Fresh net) (why_fresh x) x

      go : (b : Bool) → net_holds net ≡ b → Fresh net (begun_of net).answer
      go true p = is (W.taken (is_T _ p))
      go false p = is (W.eleven (bad p))

  module _ (r : Begun) (p : r ≡ begun_of net) where
    pub fresh_numbers : (n : ℕ) → (r.answer ≡ n) ↔ Fresh net n
    fresh_numbers n =
        let e : r.answer ≡ (begun_of net).answer = ap (λ (b : Begun). b.answer) p in
        ((λ q. subst (Fresh net) (sym e ∙ q) fresh_why), (λ w. e ∙ why_fresh w))

    -- a bad network gives no state: the one beside 11 is not well formed, so that every call refuses it with 11
    unread_bad : BadNet net → BadState (unread net)
    unfolding state_holds unread
    unread_bad q =
        bad (ap (λ (b : Bool). (b && leb 0 letter_room) && (stations_hold (unread net) && letters_hold (unread net)))
        (T_not_is (net_holds net) q))

    pub fresh_none : (r.answer ≡ 0 → ⊥) → BadState r.state
    fresh_none h = go fresh_why (λ z. h (ap (λ (b : Begun). b.answer) p ∙ z))
      where
        go : {n : ℕ} → Fresh net n → (n ≡ 0 → ⊥) → BadState r.state
        go (W.eleven q) h = subst⁻¹ BadState (ap (λ (b : Begun). b.state) (p ∙ begun_bad q)) (unread_bad q)
        go (W.taken q) h = absurd (h refl)

-- ---- the step
module _ (s : State) (kind a b : ℕ) where
  abbrev e : Event
  e = event kind a b

  answer_is : (stepped_of s kind a b).answer ≡ number_of s e
  unfolding stepped_of
  answer_is = go (eqb (number_of s e) 0) refl
    where
      go : (c : Bool) → eqb (number_of s e) 0 ≡ c → (if c then accepting s e else refusing (number_of s e) s).answer ≡ number_of s e
      go true q = sym (eqb→eq (number_of s e) 0 (is_T _ q))
      go false q = refl

  good_number : GoodState s → {n : ℕ} → Steps.Why (world_of s) e n → number_of s e ≡ n
  unfolding number_of
  good_number g w = ap (λ (c : Bool). if c then refusal (world_of s) e else 11) (T_is (state_holds s) g) ∙ Steps.why_refusal (world_of s) e w

  why_number : {n : ℕ} → Step s e n → number_of s e ≡ n
  unfolding number_of
  why_number (W.eleven p) = ap (λ (c : Bool). if c then refusal (world_of s) e else 11) (T_not_is (state_holds s) p)
  why_number (W.six g x) = good_number g (Steps.six x)
  why_number (W.seven g x y) = good_number g (Steps.seven x y)
  why_number (W.eight g x y z) = good_number g (Steps.eight x y z)
  why_number (W.nine g x y z u) = good_number g (Steps.nine x y z u)
  why_number (W.taken g x y z u) = good_number g (Steps.none x y z u)

  number_why : Step s e (number_of s e)
  unfolding number_of
  number_why = if_elim (Step s e) (state_holds s) (λ g. told g (Steps.refusal_why (world_of s) e)) W.eleven
    where
      told : GoodState s → {n : ℕ} → Steps.Why (world_of s) e n → Step s e n
      told g (Steps.none x y z u) = W.taken g x y z u
      told g (Steps.six x) = W.six g x
      told g (Steps.seven x y) = W.seven g x y
      told g (Steps.eight x y z) = W.eight g x y z
      told g (Steps.nine x y z u) = W.nine g x y z u

  module _ (r : Stepped) (p : r ≡ stepped_of s kind a b) where
    answered : r.answer ≡ number_of s e
    answered = ap (λ (x : Stepped). x.answer) p ∙ answer_is

    -- EACH NUMBER WHEN, AND ONLY WHEN, ITS REASON STANDS, in the order 11, 6, 7, 8, 9
    pub step_numbers : (n : ℕ) → (r.answer ≡ n) ↔ Step s e n
    step_numbers n = ((λ q. subst (Step s e) (sym answered ∙ q) number_why), (λ w. answered ∙ why_number w))

    -- a refusal hands back the state it was given, and nothing is counted
    pub step_keeps : (r.answer ≡ 0 → ⊥) → r ≡ refusing r.answer s
    unfolding stepped_of
    step_keeps h =
        p ∙ ap (λ (c : Bool). if c then accepting s e else refusing (number_of s e) s) (ne_eqb (number_of s e) 0 (λ z. h (answered ∙ z)))
        ∙ ap (λ (n : ℕ). refusing n s) (sym answered)

    -- and touches no tally
    pub tally_keeps : (before after : Tally) → after ≡ tallied_by (stepped_of s kind a b) before → (r.answer ≡ 0 → ⊥) → after ≡ before
    tally_keeps before after q h = q ∙ left (stepped_of s kind a b) (λ z. h (ap (λ (x : Stepped). x.answer) p ∙ z))
      where
        left : (x : Stepped) → (x.answer ≡ 0 → ⊥) → tallied_by x before ≡ before
        left x n = let c = ne_eqb x.answer 0 n in simp c

-- ---- the reach and the report
module _ (s : State) (a : ℕ) where
  ask_told : {n : ℕ} → Ask.Why s a n → Reach s a n
  ask_told (Ask.none k) = W.taken k.good k.station k.live
  ask_told (Ask.eleven x) = W.eleven x
  ask_told (Ask.six g h) = W.six g h
  ask_told (Ask.seven g h x) = W.seven g h x

  told_ask : {n : ℕ} → Reach s a n → Ask.Why s a n
  told_ask (W.eleven x) = Ask.eleven x
  told_ask (W.six g h) = Ask.six g h
  told_ask (W.seven g h x) = Ask.seven g h x
  told_ask (W.taken g h x) = Ask.none (record { good = g; station = h; live = x })

  pub reach_numbers : (r : Asked) → r ≡ asked_of s a → (n : ℕ) → (r.answer ≡ n) ↔ Reach s a n
  reach_numbers r p n =
      let e = ap (λ (x : Asked). x.answer) p ∙ answer_number s a in
      ((λ q. subst (Reach s a) (sym e ∙ q) (ask_told (Ask.number_why s a))), (λ w. e ∙ Ask.why_number s a (told_ask w)))

  -- beside a refusal there is no reach
  pub reach_none : (r : Asked) → r ≡ asked_of s a → (r.answer ≡ 0 → ⊥) → r.reached ≡ no_reach
  unfolding asked_of
  reach_none r p h =
      let n : numberAsked s a ≡ 0 → ⊥ = λ z. h (ap (λ (x : Asked). x.answer) p ∙ answer_number s a ∙ z) in
      let c = ne_eqb (numberAsked s a) 0 n in
      ap (λ (x : Asked). x.reached) p ∙ simp c

  module _ (old : List ℕ) where
    report_told : {n : ℕ} → Told.ReportWhy s a old n → Report s a old n
    report_told (Told.given k h) = W.taken k.good k.station k.live h
    report_told (Told.ten k h) = W.ten k.good k.station k.live h
    report_told (Told.refused x p) = go x p
      where
        go : {n : ℕ} → Ask.Why s a n → (n ≡ 0 → ⊥) → Report s a old n
        go (Ask.none k) p = absurd (p refl)
        go (Ask.eleven x) p = W.eleven x
        go (Ask.six g h) p = W.six g h
        go (Ask.seven g h x) p = W.seven g h x

    told_report : {n : ℕ} → Report s a old n → Told.ReportWhy s a old n
    told_report (W.eleven x) = Told.refused (Ask.eleven x) (λ z. omega arith)
    told_report (W.six g h) = Told.refused (Ask.six g h) (λ z. omega arith)
    told_report (W.seven g h x) = Told.refused (Ask.seven g h x) (λ z. omega arith)
    told_report (W.ten g h x l) = Told.ten (record { good = g; station = h; live = x }) l
    told_report (W.taken g h x l) = Told.given (record { good = g; station = h; live = x }) l

    module _ (r : ℕ) (p : r ≡ answer_of s a old) where
      pub report_numbers : (n : ℕ) → (r ≡ n) ↔ Report s a old n
      report_numbers n = (
        (λ q. subst (Report s a old) (sym p ∙ q) (report_told (Told.report_why s a old))),
        (λ w. p
            ∙ Told.why_report s a old (told_report w)),
      )

      pub report_keeps : (out : List ℕ) → out ≡ output_of s a old → (r ≡ 0 → ⊥) → out ≡ old
      report_keeps out o h = o ∙ Told.refused_keeps s a old (λ z. h (p ∙ z))

-- ---- the rules themselves
pub rules_numbers : (w : World) (e : Event) (n : ℕ) → (refusal w e ≡ n) ↔ Steps.Why w e n
rules_numbers w e n = ((λ q. subst (Steps.Why w e) q (Steps.refusal_why w e)), (λ x. Steps.why_refusal w e x))
