use Rattle.std.proofs.Common.{◌≡◌, ℕ, Bool, true, false, List, get_or, refl, ap, sym, ◌∙◌, rules, arith, length-take}
use Rattle.std.specs.Prelude.{if◌then◌else◌}
use Rattle.lists.proofs.Tests.{is_T}
use Rattle.net.specs.declared.Letter.{Letter}
use Rattle.marks.proofs.OwnLinks.{own_word}
use Rattle.station.specs.Events.{counting}
use Rattle.tally.specs.declared.Tally.{Tally}
use Rattle.post.proofs.PostLaws as P
use Rattle.world.specs.World.{refusal}
use Rattle.state.specs.declared.State.{State}
use Rattle.state.specs.State.{world_of, state_holds, Ends64, Sized}
use Rattle.state.proofs.Tested.{placing_begins, placing_more, gathering_begins, gathering_turn, resting_more, all_seen, seen_sized}
use Rattle.step_rules.specs.declared.Stepped.{Stepped}
use Rattle.step_rules.specs.Step.{event, refusing, stepped_of}
use Rattle.step_parts.proofs.Helpers.{placed}
use Rattle.step_parts.proofs.Made.{Facts, stored, refused_bad, refused_event, answer_refusal, few_after, free_within}
use Rattle.step_parts.proofs.Loops.{with_station, closes_more, fills_none, fills_more, fills_end}
use Rattle.step_parts.proofs.Turned.{closing_begins, putting_begins, stays}
use Rattle.step.proofs.step.Goals as goal
use Rattle.step.proofs.step.Goals.{After-answer_by-answer}

-- ---- the two answers: nothing refuses, or a number says no
accepted : (good : Bool) (n r : ℕ) → r ≡ (if good then n else 11) → r ≡ 0 → (good ≡ true) × (n ≡ 0)
accepted true n r e z = (refl, sym e ∙ z)
accepted false n r e z = absurd (never e z)
  where
    never : {r : ℕ} → r ≡ 11 → r ≡ 0 → ⊥
    never e z = omega arith

answered : (n : ℕ) → n ≡ 0 → {t : Tally} {u : State} {r : Stepped} → record { answer = 0; counts = t; state = u } ≡ r
    → record { answer = n; counts = t; state = u } ≡ r
answered n e {t} {u} q = ap (λ (k : ℕ). record { answer = k; counts = t; state = u }) e ∙ q

refused : (s : State) (kind a b n : ℕ) (good : Bool) (m : ℕ) → good ≡ state_holds s → n ≡ (if good then m else 11)
    → (good ≡ true → m ≡ refusal (world_of s) (event kind a b)) → (n ≡ 0 → ⊥) → refusing n s ≡ stepped_of s kind a b
refused s kind a b n true m t e f h = refused_event s kind a b (is_T _ (sym t)) n (e ∙ f refl) h
refused s kind a b n false m t e f h = ap (λ (k : ℕ). refusing k s) e ∙ refused_bad s kind a b (sym t)

-- ---- what the test came to
tested : (c : After-answer_by-answer) → (c.all_hold-good.result ≡ state_holds c.args.s) × Sized c.args.s
tested c =
    let e : Ends64 c.args.s.net = record { low = search rules; high = search rules } in (
      all_seen c.args.s _ c.own_words-owns.ensures _ _ _ c.frame_holds-framed.ensures c.used_places-used.ensures
          c.loop-t.invariant (omega arith) c.loop-x.invariant (omega (arith, length-take {A = Letter})) c.loop-j.invariant (omega arith)
          c.letters_formed-carried.ensures c.all_hold-good.ensures,
      seen_sized c.args.s _ c.loop-t.invariant (omega arith) e (search rules) (search rules),
    )

-- what the code has seen when it has its answer, of a state that is well formed
facts : (c : After-answer_by-answer) → c.all_hold-good.result ≡ true
    → Facts c.args.s c.args.kind c.args.a c.args.b c.kind_of-what.result c.place_of-place.result c.names_of-names.result
    (get_or c.own_words-owns.result c.names_of-names.result.station 0) c.plan_at-plan.result c.told_table-told.result
    c.narrow-send.result c.count-count.result c.room_of-room.result
facts c good =
    let seen = tested c in
    record {
      seen = record {
        sized = seen.1;
        holds = is_T _ (sym seen.0 ∙ good);
        decodes = c.kind_of-what.ensures;
        at = c.place_of-place.ensures;
        names = c.names_of-names.ensures;
        mine = ap (λ (w : List ℕ). get_or w c.names_of-names.result.station 0) c.own_words-owns.ensures
            ∙ own_word _ c.names_of-names.result.station (placed _ _ _ _ _ _ _ c.names_of-names.ensures).station;
        plans = c.plan_at-plan.ensures.1;
      };
      tells = c.told_table-told.ensures;
      sends = c.narrow-send.ensures;
      counts = c.count-count.ensures c.names_of-names.result.station c.told_table-told.result;
      room = c.room_of-room.ensures;
    }

-- where the answer is 0, the state was well formed and no number says no
passed : (c : After-answer_by-answer) → c.answer_by-answer.result ≡ 0 → (c.all_hold-good.result ≡ true) × (c.room_of-room.result.answer ≡ 0)
passed c z = accepted _ _ _ c.answer_by-answer.ensures z

known : (c : After-answer_by-answer) → c.answer_by-answer.result ≡ 0
    → Facts c.args.s c.args.kind c.args.a c.args.b c.kind_of-what.result c.place_of-place.result c.names_of-names.result
    (get_or c.own_words-owns.result c.names_of-names.result.station 0) c.plan_at-plan.result c.told_table-told.result
    c.narrow-send.result c.count-count.result c.room_of-room.result
known c z = facts c (passed c z).0

-- ---- the test
pub loop-t-init : goal.loop-t-init
loop-t-init c = placing_begins c.args.s c.own_words-owns.result

pub loop-t-preserved : goal.loop-t-preserved
loop-t-preserved c = placing_more _ _ c.loop-t.invariant (omega arith) _ _ c.station_place-placed.ensures refl

pub loop-x-init : goal.loop-x-init
loop-x-init c = gathering_begins c.args.s c.own_words-owns.result c.used_places-used.result

pub loop-x-preserved : goal.loop-x-preserved
loop-x-preserved c =
    gathering_turn _ _ c.loop-x.invariant _ c.loop-x-test.true _ _ _ _ _ _ c.joined_ways-ways.ensures c.still_ended-ended.ensures
    c.past_subject.ensures c.larger-most.ensures c.counter_said.ensures c.smaller-least.ensures

pub loop-j-preserved : goal.loop-j-preserved
loop-j-preserved c =
    resting_more _ c.loop-j.invariant (omega arith) c.word_of.result c.word_of-in-loop-j.result c.word_of.ensures
    c.word_of-in-loop-j.ensures

-- ---- the event
pub bounds-s-who : goal.bounds-s-who
bounds-s-who c = (placed _ _ _ _ _ _ _ c.names_of-names.ensures).station

pub bounds-owns-who : goal.bounds-owns-who
bounds-owns-who c = (placed _ _ _ _ _ _ _ c.names_of-names.ensures).station

-- ---- nothing refuses
pub loop-i-init : goal.loop-i-init
loop-i-init c =
    let p = (goal.at.loop-i-init c).After-answer_by-answer in
    let z = c.if-answer-eq0.true in
    closing_begins (known p z) (passed p z).1
    (with_station c.args.s c.names_of-names.result.station (stored c.plan_at-plan.result c.kept_table-kept.result))
    (stored c.plan_at-plan.result c.kept_table-kept.result) refl

pub loop-i-preserved : goal.loop-i-preserved
loop-i-preserved c = closes_more c.loop-i.invariant (omega arith)

pub offset_bounds-s-room : goal.offset_bounds-s-room
offset_bounds-s-room c =
    let p = (goal.at.offset_bounds-s-room c).After-answer_by-answer in
    let z = c.if-answer-eq0.true in
    let h = free_within (known p z) (passed p z).1 in omega (arith, h)

pub bounds-s-room : goal.bounds-s-room
bounds-s-room c =
    let p = (goal.at.bounds-s-room c).After-answer_by-answer in
    let z = c.if-answer-eq0.true in
    free_within (known p z) (passed p z).1

pub slice_bounds-slot-items-end : goal.slice_bounds-slot-items-end
slice_bounds-slot-items-end c =
    let p = (goal.at.slice_bounds-slot-items-end c).After-answer_by-answer in
    let h = few_after (known p c.if-answer-eq0.true) (passed p c.if-answer-eq0.true).1 in
    search (rules, h)

pub loop-slot-init : goal.loop-slot-init
loop-slot-init c =
    let p = (goal.at.loop-slot-init c).After-answer_by-answer in
    let z = c.if-answer-eq0.true in
    fills_none (putting_begins (known p z) (passed p z).1 c.loop-i.s c.begun-post.result (search rules) c.begun-post.ensures) (search rules)

pub bounds-told-subject : goal.bounds-told-subject
bounds-told-subject c = P.subject_few c.loop-slot.post _ c.subject-subject.ensures

pub loop-slot-preserved : goal.loop-slot-preserved
loop-slot-preserved c =
    fills_more c.loop-slot.invariant (omega (arith, c.loop-slot.invariant.size, c.loop-slot-test.true)) _ _ _
    c.subject-subject.ensures c.first.ensures c.rest-post.ensures

-- ---- the answer
pub returns-after-loop-slot : goal.returns-after-loop-slot
returns-after-loop-slot c =
    let p = (goal.at.returns-after-loop-slot c).After-answer_by-answer in
    let z = c.if-answer-eq0.true in
    let put = putting_begins (known p z) (passed p z).1 c.loop-i.s c.begun-post.result (search rules) c.begun-post.ensures in
    answered c.answer_by-answer.result z
    (stays (known p z) (passed p z).1
    (with_station c.args.s c.names_of-names.result.station (stored c.plan_at-plan.result c.kept_table-kept.result))
    (stored c.plan_at-plan.result c.kept_table-kept.result) refl c.loop-i.s _
    c.begun-post.result c.loop-slot.post c.loop-i.i c.count-count.result
    c.loop-i.invariant c.begun-post.ensures
    (fills_end put c.loop-slot.invariant (omega (arith, c.loop-slot.invariant.size, c.loop-slot-test.false))) (omega arith) refl
    c.kept_table-kept.result c.kept_table-kept.ensures refl _ refl).1

pub returns-else-answer-eq0 : goal.returns-else-answer-eq0
returns-else-answer-eq0 c =
    let p = (goal.at.returns-else-answer-eq0 c).After-answer_by-answer in
    let none : c.default-counts.result ≡ counting 0 0 0 = grind arith in
    ap (λ (t : Tally). record { answer = c.answer_by-answer.result; counts = t; state = c.args.s }) none
    ∙ refused c.args.s c.args.kind c.args.a c.args.b _ c.all_hold-good.result c.room_of-room.result.answer
    (tested p).0 c.answer_by-answer.ensures (λ g. answer_refusal (facts p g)) c.if-answer-eq0.false
