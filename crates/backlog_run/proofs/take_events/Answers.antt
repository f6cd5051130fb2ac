-- What `take_events` has seen of an event when it has its answer (`facts`), and what it then makes of the parts in which it holds the
-- state: they mean the state that the step leaves.
use Rattle.std.proofs.Common.{rules, ◌≡◌, ℕ, ◌-◌, ◌+◌, ◌*◌, ◌<◌, ◌≤◌, List, ◌++◌, length, get_or, min, sym, ap, ◌∙◌, refl, arith}
use lib.ListN.{length-set}
use Rattle.net.specs.Sizes.{link_room, letter_room}
use Rattle.sets.specs.Sets.{word_by}
use Rattle.marks.specs.Marks.{own_at}
use Rattle.marks.proofs.OwnLinks.{own_word}
use Rattle.station.specs.Values.{letters_of}
use Rattle.station_plan.specs.Carrying.{told_by, narrowed, kept_by}
use Rattle.state.specs.State.{letter_in}
use Rattle.post.proofs.PostLaws as P
use Rattle.world.specs.World.{no_letter}
use Rattle.step_rules.specs.Step.{refusing, stepped_of}
use Rattle.step_parts.specs.declared.Room.{Room}
use Rattle.step_parts.specs.Parts.{names_by, room_by}
use Rattle.step_parts.proofs.Helpers.{place_few, Placed, placed}
use Rattle.step_parts.proofs.Made.{Facts, refused_event, answer_refusal, left_letters, few_after}
use Rattle.run_rooms.specs.Rooms.{table_in, in_flight, state_in}
use Rattle.run_rooms.proofs.Loops.{mid_long}
use Rattle.run_rooms.proofs.Parts.{letter_in_lem, counter_in_lem}
use Rattle.backlog_run.specs.Events.{event_count}
use Rattle.backlog_run.proofs.Course.{asked_kind, asked_place, course_taken, course_refused, course_stops, course_ends}
use Rattle.backlog_run.proofs.Posting.{lent_long, posts_none, posts_more, posts_end}
use Rattle.backlog_run.proofs.Running.{running_begins, begun_is, running_on, few_fly, telling, Told, told_set, told_none, told_past}
use Rattle.backlog_run.proofs.Running.{table_kept, table_stays, front_few, Closed, plans_at, tells_at, one_leaves, none_closes}
use Rattle.backlog_run.proofs.Running.{front_closed, back_closed, kept_long, turned, went_back}
use Rattle.backlog_run.proofs.Turns.{sent_same, kept_same}
use Rattle.backlog_run.proofs.take_events.Goals as goal
use Rattle.backlog_run.proofs.take_events.Goals.{After-event_at-e, After-names_of-names, After-count-count, After-begun-post}
use Rattle.backlog_run.proofs.take_events.Goals.{After-added-tally}
use Rattle.backlog_run.proofs.take_events.Goals.{then-plan, else-plan}
use Rattle.backlog_run.proofs.take_events.Goals.{then-plan-2+then-plan-lt-MOST_LINKS, else-plan-2}
use Rattle.backlog_run.proofs.take_events.Goals.{else-plan-2-via-then-plan-2+else-plan-lt-MOST_LINKS, else-plan-2-via-else-plan-2}
use Rattle.backlog_run.proofs.take_events.Goals.{then-fate-flying+then-front_closes, then-fate-flying+else-front_closes, else-fate-flying}
use Rattle.backlog_run.proofs.take_events.Goals.{then-plan-3, else-plan-3+else-plan-4}

-- at first the parts are those of the state that was given
pub loop-taken-init : goal.loop-taken-init
loop-taken-init c =
    record {
      within = omega arith;
      whole = c.event_count-n.ensures;
      running = running_begins c.args.s _ _ _ c.held_of-held.ensures c.tables_of-tables.ensures c.moving_room-room.ensures
          c.requires _ _ _ _;
    }

-- ---- what is read is within its room
place_within : (c : After-event_at-e) → c.event_at-e.result.place < letter_room
place_within c =
    place_few c.event_at-e.result.a c.event_at-e.result.place (asked_place _ _ c.event_at-e.result c.event_at-e.ensures)

names_within : (c : After-names_of-names) → Placed c.names_of-names.result
names_within c = placed _ _ _ _ _ _ _ c.names_of-names.ensures

pub overflow_add-at : goal.overflow_add-at
overflow_add-at c =
    omega (arith, place_within (goal.at.overflow_add-at c).After-event_at-e, c.loop-taken.invariant.running.front)

pub offset_bounds-room-at : goal.offset_bounds-room-at
offset_bounds-room-at c =
    omega (arith, place_within (goal.at.offset_bounds-room-at c).After-event_at-e, c.loop-taken.invariant.running.front)

pub bounds-room-at : goal.bounds-room-at
bounds-room-at c =
    omega (arith, place_within (goal.at.bounds-room-at c).After-event_at-e, c.loop-taken.invariant.running.front)

pub bounds-held-who : goal.bounds-held-who
bounds-held-who c = (names_within (goal.at.bounds-held-who c).After-names_of-names).station

pub bounds-owns-who : goal.bounds-owns-who
bounds-owns-who c = (names_within (goal.at.bounds-owns-who c).After-names_of-names).station

pub bounds-tables-on : goal.bounds-tables-on
bounds-tables-on c =
    let w = names_within (goal.at.bounds-tables-on c).After-names_of-names in
    omega (arith, w.station, w.link)

pub bounds-tables-of : goal.bounds-tables-of
bounds-tables-of c =
    let w = names_within (goal.at.bounds-tables-of c).After-names_of-names in
    omega (arith, w.station, w.subject)

-- ---- what the code has seen when it has counted the letters
-- the letter is that of the state
letter_is : (c : After-count-count)
    → c.in_flight-x.result
    ≡ letter_in (state_in c.args.s.net c.loop-taken.held c.loop-taken.tables c.loop-taken.room c.loop-taken.start c.loop-taken.flying)
    c.event_at-e.result.place
letter_is c =
    let l = c.loop-taken in
    let e = c.event_at-e.result in
    c.in_flight-x.ensures
    ∙ letter_in_lem l.room l.start l.flying e.place (place_few e.a e.place (asked_place _ _ e c.event_at-e.ensures))
    (few_fly l.invariant.running)

-- what is sent, by a test or by its function
sent_is : (c : After-count-count)
    → c.if-plan.send
    ≡ narrowed c.plan_event-plan.result.knows (min c.args.s.net.links link_room)
    (telling c.loop-taken.tables c.names_of-names.result.station c.plan_event-plan.result) c.plan_event-plan.result.sends
sent_is c =
    let p = c.plan_event-plan.result in
    let told = telling c.loop-taken.tables c.names_of-names.result.station p in
    elim c.if-plan.branch [
      | then-plan w ↦
          w.send-is ∙ w.narrow-send.ensures
          ∙ ap (λ (t : List ℕ). narrowed p.knows (min c.args.s.net.links link_room) t p.sends)
          (w.told_table-told.ensures ∙ ap (told_by p.sets p.at p.counter) w.table_at-table.ensures)
      | else-plan w ↦ w.send-is ∙ sent_same _ _ told _ w.if-plan.false
    ]

own_is : (c : After-count-count)
    → get_or c.own_words-owns.result c.names_of-names.result.station 0 ≡ word_by (own_at c.args.s.net c.names_of-names.result.station)
own_is c =
    ap (λ (l : List ℕ). get_or l c.names_of-names.result.station 0) c.own_words-owns.ensures
    ∙ own_word _ c.names_of-names.result.station (placed _ _ _ _ _ _ _ c.names_of-names.ensures).station

-- and its answer
facts : (c : After-count-count) (r : Room)
    → r ≡ room_by c.event_at-e.result.what c.loop-taken.flying c.event_at-e.result.place c.plan_event-plan.result.answer
    c.count-count.result c.in_flight-x.result
    → Facts
    (state_in c.args.s.net c.loop-taken.held c.loop-taken.tables c.loop-taken.room c.loop-taken.start c.loop-taken.flying)
    c.event_at-e.result.kind c.event_at-e.result.a c.event_at-e.result.b c.event_at-e.result.what c.event_at-e.result.place
    c.names_of-names.result (get_or c.own_words-owns.result c.names_of-names.result.station 0) c.plan_event-plan.result
    (telling c.loop-taken.tables c.names_of-names.result.station c.plan_event-plan.result) c.if-plan.send c.count-count.result r
facts c r is =
    let l = c.loop-taken in
    let g = l.invariant.running.course.good in
    let e = c.event_at-e.result in
    let net = c.args.s.net in
    let n = c.names_of-names.result in
    let w = placed _ _ _ _ _ _ _ c.names_of-names.ensures in
    let p = c.plan_event-plan.result in
    record {
      seen = record {
        sized = g.sized;
        holds = g.holds;
        decodes = asked_kind _ _ e c.event_at-e.ensures;
        at = asked_place _ _ e c.event_at-e.ensures;
        names = c.names_of-names.ensures ∙ ap (names_by net l.flying e.what e.a e.b) (letter_is c);
        mine = own_is c;
        plans = plans_at net l.held l.tables l.room l.start l.flying n w e.what _ c.in_flight-x.result _ p (letter_is c)
            c.plan_event-plan.ensures.1;
      };
      tells = tells_at net l.held l.tables l.room l.start l.flying n.station w.station p;
      sends = sent_is c;
      counts = c.count-count.ensures n.station (telling l.tables n.station p);
      room = is ∙ ap (room_by e.what l.flying e.place p.answer c.count-count.result) (letter_is c);
    }

-- ---- the event is refused
no_step : (c : After-count-count) (r : Room)
    → r ≡ room_by c.event_at-e.result.what c.loop-taken.flying c.event_at-e.result.place c.plan_event-plan.result.answer
    c.count-count.result c.in_flight-x.result → (r.answer ≡ 0 → ⊥)
    → refusing r.answer
    (state_in c.args.s.net c.loop-taken.held c.loop-taken.tables c.loop-taken.room c.loop-taken.start c.loop-taken.flying)
    ≡ stepped_of
    (state_in c.args.s.net c.loop-taken.held c.loop-taken.tables c.loop-taken.room c.loop-taken.start c.loop-taken.flying)
    c.event_at-e.result.kind c.event_at-e.result.a c.event_at-e.result.b
no_step c r is n =
    let e = c.event_at-e.result in
    let f = facts c r is in
    refused_event _ e.kind e.a e.b f.seen.holds _ (answer_refusal f) n

within : (c : After-count-count) → c.loop-taken.taken < event_count (length c.args.events.now)
within c = omega (arith, c.loop-taken-test.true, c.loop-taken.invariant.whole)

pub returns-then-stops : goal.returns-then-stops
returns-then-stops c =
    let n = (goal.at.returns-then-stops c).After-count-count in
    let l = c.loop-taken in
    let fate = c.room_of-fate.result in
    went_back _ _ c.args.s _ _ _ _ _ _ _ c.args.s.net l.held l.tables l.room l.start l.flying _ _
    (begun_is c.args.s _ _ _ c.held_of-held.ensures c.tables_of-tables.ensures c.moving_room-room.ensures c.requires)
    c.stations_of-after.ensures c.gathered-flown.ensures (few_fly l.invariant.running) l.invariant.running.front
    (course_stops _ _ _ _ _ _ l.tally l.taken l.trace l.invariant.running.course c.event_at-e.result c.event_at-e.ensures (within n)
    fate.answer (no_step n fate c.room_of-fate.ensures c.if-fate-ne0.true) c.if-fate-ne0.true _ c.put_turn.ensures c.if-stops.true)

pub loop-taken-preserved-then-fate-ne0 : goal.loop-taken-preserved-then-fate-ne0
loop-taken-preserved-then-fate-ne0 c =
    let n = (goal.at.loop-taken-preserved-then-fate-ne0 c).After-count-count in
    let l = c.loop-taken in
    let fate = c.room_of-fate.result in
    record {
      within = omega (arith, c.loop-taken-test.true);
      whole = l.invariant.whole;
      running = running_on l.invariant.running
          (course_refused _ _ _ _ _ _ l.tally l.taken l.trace l.invariant.running.course c.event_at-e.result c.event_at-e.ensures
          (within n) fate.answer (no_step n fate c.room_of-fate.ensures c.if-fate-ne0.true) c.if-fate-ne0.true _ c.put_turn.ensures
          c.if-stops.false);
    }

-- ---- the event is taken: where a counter is set
pub bounds-tables-set : goal.bounds-tables-set
bounds-tables-set c =
    let w = names_within (goal.at.bounds-tables-set c).After-names_of-names in
    omega (arith, w.station)

told_now : (c : After-begun-post)
    → Told c.loop-taken.tables c.if-plan-2.tables c.names_of-names.result.station
    (telling c.loop-taken.tables c.names_of-names.result.station c.plan_event-plan.result)
told_now c =
    let p = c.plan_event-plan.result in
    let t = c.loop-taken.tables in
    let me = c.names_of-names.result.station in
    let few = (placed _ _ _ _ _ _ _ c.names_of-names.ensures).station in
    let room : link_room * me + link_room ≤ length t = omega (arith, few, c.loop-taken.invariant.running.tables_size) in
    elim c.if-plan-2.branch [
      | then-plan-2+then-plan-lt-MOST_LINKS w ↦
          told_set t me p.at p.counter room p.sets w.if-plan-2.true w.if-plan-lt-MOST_LINKS.true _ w.tables-is
      | else-plan-2 w ↦ elim w.else-plan-2.branch [
        | else-plan-2-via-then-plan-2+else-plan-lt-MOST_LINKS v ↦
            told_past t me p.at p.counter room p.sets v.if-plan-lt-MOST_LINKS.false _ w.tables-is
        | else-plan-2-via-else-plan-2 v ↦ told_none t me p.at p.counter room p.sets v.if-plan-2.false _ w.tables-is
      ]
    ]

-- ---- where the letters close up
pub copy_within-requires-clause-in_bounds : goal.copy_within-requires-clause-in_bounds
copy_within-requires-clause-in_bounds c =
    omega (arith, place_within (goal.at.copy_within-requires-clause-in_bounds c).After-event_at-e, c.loop-taken.invariant.running.front)

pub copy_within-requires-clause-dest_in_bounds : goal.copy_within-requires-clause-dest_in_bounds
copy_within-requires-clause-dest_in_bounds c =
    omega (
      arith,
      place_within (goal.at.copy_within-requires-clause-dest_in_bounds c).After-event_at-e,
      c.loop-taken.invariant.running.front,
    )

pub overflow_add-at-else-front_closes : goal.overflow_add-at-else-front_closes
overflow_add-at-else-front_closes c =
    omega (arith, place_within (goal.at.overflow_add-at-else-front_closes c).After-event_at-e, c.loop-taken.invariant.running.front)

pub copy_within-requires-else-front_closes-clause-start_le_end : goal.copy_within-requires-else-front_closes-clause-start_le_end
copy_within-requires-else-front_closes-clause-start_le_end c =
    let l = c.loop-taken in
    let f = facts (goal.at.copy_within-requires-else-front_closes-clause-start_le_end c).After-count-count c.room_of-fate.result
    c.room_of-fate.ensures in
    let less = (one_leaves c.args.s.net l.held l.tables l.room l.start l.flying f c.if-fate-ne0.false c.if-fate-flying.true).0 in
    omega (arith, less)

pub copy_within-requires-else-front_closes-clause-in_bounds : goal.copy_within-requires-else-front_closes-clause-in_bounds
copy_within-requires-else-front_closes-clause-in_bounds c =
    let r = c.loop-taken.invariant.running in
    omega (arith, few_fly r, r.front)

pub copy_within-requires-else-front_closes-clause-dest_in_bounds : goal.copy_within-requires-else-front_closes-clause-dest_in_bounds
copy_within-requires-else-front_closes-clause-dest_in_bounds c =
    let r = c.loop-taken.invariant.running in
    let at = goal.at.copy_within-requires-else-front_closes-clause-dest_in_bounds c in
    omega (arith, few_fly r, r.front, place_within at.After-event_at-e)

closed : (c : After-begun-post) (own : ℕ)
    (f : Facts (state_in c.args.s.net c.loop-taken.held c.loop-taken.tables c.loop-taken.room c.loop-taken.start c.loop-taken.flying)
    c.event_at-e.result.kind c.event_at-e.result.a c.event_at-e.result.b c.event_at-e.result.what c.event_at-e.result.place
    c.names_of-names.result own c.plan_event-plan.result
    (telling c.loop-taken.tables c.names_of-names.result.station c.plan_event-plan.result) c.if-plan.send c.count-count.result
    c.room_of-fate.result) (q : c.room_of-fate.result.answer ≡ 0)
    → Closed (left_letters f q) c.room_of-fate.result.left c.if-fate-flying.room c.if-fate-flying.start
closed c own f q =
    let l = c.loop-taken in
    let r = l.invariant.running in
    let net = c.args.s.net in
    let place = c.event_at-e.result.place in
    let left = c.room_of-fate.result.left in
    elim c.if-fate-flying.branch [
      | then-fate-flying+then-front_closes w ↦
          front_closed net l.held l.tables l.room l.start l.flying f q r.room_size r.front w.if-fate-flying.true
          (front_few l.start place left (sym w.front_closes.ensures ∙ w.if-front_closes.true)) _ _ w.copy_within.ensures.len
          w.copy_within.ensures.by_index.0 w.copy_within.ensures.by_index.2 (omega arith) _ _ w.room-is w.start-is
      | then-fate-flying+else-front_closes w ↦
          let b = w.copy_within-else-front_closes.ensures in
          let less = (one_leaves net l.held l.tables l.room l.start l.flying f q w.if-fate-flying.true).0 in
          back_closed net l.held l.tables l.room l.start l.flying f q r.room_size r.front w.if-fate-flying.true _ _ _ b.len
          b.by_index.0 b.by_index.1 refl (omega (arith, less, w.if-fate-flying.true)) _ _ w.room-is w.start-is
      | else-fate-flying w ↦
          none_closes net l.held l.tables l.room l.start l.flying f q r.room_size r.front w.if-fate-flying.false _ _ w.room-is w.start-is
    ]

-- ---- where new ones are put
pub slice_bounds-room-end : goal.slice_bounds-room-end
slice_bounds-room-end c =
    let f = facts (goal.at.slice_bounds-room-end c).After-count-count c.room_of-fate.result c.room_of-fate.ensures in
    let few = few_after f c.if-fate-ne0.false in
    let k = closed c _ f c.if-fate-ne0.false in
    let h : c.if-fate-flying.start + c.room_of-fate.result.left + c.count-count.result ≤ length c.if-fate-flying.room =
    omega (arith, few, k.front, k.size) in
    search (rules, h)

pub loop-z-init : goal.loop-z-init
loop-z-init c =
    let n = (goal.at.loop-z-init c).After-begun-post in
    let f = facts (goal.at.loop-z-init c).After-count-count c.room_of-fate.result c.room_of-fate.ensures in
    let few = few_after f c.if-fate-ne0.false in
    let k = closed n _ f c.if-fate-ne0.false in
    let me = c.names_of-names.result.station in
    let told = table_in c.if-plan-2.tables me in
    posts_none me told c.count-count.result _ c.if-plan.send _ c.begun-post.ensures
    (lent_long c.if-fate-flying.room _ _ (omega (arith, few, k.front, k.size))) (c.count-count.ensures me told)

pub overflow_add-flying : goal.overflow_add-flying
overflow_add-flying c =
    let f = facts (goal.at.overflow_add-flying c).After-count-count c.room_of-fate.result c.room_of-fate.ensures in
    omega (arith, few_after f c.if-fate-ne0.false)

pub bounds-tables-subject : goal.bounds-tables-subject
bounds-tables-subject c =
    let few = (names_within (goal.at.bounds-tables-subject c).After-names_of-names).station in
    let j = P.subject_few c.loop-z.post _ c.subject.ensures in
    omega (arith, few, j)

pub loop-z-preserved : goal.loop-z-preserved
loop-z-preserved c =
    let j = c.subject in
    let few = P.subject_few c.loop-z.post _ j.ensures in
    posts_more c.loop-z.invariant
    (omega (arith, c.loop-z.invariant.size, c.loop-z-test.true)) j.result _ _ _ j.ensures
    (sym (counter_in_lem c.if-plan-2.tables c.names_of-names.result.station j.result few)) c.first.ensures c.rest-post.ensures

-- ---- the table that is kept
pub bounds-held-who-in-loop-taken : goal.bounds-held-who-in-loop-taken
bounds-held-who-in-loop-taken c = (names_within (goal.at.bounds-held-who-in-loop-taken c).After-names_of-names).station

kept_now : (c : After-added-tally) (told kept : List ℕ) → length kept ≡ link_room
    → Told c.loop-taken.tables c.if-plan-2.tables c.names_of-names.result.station told
    → kept ≡ kept_by c.args.s.net c.names_of-names.result.station c.plan_event-plan.result.resets c.plan_event-plan.result.purges told
    → Told c.if-plan-2.tables c.if-plan-3.tables c.names_of-names.result.station kept
kept_now c told kept long t is =
    let net = c.args.s.net in
    let p = c.plan_event-plan.result in
    let me = c.names_of-names.result.station in
    let few = (placed _ _ _ _ _ _ _ c.names_of-names.ensures).station in
    let tables = c.if-plan-2.tables in
    let room : link_room * me + link_room ≤ length tables =
    omega (arith, few, t.others.size, c.loop-taken.invariant.running.tables_size) in
    let same = ap (kept_by net me p.resets p.purges) t.mine ∙ sym is in
    elim c.if-plan-3.branch [
      | then-plan-3 w ↦
          table_kept tables me told kept _ _ room long
          (w.kept_table-kept.ensures ∙ ap (kept_by net me p.resets p.purges) w.table_at-table-then-plan-3.ensures ∙ same)
          (w.tables-is ∙ w.put_table.ensures)
      | else-plan-3+else-plan-4 w ↦
          table_stays tables me kept _
          (kept_same net me p.resets p.purges (table_in tables me) w.if-plan-3.false w.if-plan-4.false ∙ same) w.tables-is
    ]

-- ---- the turn: the parts mean the state that the step leaves
pub loop-taken-preserved : goal.loop-taken-preserved
loop-taken-preserved c =
    let at = goal.at.loop-taken-preserved c in
    let n = at.After-count-count in
    let l = c.loop-taken in
    let r = l.invariant.running in
    let net = c.args.s.net in
    let e = c.event_at-e.result in
    let me = c.names_of-names.result.station in
    let few = (placed _ _ _ _ _ _ _ c.names_of-names.ensures).station in
    let p = c.plan_event-plan.result in
    let told = telling l.tables me p in
    let fate = c.room_of-fate.result in
    let q = c.if-fate-ne0.false in
    let f = facts n fate c.room_of-fate.ensures in
    let k = closed at.After-begun-post _ f q in
    let t = told_now at.After-begun-post in
    let kept = kept_by net me p.resets p.purges told in
    let long = kept_long net l.held l.tables l.room l.start l.flying f q r.course.good few in
    let u = kept_now at.After-added-tally told kept long t refl in
    let start = c.if-fate-flying.start in
    let room = c.if-fate-flying.room in
    let from = start + fate.left in
    let count = c.count-count.result in
    let b : from + (from + count - from) ≤ length room = omega (arith, few_after f q, k.front, k.size) in
    let z = c.loop-z.invariant in
    let posted = posts_end z (omega (arith, c.loop-z-test.false, z.size)) room start fate.left from (from + count - from) refl
    (omega arith) b c.if-plan.send c.begun-post.ensures
    ∙ ap (λ (t : List ℕ). in_flight room start fate.left ++ letters_of me t c.if-plan.send) t.mine in
    let did = turned net l.held l.tables l.room l.start l.flying f q room _ start c.if-plan-2.tables c.if-plan-3.tables k
    posted few r.held_size t u in
    record {
      within = omega (arith, c.loop-taken-test.true);
      whole = l.invariant.whole;
      running = record {
        course = course_taken _ _ _ _ _ _ l.tally l.taken l.trace r.course e c.event_at-e.ensures (within n) _ did refl refl
            c.added-tally.result c.added-tally.ensures _ c.put_turn-in-loop-taken.ensures;
        held_size = length-set l.held me _ ∙ r.held_size;
        tables_size = u.others.size ∙ t.others.size ∙ r.tables_size;
        room_size = mid_long from (from + count - from) room c.loop-z.z-items no_letter (omega (arith, z.size)) b ∙ k.size;
        front = k.front;
      };
    }

pub returns : goal.returns
returns c =
    let l = c.loop-taken in
    let r = l.invariant.running in
    went_back _ _ c.args.s _ _ _ _ _ _ _ c.args.s.net l.held l.tables l.room l.start l.flying _ _
    (begun_is c.args.s _ _ _ c.held_of-held.ensures c.tables_of-tables.ensures c.moving_room-room.ensures c.requires)
    c.stations_of-after-2.ensures c.gathered-flown-2.ensures (few_fly r) r.front
    (course_ends _ _ _ _ _ _ l.tally l.taken l.trace r.course _ (omega arith) l.invariant.whole)
