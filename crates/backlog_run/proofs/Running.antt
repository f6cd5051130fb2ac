-- What the loop over the events knows of the parts in which it holds the state; and an event that is taken: the parts that it leaves mean
-- the state that the step leaves.
use Rattle.std.specs.Prelude.{if◌then◌else◌}
use Prim.Native.Nat.{ℕ, ◌+◌, ◌-◌, ◌*◌, ◌%◌, ◌≤◌, ◌<◌, min}
use mathlib.Core.Bool.{Bool, true, false, ◌&&◌}
use mathlib.Core.Logic.{◌⊎◌, inl, inr, ⊎_elim}
use mathlib.Core.Path.{◌≡◌, refl, sym, ap, ap₂, ◌∙◌, subst, subst⁻¹}
use mathlib.Core.List.{List, ◌++◌}
use native.Mathlib.Decide.{ℕ_discrete, dec_lt}
use native.Mathlib.Omega.{arith}
use borrow.Author.Tests.{le-ltb}
use lib.Dec.{T, ltb}
use lib.ListN.{length, get_or, set, take}
use lib.Seq.{set_out, get_or-set_same}
use Rattle.lists.specs.Places.{without, roomed}
use Rattle.lists.proofs.Numbers.{length_map_below}
use Rattle.lists.proofs.Tests.{is_T}
use Rattle.lists.proofs.Rooms.{take_roomed, length_roomed}
use Rattle.net.specs.declared.Letter.{Letter}
use Rattle.net.specs.declared.Net.{Net}
use Rattle.net.specs.Sizes.{station_room, link_room, letter_room}
use Rattle.tally.specs.declared.Tally.{Tally}
use Rattle.station.specs.declared.Kind.{Kind}
use Rattle.station.specs.declared.Sending.{Sending}
use Rattle.station.specs.declared.Station.{Station}
use Rattle.station.specs.Events.{kind_of, takes_letter}
use Rattle.station.specs.Values.{letters_of}
use Rattle.station_plan.specs.declared.Plan.{Plan}
use Rattle.station_plan.specs.Carrying.{told_by, kept_by}
use Rattle.station_plan.specs.Comes.{EventPlans}
use Rattle.station_plan.specs.Plans.{told_in}
use Rattle.world.specs.World.{Event, no_letter, exists, comes, left}
use Rattle.world.proofs.There.{letter_there}
use Rattle.world.proofs.Steps.{refused_there}
use Rattle.state.specs.declared.State.{State}
use Rattle.state.specs.State.{beyond, station_in, letter_in, world_of}
use Rattle.state.proofs.Meaning as M
use Rattle.step_rules.specs.declared.Stepped.{Stepped}
use Rattle.step_rules.specs.Step.{event, stepped_of}
use Rattle.step_rules.proofs.Bridge.{Good, is_step}
use Rattle.step_parts.specs.declared.Names.{Names}
use Rattle.step_parts.specs.declared.Room.{Room}
use Rattle.step_parts.specs.Parts.{PlansAt, fewer_by, room_by}
use Rattle.step_parts.proofs.Helpers.{Placed}
use Rattle.step_parts.proofs.Known as K
use Rattle.step_parts.proofs.Made.{Facts, stored, left_letters, none_refused, new_are, made}
use Rattle.run_rooms.specs.declared.Held.{Held}
use Rattle.run_rooms.specs.Rooms.{held_by, no_held, held_in, side_by_side, table_in, with_table, station_by, spare_room, moving_room}
use Rattle.run_rooms.specs.Rooms.{moving_in, stations_in, in_flight, letters_in, state_in}
use Rattle.run_rooms.proofs.Loops.{counter_of}
use Rattle.std.specs.List.{CopiedTo, SameBelow, SameFrom}
use Rattle.run_rooms.proofs.Moves.{fallen, risen}
use Rattle.run_rooms.proofs.Parts.{whole, counter_in_lem, length_table, station_in_lem, Elsewhere, nowhere, both_elsewhere}
use Rattle.run_rooms.proofs.Parts.{set_elsewhere, set_table, put_elsewhere, put_table, stored_in}
use Rattle.backlog_rules.proofs.Threes.{stopped_at}
use Rattle.backlog_run.specs.Events.{Went}
use Rattle.backlog_run.proofs.Course.{Course, course_begins}

-- ---- between two events
pub record Running (stopping : Bool) (es old : List ℕ) (s₀ : State) (t₀ : Tally) (net : Net) (held : List Held) (tables : List ℕ)
    (room : List Letter) (start flying : ℕ) (t : Tally) (n : ℕ) (trace : List ℕ)
    : Type 0 where
  pub course : Course stopping es old s₀ t₀ (state_in net held tables room start flying) t n trace
  pub held_size : length held ≡ station_room
  pub tables_size : length tables ≡ station_room * link_room
  pub room_size : length room ≡ moving_room
  pub front : start ≤ spare_room

held_long : (ss : List Station) → length (held_in ss) ≡ station_room
unfolding held_in
held_long ss = length_map_below (λ i. held_by (get_or ss i beyond)) station_room

tables_long : (ss : List Station) → length (side_by_side ss) ≡ station_room * link_room
unfolding side_by_side
tables_long ss = length_map_below (counter_of ss) (station_room * link_room)

room_long : (letters : List Letter) → length (moving_in letters) ≡ moving_room
unfolding moving_in
room_long letters = length_roomed moving_room no_letter _ (omega (arith, length_map_below (λ j. get_or letters j no_letter) letter_room))

-- the parts stay as they are where the event is refused
pub running_on : {stopping : Bool} {es old : List ℕ} {s₀ : State} {t₀ : Tally} {net : Net} {held : List Held} {tables : List ℕ}
    {room : List Letter} {start flying : ℕ} {t u : Tally} {n m : ℕ} {trace new : List ℕ}
    → Running stopping es old s₀ t₀ net held tables room start flying t n trace
    → Course stopping es old s₀ t₀ (state_in net held tables room start flying) u m new
    → Running stopping es old s₀ t₀ net held tables room start flying u m new
running_on r c =
    record { course = c; held_size = r.held_size; tables_size = r.tables_size; room_size = r.room_size; front = r.front }

-- no more letters are in flight than the room has places
pub few_fly : {stopping : Bool} {es old : List ℕ} {s₀ : State} {t₀ : Tally} {net : Net} {held : List Held} {tables : List ℕ}
    {room : List Letter} {start flying : ℕ} {t : Tally} {n : ℕ} {trace : List ℕ}
    → Running stopping es old s₀ t₀ net held tables room start flying t n trace → flying ≤ letter_room
few_fly {net = net} {held = held} {tables = tables} {room = room} {start = start} {flying = flying} r =
    M.holds_few (state_in net held tables room start flying) r.course.good.sized r.course.good.holds

-- at first they are the parts of the state that was given
module _ (s : State) (held : List Held) (tables : List ℕ) (room : List Letter) (h : held ≡ held_in s.stations)
    (t : tables ≡ side_by_side s.stations) (r : room ≡ moving_in s.letters) (g : Good s) where
  pub begun_is : state_in s.net held tables room 0 s.flying ≡ s
  begun_is =
      ap (λ (x : List Held). state_in s.net x tables room 0 s.flying) h
      ∙ ap₂ (λ (x : List ℕ) (y : List Letter). state_in s.net (held_in s.stations) x y 0 s.flying) t r
      ∙ whole s g.sized g.holds

  pub running_begins : (stopping : Bool) (es old : List ℕ) (tally : Tally)
      → Running stopping es old (state_in s.net held tables room 0 s.flying) tally s.net held tables room 0 s.flying tally 0 old
  running_begins stopping es old tally =
      record {
        course = course_begins stopping es old (state_in s.net held tables room 0 s.flying) tally (subst⁻¹ Good begun_is g);
        held_size = ap length h ∙ held_long s.stations;
        tables_size = ap length t ∙ tables_long s.stations;
        room_size = ap length r ∙ room_long s.letters;
        front = omega arith;
      }

-- ---- the table that is told, once its counter is set
abbrev pub telling : List ℕ → ℕ → Plan → List ℕ
telling tables me p = told_by p.sets p.at p.counter (table_in tables me)

pub record Told (tables new : List ℕ) (me : ℕ) (told : List ℕ) : Type 0 where
  pub others : Elsewhere tables new me
  pub mine : table_in new me ≡ told

module _ (tables : List ℕ) (me at c : ℕ) (room : link_room * me + link_room ≤ length tables) where
  abbrev told : Bool → List ℕ
  told sets = told_by sets at c (table_in tables me)

  pub told_set : (sets : Bool) → sets ≡ true → at < link_room → (new : List ℕ) → new ≡ set tables (link_room * me + at) c
      → Told tables new me (told sets)
  told_set sets e h new is =
      subst⁻¹ (λ (b : Bool). Told tables new me (told b)) e
      (subst⁻¹ (λ (l : List ℕ). Told tables l me (told true)) is (record {
        others = set_elsewhere tables me at c h (omega (arith, room, h));
        mine = set_table tables me at c h (omega (arith, room, h));
      }))

  as_is : (sets : Bool) (new : List ℕ) → new ≡ tables → table_in tables me ≡ told sets → Told tables new me (told sets)
  as_is sets new is same =
      subst⁻¹ (λ (l : List ℕ). Told tables l me (told sets)) is (record { others = nowhere tables me; mine = same })

  pub told_none : (sets : Bool) → sets ≡ false → (new : List ℕ) → new ≡ tables → Told tables new me (told sets)
  told_none sets e new is = as_is sets new is (sym (ap told e))

  -- a place that the table doesn't have
  pub told_past : (sets : Bool) → link_room ≤ at → (new : List ℕ) → new ≡ tables → Told tables new me (told sets)
  told_past true h new is =
      as_is true new is (sym (set_out (table_in tables me) at c (omega (arith, h, length_table tables me))))
  told_past false h new is = as_is false new is refl

-- ---- the table that is kept
pub table_kept : (tables : List ℕ) (me : ℕ) (told kept kept₁ new : List ℕ) → link_room * me + link_room ≤ length tables
    → length kept ≡ link_room → kept₁ ≡ kept → new ≡ with_table tables me kept₁ → Told tables new me kept
table_kept tables me told kept kept₁ new room size e is =
    subst⁻¹ (λ (l : List ℕ). Told tables l me kept) (is ∙ ap (with_table tables me) e) (record {
      others = put_elsewhere tables me kept;
      mine = put_table tables me kept size room;
    })

pub table_stays : (tables : List ℕ) (me : ℕ) (kept new : List ℕ) → table_in tables me ≡ kept → new ≡ tables → Told tables new me kept
table_stays tables me kept new e is =
    subst⁻¹ (λ (l : List ℕ). Told tables l me kept) is (record { others = nowhere tables me; mine = e })

-- ---- the letters that are left, once the one that leaves is gone
clash : true ≡ false → ⊥
clash e = let z : ◌≡◌ {A = ℕ} 0 1 = cc in omega arith

pub front_few : (start place left : ℕ) → (ltb start spare_room && ltb place (left - place)) ≡ true → start < spare_room
front_few start place left e = go (dec_lt start spare_room)
  where
    go : Dec (start < spare_room) → start < spare_room
    go (yes h) = h
    go (no h) =
        absurd (clash (sym e ∙ ap (λ (c : Bool). c && ltb place (left - place)) (le-ltb start spare_room (omega (arith, h)))))

pub record Closed (letters : List Letter) (left : ℕ) (room : List Letter) (start : ℕ) : Type 0 where
  pub window : in_flight room start left ≡ letters
  pub front : start ≤ spare_room
  pub size : length room ≡ moving_room

-- ---- the letters that are left, by whether one leaves
module _ {s : State} {kind a b : ℕ} {e : Kind} {place : ℕ} {n : Names} {own : ℕ} {p : Plan} {told : List ℕ} {send : Sending} {count : ℕ}
    {r : Room} (f : Facts s kind a b e place n own p told send count r) (q : r.answer ≡ 0) where
  abbrev E : Event
  E = event kind a b

  comes_to_none : (comes (world_of s) E).number ≡ 0
  comes_to_none = go (ℕ_discrete (comes (world_of s) E).number 0)
    where
      go : Dec ((comes (world_of s) E).number ≡ 0) → (comes (world_of s) E).number ≡ 0
      go (yes z) = z
      go (no d) = sym (refused_there (world_of s) E d) ∙ none_refused f q

  named : T (exists (world_of s) E)
  named = K.there f.seen comes_to_none

  flying_is : length (world_of s).letters ≡ s.flying
  flying_is = M.world_flying s f.seen.sized f.seen.holds

  stays : r.left ≡ fewer_by (takes_letter (kind_of kind)) s.flying
  unfolding room_by
  stays =
      ap (λ (y : Room). y.left)
      (f.room ∙ ap (λ (e : Kind). room_by e s.flying place p.answer count (letter_in s place)) f.seen.decodes)

  left_cases : ((left_letters f q ≡ without place (world_of s).letters) × ((place < s.flying) × (r.left + 1 ≡ s.flying)))
      ⊎ ((left_letters f q ≡ (world_of s).letters) × (r.left ≡ s.flying))
  unfolding left
  left_cases = go (takes_letter (kind_of kind)) refl
    where
      xs : List Letter
      xs = (world_of s).letters

      go : (c : Bool) → takes_letter (kind_of kind) ≡ c
          → (((if c then without a xs else xs) ≡ without place xs) × ((place < s.flying) × (r.left + 1 ≡ s.flying)))
          ⊎ (((if c then without a xs else xs) ≡ xs) × (r.left ≡ s.flying))
      go true g =
          let i = K.place_is f.seen named in
          let j = letter_there (world_of s) E (is_T _ g) named in
          let k = stays ∙ ap (λ (c : Bool). fewer_by c s.flying) g in
          inl (ap (λ (n : ℕ). without n xs) (sym i), (omega (arith, i, j, flying_is), omega (arith, j, k, flying_is)))
      go false g = inr (refl, stays ∙ ap (λ (c : Bool). fewer_by c s.flying) g)

-- ---- what is read of the parts is what stands in the state
module _ (net : Net) (held : List Held) (tables : List ℕ) (room : List Letter) (start flying : ℕ) where
  abbrev state : State
  state = state_in net held tables room start flying

  -- the plan is that of the state's letter and station
  pub plans_at : (n : Names) → Placed n → (e : Kind) (own : ℕ) (x y : Letter) (p : Plan) → x ≡ y
      → EventPlans n.there e own n.station n.link x (get_or tables (link_room * n.station + n.link) 0)
      (get_or tables (link_room * n.station + n.subject) 0) (get_or held n.station no_held).condition
      (get_or held n.station no_held).marks p
      → PlansAt n e own y (station_in state n.station) p
  plans_at n w e own x y p is given =
      let me = n.station in
      subst⁻¹ (λ (st : Station). PlansAt n e own y st p) (station_in_lem held tables me w.station)
      (subst (λ (x : Letter). PlansAt n e own x (station_by held tables me) p) is
      (subst⁻¹ (λ (c : ℕ). EventPlans n.there e own me n.link x c (counter n.subject) (get_or held me no_held).condition
      (get_or held me no_held).marks p) (at n.link w.link)
      (subst⁻¹ (λ (c : ℕ). EventPlans n.there e own me n.link x (get_or tables (link_room * me + n.link) 0) c
      (get_or held me no_held).condition (get_or held me no_held).marks p) (at n.subject w.subject) given)))
    where
      counter : ℕ → ℕ
      counter k = get_or (table_in tables n.station) (k % link_room) 0

      at : (k : ℕ) → k < link_room → counter k ≡ get_or tables (link_room * n.station + k) 0
      at k h =
          let m : k % link_room ≡ k = omega (arith, h) in
          ap (λ (j : ℕ). get_or (table_in tables n.station) j 0) m ∙ counter_in_lem tables n.station k h

  pub tells_at : (me : ℕ) → me < station_room → (p : Plan)
      → told_by p.sets p.at p.counter (table_in tables me) ≡ told_in p (station_in state me)
  tells_at me h p = ap (λ (st : Station). told_by p.sets p.at p.counter st.counters) (sym (station_in_lem held tables me h))

-- ---- an event that is taken
module _ (net : Net) (held : List Held) (tables : List ℕ) (room : List Letter) (start flying : ℕ) {kind a b : ℕ} {e : Kind} {place : ℕ}
    {n : Names} {own : ℕ} {p : Plan} {told : List ℕ} {send : Sending} {count : ℕ} {r : Room}
    (f : Facts (state_in net held tables room start flying) kind a b e place n own p told send count r) (q : r.answer ≡ 0) where
  abbrev S : State
  S = state_in net held tables room start flying

  letters_are : (world_of S).letters ≡ in_flight room start flying
  letters_are =
      let xs = in_flight room start flying in
      let m : length xs ≡ flying = length_map_below (λ j. get_or room (start + j) no_letter) flying in
      M.letters_are S f.seen.sized f.seen.holds ∙ ap (λ (k : ℕ). take k (roomed letter_room no_letter xs)) (sym m)
      ∙ take_roomed letter_room no_letter xs

  -- the letters that are left: without the one that leaves, or all
  pub one_leaves : r.left < flying
      → (place ≤ r.left) × ((without place (in_flight room start (r.left + 1)) ≡ left_letters f q) × (r.left + 1 ≡ flying))
  one_leaves h =
      ⊎_elim
      (λ w. (
        omega (arith, w.1.0, w.1.1),
        (ap (λ (k : ℕ). without place (in_flight room start k)) w.1.1 ∙ ap (without place) (sym letters_are) ∙ sym w.0, w.1.1),
      ))
      (λ w. absurd (never w.1))
      (left_cases f q)
    where
      never : r.left ≡ flying → ⊥
      never k = omega (arith, h, k)

  pub none_leaves : flying ≤ r.left → in_flight room start r.left ≡ left_letters f q
  none_leaves h =
      ⊎_elim (λ w. absurd (never w.1.1))
      (λ w. ap (in_flight room start) w.1 ∙ sym letters_are ∙ sym w.0)
      (left_cases f q)
    where
      never : r.left + 1 ≡ flying → ⊥
      never k = omega (arith, h, k)

  module _ (size : length room ≡ moving_room) (front : start ≤ spare_room) where
    pub none_closes : flying ≤ r.left → (room₁ : List Letter) (start₁ : ℕ) → room₁ ≡ room → start₁ ≡ start
        → Closed (left_letters f q) r.left room₁ start₁
    none_closes h room₁ start₁ i j =
        record {
          window = ap₂ (λ (l : List Letter) (k : ℕ). in_flight l k r.left) i j ∙ none_leaves h;
          front = omega (arith, front, j);
          size = ap length i ∙ size;
        }

    pub front_closed : r.left < flying → start < spare_room → (l : List Letter) (n : ℕ) → length l ≡ length room
        → CopiedTo room l start (start + 1) n → SameFrom room l (start + 1 + n) → n ≡ place → (room₁ : List Letter) (start₁ : ℕ)
        → room₁ ≡ l → start₁ ≡ start + 1 → Closed (left_letters f q) r.left room₁ start₁
    front_closed h few l n same moved behind k room₁ start₁ i j =
        record {
          window = ap₂ (λ (l : List Letter) (k : ℕ). in_flight l k r.left) i j
              ∙ risen room l start n moved behind place r.left k (one_leaves h).0 ∙ (one_leaves h).1.0;
          front = omega (arith, few, j);
          size = ap length i ∙ same ∙ size;
        }

    pub back_closed : r.left < flying → (l : List Letter) (at n : ℕ) → length l ≡ length room → CopiedTo room l (at + 1) at n
        → SameBelow room l at → at ≡ start + place → at + n + 1 ≡ start + flying → (room₁ : List Letter) (start₁ : ℕ) → room₁ ≡ l
        → start₁ ≡ start → Closed (left_letters f q) r.left room₁ start₁
    back_closed h l at n same moved before p k room₁ start₁ i j =
        let few = one_leaves h in
        record {
          window = ap₂ (λ (l : List Letter) (k : ℕ). in_flight l k r.left) i j
              ∙ fallen room l at n moved before start place r.left p (omega (arith, k, few.1.1)) few.0 ∙ few.1.0;
          front = omega (arith, front, j);
          size = ap length i ∙ same ∙ size;
        }

  -- the table that it leaves has its room: the state after it is well formed
  pub kept_long : Good S → n.station < station_room → length (kept_by net n.station p.resets p.purges told) ≡ link_room
  kept_long g few =
      let me = n.station in
      let kept = kept_by net me p.resets p.purges told in
      let did = made f q net (set S.stations me (stored p kept)) _ (r.left + count) kept refl refl refl refl refl in
      let after = subst⁻¹ (λ (x : Stepped). Good x.state) did (is_step S kind a b g).good in
      ap (λ (st : Station). length st.counters)
      (sym (get_or-set_same S.stations me (stored p kept) beyond (omega (arith, few, g.sized.stations))))
      ∙ (after.sized.each me few).counters

  -- the parts that it leaves
  pub turned : (room₁ room₂ : List Letter) (start₁ : ℕ) (tables₁ tables₂ : List ℕ)
      → Closed (left_letters f q) r.left room₁ start₁
      → in_flight room₂ start₁ (r.left + count) ≡ in_flight room₁ start₁ r.left ++ letters_of n.station told send
      → n.station < station_room → length held ≡ station_room → Told tables tables₁ n.station told
      → Told tables₁ tables₂ n.station (kept_by net n.station p.resets p.purges told)
      → ◌≡◌ {A = Stepped} (record {
        answer = 0;
        counts = p.counts;
        state = state_in net (set held n.station (record { condition = p.condition; marks = p.marks })) tables₂ room₂ start₁
            (r.left + count);
      })
      (stepped_of S kind a b)
  turned room₁ room₂ start₁ tables₁ tables₂ c m few size x y =
      made f q net _ _ (r.left + count) _ refl refl
      (stored_in held tables tables₂ n.station (record { condition = p.condition; marks = p.marks }) _ few size
      (both_elsewhere x.others y.others) y.mine)
      (ap (roomed letter_room no_letter) (m ∙ ap₂ (λ (x y : List Letter). x ++ y) c.window (new_are f q))) refl

-- ---- the parts are put together again
pub went_back : (stops : Bool) (s₀ s : State) (t₀ : Tally) (es old : List ℕ) (m k : ℕ) (t : Tally) (new : List ℕ) (net : Net)
    (held : List Held) (tables : List ℕ) (room : List Letter) (start flying : ℕ) (stations : List Station) (letters : List Letter)
    → s₀ ≡ s → stations ≡ stations_in held tables
    → letters ≡ letters_in room start (min (min flying letter_room) (moving_room - start)) → flying ≤ letter_room → start ≤ spare_room
    → Went stops s₀ t₀ es old (stopped_at m k t (state_in net held tables room start flying)) new
    → Went stops s t₀ es old (stopped_at m k t (record { net = net; flying = flying; stations = stations; letters = letters })) new
went_back stops s₀ s t₀ es old m k t new net held tables room start flying stations letters e p q few front w =
    let n : min (min flying letter_room) (moving_room - start) ≡ flying = omega (arith, few, front) in
    let z = q ∙ ap (letters_in room start) n in
    let after : ◌≡◌ {A = State} (record { net = net; flying = flying; stations = stations; letters = letters })
    (state_in net held tables room start flying) = (λ i. record { net = net; flying = flying; stations = p i; letters = z i }) in
    subst (λ (x : State). Went stops x t₀ es old (stopped_at m k t (record {
      net = net;
      flying = flying;
      stations = stations;
      letters = letters;
    })) new) e
    (subst⁻¹ (λ (x : State). Went stops s₀ t₀ es old (stopped_at m k t x) new) after w)
