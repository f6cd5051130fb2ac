-- What a step that knows what it has to know (`Facts`) makes of the state, once nothing refuses the event: the world after it, laid out
-- in zero room; and its answer where something does.
use Rattle.std.specs.Prelude.{if◌then◌else◌}
use Prim.Native.Nat.{ℕ, zero, suc, ◌+◌, ◌≤◌, ◌<◌, min}
use mathlib.Core.Bool.{Bool, true, false}
use mathlib.Core.Path.{◌≡◌, refl, sym, ap, ap₂, ◌∙◌}
use mathlib.Core.List.{List, [], ◌∷◌, ◌++◌, map, append-nil}
use native.Mathlib.Decide.{ℕ_discrete, dec_lt}
use native.Mathlib.Omega.{arith}
use borrow.Author.Tests.{eq-eqb, ne_eqb, lt-ltb, le-ltb, le-leb, lt-leb}
use lib.Dec.{T, eqb, ltb, leb}
use lib.ListN.{length, get_or, set, take, length-append, length-map}
use lib.Seq.{set-get_or}
use Rattle.net.specs.Sizes.{station_room, link_room, letter_room}
use Rattle.lists.specs.Places.{without, roomed, closing}
use Rattle.lists.proofs.Tests.{T_is, is_T}
use Rattle.lists.proofs.Rooms.{closing_none, roomed_set, roomed_less}
use Rattle.lists.proofs.Without.{length_without}
use Rattle.net.specs.declared.Letter.{Letter}
use Rattle.net.specs.declared.Net.{Net}
use Rattle.station.specs.declared.Sending.{Sending}
use Rattle.station.specs.declared.Kind.{Kind}
use Rattle.station.specs.declared.Kind.TheVariants.{NoSuch, Start, Stop, Recovery, IntervalEnd, TimeoutEnd, QuietEnd, Delivery, Loss}
use Rattle.station.specs.declared.Station.{Station}
use Rattle.station.specs.Holding.{Holding}
use Rattle.station.specs.Events.{kind_of, takes_letter}
use Rattle.station.specs.Values.{laid, blank, unmarked, letters_of}
use Rattle.station_plan.specs.declared.Plan.{Plan}
use Rattle.station_plan.specs.Carrying.{kept_by, narrowed}
use Rattle.station_plan.specs.Plans.{told_in, station_by, letters_by}
use Rattle.station_plan.specs.Comes.{room_of}
use Rattle.world.specs.World.{World, Event, no_letter, exists, comes, done, left, after, fits, refusal}
use Rattle.world.proofs.There.{letter_there}
use Rattle.world.proofs.Steps.{refused_there, passes_there, fits_is}
use Rattle.state.specs.declared.State.{State}
use Rattle.state.specs.State.{station_in, letter_in, world_of, state_of, state_holds}
use Rattle.state.proofs.Meaning as M
use Rattle.state.proofs.StationRoom.{Spare, spare_unmarked, spare_laid}
use Rattle.step_rules.specs.declared.Stepped.{Stepped}
use Rattle.step_rules.specs.Step.{event, refusing, accepting, number_of, stepped_of}
use Rattle.step_parts.specs.declared.Names.{Names}
use Rattle.step_parts.specs.declared.Room.{Room}
use Rattle.step_parts.specs.Parts.{fewer_by, room_by}
use Rattle.step_parts.proofs.Known as K
use Rattle.step_parts.proofs.Known.{Seen}

-- ---- the answer by its number
module _ (s : State) (kind a b : ℕ) where
  abbrev e : Event
  e = event kind a b

  by_number : (n : ℕ) → number_of s e ≡ n → (if eqb n 0 then accepting s e else refusing n s) ≡ stepped_of s kind a b
  unfolding stepped_of
  by_number n q = sym (ap (λ (m : ℕ). if eqb m 0 then accepting s e else refusing m s) q)

  pub refused_bad : state_holds s ≡ false → refusing 11 s ≡ stepped_of s kind a b
  unfolding number_of
  refused_bad q = by_number 11 (ap (λ (c : Bool). if c then refusal (world_of s) e else 11) q)

  good_number : T (state_holds s) → number_of s e ≡ refusal (world_of s) e
  unfolding number_of
  good_number t = ap (λ (c : Bool). if c then refusal (world_of s) e else 11) (T_is (state_holds s) t)

  pub refused_event : T (state_holds s) → (n : ℕ) → n ≡ refusal (world_of s) e → (n ≡ 0 → ⊥) → refusing n s ≡ stepped_of s kind a b
  refused_event t n q h =
      sym (ap (λ (c : Bool). if c then accepting s e else refusing n s) (ne_eqb n 0 h)) ∙ by_number n (good_number t ∙ sym q)

  pub accepted_event : T (state_holds s) → refusal (world_of s) e ≡ 0 → accepting s e ≡ stepped_of s kind a b
  accepted_event t q = by_number 0 (good_number t ∙ q)

-- ---- the room that a station is laid over is zero
room_spare : (net : Net) (e : Kind) (st : Station) (h : Holding) → Spare net st → laid net (room_of e st) h ≡ laid net blank h
room_spare net NoSuch st h p = spare_laid net st h p
room_spare net Start st h p = spare_laid net (unmarked st) h (spare_unmarked net st p)
room_spare net Stop st h p = refl
room_spare net Recovery st h p = spare_laid net st h p
room_spare net IntervalEnd st h p = spare_laid net st h p
room_spare net TimeoutEnd st h p = spare_laid net st h p
room_spare net QuietEnd st h p = spare_laid net st h p
room_spare net Delivery st h p = spare_laid net st h p
room_spare net Loss st h p = spare_laid net st h p

map_set : (f : Holding → Station) (l : List Holding) (i : ℕ) (y : Holding) → set (map f l) i (f y) ≡ map f (set l i y)
map_set f [] i y = refl
map_set f (x ∷ l) zero y = refl
map_set f (x ∷ l) (suc i) y = ap (λ (r : List Station). f x ∷ r) (map_set f l i y)

-- ---- the letters that are left, closed up in their room: by whether one leaves
module _ (xs : List Letter) (few : length xs ≤ letter_room) where
  abbrev room : List Letter
  room = roomed letter_room no_letter xs

  closed_as : (t : Bool) (a place last : ℕ) → (t ≡ true → (place ≡ a) × (a < length xs)) → last ≡ fewer_by t (length xs)
      → set (closing (if t then place else last) room last) (if t then last else place)
      (if t then no_letter else get_or room place no_letter)
      ≡ roomed letter_room no_letter (if t then without a xs else xs)
  closed_as true a place last f g =
      let h = f refl in
      ap (λ (i : ℕ). set (closing i room last) last no_letter) h.0
      ∙ roomed_less letter_room no_letter xs a last h.1 few (omega (arith, h.1, g))
  closed_as false a place last f g =
      ap (λ (l : List Letter). set l place (get_or room place no_letter)) (closing_none last room) ∙ set-get_or room place no_letter

left_count : (t : Bool) (a : ℕ) (xs : List Letter) → (t ≡ true → a < length xs)
    → length (if t then without a xs else xs) ≡ fewer_by t (length xs)
left_count true a xs h = omega (arith, length_without a xs (h refl))
left_count false a xs h = refl

-- ---- new letters at the end, one after the other
pub posted_none : (ls new : List Letter) → roomed letter_room no_letter ls ≡ roomed letter_room no_letter (ls ++ take 0 new)
posted_none ls new = ap (roomed letter_room no_letter) (sym (append-nil ls))

-- the station as the code stores it, with this table
abbrev pub stored : Plan → List ℕ → Station
stored p kept = record { condition = p.condition; counters = kept; marks = p.marks }

-- ---- what the code knows when it has its answer
pub record Facts (s : State) (kind a b : ℕ) (e : Kind) (place : ℕ) (n : Names) (own : ℕ) (p : Plan) (told : List ℕ) (send : Sending)
    (count : ℕ) (r : Room) : Type 0 where
  pub seen : Seen s kind a b e place n own p
  pub tells : told ≡ told_in p (station_in s n.station)
  pub sends : send ≡ narrowed p.knows (min s.net.links link_room) told p.sends
  pub counts : count ≡ length (letters_of n.station told send)
  pub room : r ≡ room_by e s.flying place p.answer count (letter_in s place)

module _ {s : State} {kind a b : ℕ} {e : Kind} {place : ℕ} {n : Names} {own : ℕ} {p : Plan} {told : List ℕ} {send : Sending} {count : ℕ}
    {r : Room}
    (f : Facts s kind a b e place n own p told send count r) where
  abbrev w : World
  w = world_of s

  abbrev E : Event
  E = event kind a b

  abbrev me : ℕ
  me = n.station

  abbrev st : Station
  st = station_in s me

  abbrev leaves : Bool
  leaves = takes_letter (kind_of kind)

  room_is : r ≡ room_by (kind_of kind) s.flying place p.answer count (letter_in s place)
  room_is = f.room ∙ ap (λ (e : Kind). room_by e s.flying place p.answer count (letter_in s place)) f.seen.decodes

  abbrev last : ℕ
  last = fewer_by leaves s.flying

  stays : r.left ≡ last
  unfolding room_by
  stays = ap (λ (y : Room). y.left) room_is

  abbrev left₀ : ℕ
  left₀ = r.left

  flying_is : length w.letters ≡ s.flying
  flying_is = M.world_flying s f.seen.sized f.seen.holds

  -- ---- where the plan refuses nothing
  module _ (z : (comes w E).number ≡ 0) where
    there : T (exists w E)
    there = K.there f.seen z

    taken_there : leaves ≡ true → a < length w.letters
    taken_there t = letter_there w E (is_T _ t) there

    left-length₀ : length (left w E) ≡ left₀
    unfolding left
    left-length₀ =
        left_count leaves a w.letters taken_there ∙ ap (fewer_by leaves) flying_is ∙ sym stays

    sent_is : letters_of me told send ≡ (done w E).sent
    unfolding letters_by
    sent_is =
        ap₂ (λ (t : List ℕ) (x : Sending). letters_of me t x) f.tells
        (f.sends ∙ ap (λ (t : List ℕ). narrowed p.knows (min s.net.links link_room) t p.sends) f.tells)
        ∙ (K.acts f.seen z).sent

    count_is : count ≡ length (done w E).sent
    count_is = f.counts ∙ ap length sent_is

    fitting : ◌≡◌ {A = ℕ} (if ltb letter_room (left₀ + count) then 9 else 0) (if fits w E then 0 else 9)
    fitting =
        by (dec_lt letter_room (left₀ + count))
        ∙ ap {B = ℕ} (λ (c : Bool). if c then 0 else 9)
        (ap₂ (λ (m n : ℕ). leb (m + n) letter_room) (sym left-length₀) count_is ∙ sym (fits_is w E))
      where
        by : Dec (letter_room < left₀ + count) → ◌≡◌ {A = ℕ} (if ltb letter_room (left₀ + count) then 9 else 0)
            (if leb (left₀ + count) letter_room then 0 else 9)
        by (yes d) =
            ap {B = ℕ} (λ (c : Bool). if c then 9 else 0) (lt-ltb letter_room (left₀ + count) d)
            ∙ sym (ap {B = ℕ} (λ (c : Bool). if c then 0 else 9) (lt-leb (left₀ + count) letter_room d))
        by (no d) =
            let g : left₀ + count ≤ letter_room = omega arith in
            ap {B = ℕ} (λ (c : Bool). if c then 9 else 0) (le-ltb letter_room (left₀ + count) g)
            ∙ sym (ap {B = ℕ} (λ (c : Bool). if c then 0 else 9) (le-leb (left₀ + count) letter_room g))

  planned : p.answer ≡ (comes w E).number
  planned = K.number_is f.seen

  by_plan : (c : Bool) → eqb p.answer 0 ≡ c → r.answer ≡ (if c then (if ltb letter_room (left₀ + count) then 9 else 0) else p.answer)
  unfolding room_by
  by_plan c e =
      ap (λ (y : Room). y.answer) room_is
      ∙ ap₂ (λ (m : ℕ) (c : Bool). if c then (if ltb letter_room (m + count) then 9 else 0) else p.answer) (sym stays) e

  pub answer_refusal : r.answer ≡ refusal w E
  answer_refusal = go (ℕ_discrete (comes w E).number 0)
    where
      go : Dec ((comes w E).number ≡ 0) → r.answer ≡ refusal w E
      go (yes q) = by_plan true (eq-eqb p.answer 0 (planned ∙ q)) ∙ fitting q ∙ sym (passes_there w E q)
      go (no n) = by_plan false (ne_eqb p.answer 0 (λ (q : p.answer ≡ 0). n (sym planned ∙ q))) ∙ planned ∙ sym (refused_there w E n)

  -- ---- where nothing refuses
  module _ (q : r.answer ≡ 0) where
    none_planned : p.answer ≡ 0
    none_planned = go (ℕ_discrete p.answer 0)
      where
        go : Dec (p.answer ≡ 0) → p.answer ≡ 0
        go (yes n) = n
        go (no n) = sym (by_plan false (ne_eqb p.answer 0 n)) ∙ q

    z₀ : (comes w E).number ≡ 0
    z₀ = sym planned ∙ none_planned

    named₀ : T (exists w E)
    named₀ = there z₀

    pub none_refused : refusal w E ≡ 0
    none_refused = sym answer_refusal ∙ q

    abbrev pub left_letters : List Letter
    left_letters = left w E

    abbrev pub new_letters : List Letter
    new_letters = (done w E).sent

    pub left_length : length left_letters ≡ left₀
    left_length = left-length₀ z₀

    pub new_are : letters_of me told send ≡ new_letters
    new_are = sent_is z₀

    pub new_length : length new_letters ≡ count
    new_length = sym (count_is z₀)

    pub few_after : left₀ + count ≤ letter_room
    few_after = go (dec_lt letter_room (left₀ + count))
      where
        nine : letter_room < left₀ + count → r.answer ≡ 9
        nine d =
            by_plan true (eq-eqb p.answer 0 none_planned)
            ∙ ap {B = ℕ} (λ (c : Bool). if c then 9 else 0) (lt-ltb letter_room (left₀ + count) d)

        go : Dec (letter_room < left₀ + count) → left₀ + count ≤ letter_room
        go (yes d) = absurd (let n = nine d in omega (arith, n, q))
        go (no d) = omega arith

    -- ---- the stations
    old_stations : s.stations ≡ roomed station_room blank (map (laid s.net blank) w.holdings)
    unfolding state_of
    old_stations = ap (λ (x : State). x.stations) (M.determined s f.seen.sized f.seen.holds)

    old_letters : s.letters ≡ roomed letter_room no_letter w.letters
    unfolding state_of
    old_letters = ap (λ (x : State). x.letters) (M.determined s f.seen.sized f.seen.holds)

    station_is : (kept : List ℕ) → kept ≡ kept_by s.net me p.resets p.purges told
        → stored p kept ≡ laid s.net blank (done w E).holding
    unfolding station_by
    station_is kept e =
        ap (stored p) (e ∙ ap (kept_by s.net me p.resets p.purges) f.tells)
        ∙ (K.acts f.seen z₀).station
        ∙ room_spare s.net (kind_of kind) st (done w E).holding
        (M.station_spare s f.seen.sized f.seen.holds me (K.me_real f.seen named₀))

    pub stations_set : (kept : List ℕ) → kept ≡ kept_by s.net me p.resets p.purges told
        → set s.stations me (stored p kept) ≡ roomed station_room blank (map (laid s.net blank) (after w E).holdings)
    unfolding after
    stations_set kept e =
        ap₂ (λ (l : List Station) (x : Station). set l me x) old_stations (station_is kept e)
        ∙ roomed_set station_room blank (map (laid s.net blank) w.holdings) me (laid s.net blank (done w E).holding) there_laid
        ∙ ap (roomed station_room blank) (map_set (laid s.net blank) w.holdings me (done w E).holding)
        ∙ ap (λ (i : ℕ). roomed station_room blank (map (laid s.net blank) (set w.holdings i (done w E).holding)))
        (K.me_is f.seen named₀)
      where
        there_laid : me < length (map (laid s.net blank) w.holdings)
        there_laid =
            omega (
              arith,
              K.me_real f.seen named₀,
              length-map w.holdings (laid s.net blank),
              M.world_holdings s f.seen.sized
                  f.seen.holds,
            )

    -- ---- the letters
    pub closed_up : set (closing r.from s.letters r.left) r.free r.unused ≡ roomed letter_room no_letter left_letters
    unfolding left room_by
    closed_up =
        ap (λ (y : Room). set (closing y.from s.letters y.left) y.free y.unused) room_is
        ∙ ap (λ (l : List Letter). set (closing (if leaves then place else last) l last) (if leaves then last else place)
        (if leaves then no_letter else get_or l place no_letter)) old_letters
        ∙ closed_as w.letters (K.ok f.seen).room leaves a place last (λ t. (K.place_is f.seen named₀, taken_there z₀ t))
        (ap (fewer_by leaves) (sym flying_is))

    -- a loop that closes up stays within the room
    pub closes_within : (r.from ≤ r.left) × (r.from < r.left → r.left < letter_room)
    unfolding room_by
    closes_within = go leaves refl (ap (λ (y : Room). y.from) room_is) stays
      where
        go : (c : Bool) → leaves ≡ c → r.from ≡ (if c then place else fewer_by c s.flying) → left₀ ≡ fewer_by c s.flying
            → (r.from ≤ left₀) × (r.from < left₀ → left₀ < letter_room)
        go true g x y =
            let i = K.place_is f.seen named₀ in
            let j = taken_there z₀ g in
            (omega (arith, x, y, i, j, flying_is), λ h. omega (arith, y, j, (K.ok f.seen).room, flying_is))
        go false g x y = (omega (arith, x, y), λ h. absurd (never h))
          where
            never : r.from < left₀ → ⊥
            never h = omega (arith, x, y, h)

    pub free_within : r.free < letter_room
    unfolding room_by
    free_within = go leaves refl (ap (λ (y : Room). y.free) room_is)
      where
        go : (c : Bool) → leaves ≡ c → r.free ≡ (if c then fewer_by c s.flying else place) → r.free < letter_room
        go true g x = let j = taken_there z₀ g in omega (arith, x, j, (K.ok f.seen).room, flying_is)
        go false g x = omega (arith, x, K.place_is f.seen named₀, K.few_a f.seen named₀)

    -- ---- the state after the event
    pub made : (net : Net) (stations : List Station) (letters : List Letter) (flying : ℕ) (kept : List ℕ) → net ≡ s.net
        → kept ≡ kept_by s.net me p.resets p.purges told → stations ≡ set s.stations me (stored p kept)
        → letters ≡ roomed letter_room no_letter (left_letters ++ new_letters) → flying ≡ left₀ + count
        → ◌≡◌ {A = Stepped} (record {
          answer = 0;
          counts = p.counts;
          state = record
              { net = net; flying = flying; stations = stations; letters = letters };
        })
        (stepped_of s kind a b)
    unfolding state_of after
    made net stations letters flying kept c k x y v =
        let t : p.counts ≡ (comes w E).counts = (K.acts f.seen z₀).counts in
        let n : flying ≡ length (left_letters ++ new_letters) = v ∙ ap₂ (λ (i j : ℕ). i + j) (sym left_length) (sym new_length)
        ∙ sym (length-append left_letters new_letters) in
        let g = x ∙ stations_set kept k in
        (λ i. record { answer = 0; counts = t i; state = record { net = c i; flying = n i; stations = g i; letters = y i } })
        ∙ accepted_event s kind a b f.seen.holds none_refused
