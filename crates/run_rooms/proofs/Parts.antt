-- The state that the parts mean: it is the state that they were made of; what stands at its places; and the stations where one is stored.
use Rattle.std.specs.Prelude.{if◌then◌else◌}
use Prim.Native.Nat.{ℕ, ◌+◌, ◌*◌, ◌/◌, ◌%◌, ◌≤◌, ◌<◌}
use mathlib.Core.Bool.{Bool}
use mathlib.Core.Path.{◌≡◌, refl, sym, ap, ◌∙◌}
use mathlib.Core.List.{List, map}
use native.Mathlib.Decide.{ℕ_discrete, dec_lt}
use native.Mathlib.Omega.{arith}
use borrow.Author.Tests.{eq-eqb, ne_eqb, lt-ltb, le-ltb}
use lib.Dec.{T, eqb, ltb}
use lib.ListN.{length, get_or, set, take, length-set, get_or-eq_default}
use lib.Seq.{get_or-take, length-take-le, get_or-set_same, get_or-set_other, ext_get_or}
use Rattle.lists.specs.Lists.{below}
use Rattle.lists.specs.Places.{roomed}
use Rattle.lists.proofs.Fill.{by_places, map_below_same}
use Rattle.lists.proofs.Numbers.{length_map_below, get_or_map_below}
use Rattle.lists.proofs.Rooms.{roomed_at, roomed_past}
use Rattle.net.specs.declared.Letter.{Letter}
use Rattle.net.specs.Sizes.{station_room, link_room, letter_room}
use Rattle.station.specs.declared.Station.{Station}
use Rattle.world.specs.World.{no_letter}
use Rattle.state.specs.declared.State.{State}
use Rattle.state.specs.State.{beyond, world_of, state_of, state_holds, Sized}
use Rattle.state.proofs.Meaning as M
use Rattle.run_rooms.specs.declared.Held.{Held}
use Rattle.run_rooms.specs.Rooms.{held_by, no_held, held_in, side_by_side, table_in, with_table, station_by, stations_in}
use Rattle.run_rooms.specs.Rooms.{moving_room, moving_in, letters_in, state_in}
use Rattle.run_rooms.proofs.Loops.{counter_of, counter_at}

-- ---- what stands at a place
pub held_at : (stations : List Station) (i : ℕ) → i < station_room
    → get_or (held_in stations) i no_held ≡ held_by (get_or stations i beyond)
unfolding held_in
held_at stations i h = get_or_map_below (λ i. held_by (get_or stations i beyond)) station_room i no_held h

pub counter_in_lem : (tables : List ℕ) (i k : ℕ) → k < link_room → get_or (table_in tables i) k 0 ≡ get_or tables (link_room * i + k) 0
unfolding table_in
counter_in_lem tables i k h = get_or_map_below (λ k. get_or tables (link_room * i + k) 0) link_room k 0 h

pub length_table : (tables : List ℕ) (i : ℕ) → length (table_in tables i) ≡ link_room
unfolding table_in
length_table tables i = length_map_below (λ k. get_or tables (link_room * i + k) 0) link_room

pub station_in_lem : (held : List Held) (tables : List ℕ) (i : ℕ) → i < station_room
    → get_or (stations_in held tables) i beyond ≡ station_by held tables i
unfolding stations_in
station_in_lem held tables i h = get_or_map_below (station_by held tables) station_room i beyond h

-- a letter in flight, or an unused place
pub letter_in_lem : (room : List Letter) (start flying j : ℕ) → j < letter_room → flying ≤ letter_room
    → (if ltb j flying then get_or room (start + j) no_letter else no_letter) ≡ get_or (letters_in room start flying) j no_letter
letter_in_lem room start flying j h few = go (dec_lt j flying)
  where
    f : ℕ → Letter
    f i = get_or room (start + i) no_letter

    go : Dec (j < flying)
        → (if ltb j flying then f j else no_letter) ≡ get_or (roomed letter_room no_letter (map f (below flying))) j no_letter
    go (yes i) =
        ap (λ (c : Bool). if c then f j else no_letter) (lt-ltb j flying i)
        ∙ sym (roomed_at letter_room no_letter (map f (below flying)) j no_letter (omega (arith, i, length_map_below f flying))
        ∙ get_or_map_below f flying j no_letter i)
    go (no i) =
        ap (λ (c : Bool). if c then f j else no_letter) (le-ltb j flying (omega (arith, i)))
        ∙ sym (roomed_past letter_room no_letter (map f (below flying)) j no_letter (omega (arith, i, length_map_below f flying)) h)

-- ---- the parts of a state mean that state
stations_again : (stations : List Station) → length stations ≡ station_room
    → ((i : ℕ) → i < station_room → length (get_or stations i beyond).counters ≡ link_room)
    → stations_in (held_in stations) (side_by_side stations) ≡ stations
unfolding stations_in side_by_side table_in
stations_again stations e each =
    map_below_same (station_by (held_in stations) (side_by_side stations)) (λ i. get_or stations i beyond) station_room same
    ∙ sym (by_places beyond station_room stations e)
  where
    table : (i : ℕ) → i < station_room → table_in (side_by_side stations) i ≡ (get_or stations i beyond).counters
    table i h =
        map_below_same (λ k. get_or (side_by_side stations) (link_room * i + k) 0)
        (λ k. get_or (get_or stations i beyond).counters k 0) link_room
        (λ k l. get_or_map_below (counter_of stations) (station_room * link_room) (link_room * i + k) 0 (omega (arith, h, l))
        ∙ sym (counter_at stations i k l))
        ∙ sym (by_places 0 link_room (get_or stations i beyond).counters (each i h))

    same : (i : ℕ) → i < station_room → station_by (held_in stations) (side_by_side stations) i ≡ get_or stations i beyond
    same i h =
        let p = held_at stations i h in
        let q = table i h in
        (λ j. record { condition = (p j).condition; counters = q j; marks = (p j).marks })

letters_again : (letters : List Letter) (flying : ℕ) → flying ≤ length letters → length letters ≡ letter_room
    → letters ≡ roomed letter_room no_letter (take flying letters) → letters_in (moving_in letters) 0 flying ≡ letters
unfolding moving_in
letters_again letters flying few e is =
    ap (roomed letter_room no_letter)
    (map_below_same (λ j. get_or (moving_in letters) (0 + j) no_letter) (λ j. get_or (take flying letters) j no_letter) flying same
    ∙ sym (by_places no_letter flying (take flying letters) (length-take-le flying letters few))) ∙ sym is
  where
    g : ℕ → Letter
    g j = get_or letters j no_letter

    same : (j : ℕ) → j < flying → get_or (moving_in letters) (0 + j) no_letter ≡ get_or (take flying letters) j no_letter
    same j h =
        let k : j < letter_room = omega (arith, h, few, e) in
        let z : 0 + j ≡ j = omega arith in
        ap (λ (i : ℕ). get_or (moving_in letters) i no_letter) z
        ∙ roomed_at moving_room no_letter (map g (below letter_room)) j no_letter (omega (arith, k, length_map_below g letter_room))
        ∙ get_or_map_below g letter_room j no_letter k ∙ sym (get_or-take flying letters j no_letter h)

pub whole : (s : State) → Sized s → T (state_holds s)
    → state_in s.net (held_in s.stations) (side_by_side s.stations) (moving_in s.letters) 0 s.flying ≡ s
unfolding world_of state_of
whole s z t =
    let few = M.holds_few s z t in
    let p = stations_again s.stations z.stations (λ i h. (z.each i h).counters) in
    let q = letters_again s.letters s.flying (omega (arith, few, z.letters)) z.letters
    (ap (λ (x : State). x.letters) (M.determined s z t)) in
    (λ j. record { net = s.net; flying = s.flying; stations = p j; letters = q j })

-- ---- tables that are the same but for one station's
pub record Elsewhere (old new : List ℕ) (i : ℕ) : Type 0 where
  pub size : length new ≡ length old
  pub same : (j : ℕ) → (j / link_room ≡ i → ⊥) → get_or new j 0 ≡ get_or old j 0

pub nowhere : (tables : List ℕ) (i : ℕ) → Elsewhere tables tables i
nowhere tables i = record { size = refl; same = λ j n. refl }

pub both_elsewhere : {old mid new : List ℕ} {i : ℕ} → Elsewhere old mid i → Elsewhere mid new i → Elsewhere old new i
both_elsewhere p q = record { size = q.size ∙ p.size; same = λ j n. q.same j n ∙ p.same j n }

-- one counter is set
module _ (tables : List ℕ) (i k c : ℕ) (h : k < link_room) (room : link_room * i + k < length tables) where
  pub set_elsewhere : Elsewhere tables (set tables (link_room * i + k) c) i
  set_elsewhere =
      record {
        size = length-set tables (link_room * i + k) c;
        same = λ j n. get_or-set_other tables (link_room * i + k) j c 0 (apart j n);
      }
    where
      apart : (j : ℕ) → (j / link_room ≡ i → ⊥) → j ≡ link_room * i + k → ⊥
      apart j n e = n (omega (arith, e, h))

  pub set_table : table_in (set tables (link_room * i + k) c) i ≡ set (table_in tables i) k c
  set_table =
      ext_get_or 0 (table_in new i) (set (table_in tables i) k c)
      (length_table new i ∙ sym (length-set (table_in tables i) k c ∙ length_table tables i))
      (λ m l. let b : m < link_room = omega (arith, l, length_table new i) in counter_in_lem new i m b ∙ go m b (ℕ_discrete m k))
    where
      new : List ℕ
      new = set tables (link_room * i + k) c

      other : (m : ℕ) → (m ≡ k → ⊥) → link_room * i + m ≡ link_room * i + k → ⊥
      other m n e = n (omega (arith, e))

      go : (m : ℕ) → m < link_room → Dec (m ≡ k) → get_or new (link_room * i + m) 0 ≡ get_or (set (table_in tables i) k c) m 0
      go m b (yes e) =
          ap (λ (n : ℕ). get_or new (link_room * i + n) 0) e ∙ get_or-set_same tables (link_room * i + k) c 0 room
          ∙ sym (ap (λ (n : ℕ). get_or (set (table_in tables i) k c) n 0) e
          ∙ get_or-set_same (table_in tables i) k c 0 (omega (arith, h, length_table tables i)))
      go m b (no n) =
          get_or-set_other tables (link_room * i + k) (link_room * i + m) c 0 (other m n)
          ∙ sym (get_or-set_other (table_in tables i) k m c 0 n ∙ counter_in_lem tables i m b)

-- a table is put anew
module _ (tables : List ℕ) (i : ℕ) (table : List ℕ) where
  abbrev put : ℕ → ℕ
  put j = if eqb (j / link_room) i then get_or table (j % link_room) 0 else get_or tables j 0

  put_size_lem : length (with_table tables i table) ≡ length tables
  unfolding with_table
  put_size_lem = length_map_below put (length tables)

  put_at_lem : (j : ℕ) → j < length tables → get_or (with_table tables i table) j 0 ≡ put j
  unfolding with_table
  put_at_lem j h = get_or_map_below put (length tables) j 0 h

  put_past : (j : ℕ) → length tables ≤ j → get_or (with_table tables i table) j 0 ≡ get_or tables j 0
  put_past j h =
      get_or-eq_default (with_table tables i table) 0 (omega (arith, h, put_size_lem)) ∙ sym (get_or-eq_default tables 0 h)

  pub put_elsewhere : Elsewhere tables (with_table tables i table) i
  put_elsewhere = record { size = put_size_lem; same = λ j n. go j n (dec_lt j (length tables)) }
    where
      go : (j : ℕ) → (j / link_room ≡ i → ⊥) → Dec (j < length tables) → get_or (with_table tables i table) j 0 ≡ get_or tables j 0
      go j n (yes h) =
          put_at_lem j h ∙ ap (λ (c : Bool). if c then get_or table (j % link_room) 0 else get_or tables j 0) (ne_eqb (j / link_room) i n)
      go j n (no h) = put_past j (omega (arith, h))

  pub put_table : length table ≡ link_room → link_room * i + link_room ≤ length tables → table_in (with_table tables i table) i ≡ table
  unfolding table_in
  put_table e room =
      map_below_same (λ k. get_or (with_table tables i table) (link_room * i + k) 0) (λ k. get_or table k 0) link_room
      (λ k h. put_at_lem (link_room * i + k) (omega (arith, h, room)) ∙ mine k h)
      ∙ sym (by_places 0 link_room table e)
    where
      mine : (k : ℕ) → k < link_room → put (link_room * i + k) ≡ get_or table k 0
      mine k h =
          let p : (link_room * i + k) / link_room ≡ i = omega (arith, h) in
          let q : (link_room * i + k) % link_room ≡ k = omega (arith, h) in
          ap (λ (c : Bool). if c then get_or table ((link_room * i + k) % link_room) 0 else get_or tables (link_room * i + k) 0)
          (eq-eqb ((link_room * i + k) / link_room) i p) ∙ ap (λ (m : ℕ). get_or table m 0) q

-- ---- one station is stored
pub stored_in : (held : List Held) (tables new : List ℕ) (i : ℕ) (h : Held) (kept : List ℕ) → i < station_room → length held ≡ station_room
    → Elsewhere tables new i → table_in new i ≡ kept
    → stations_in (set held i h) new
    ≡ set (stations_in held tables) i (record { condition = h.condition; counters = kept; marks = h.marks })
unfolding stations_in table_in
stored_in held tables new i h kept few e others mine =
    ext_get_or beyond (stations_in (set held i h) new) (set (stations_in held tables) i st)
    (length_map_below (station_by (set held i h) new) station_room
    ∙ sym (length-set (stations_in held tables) i st ∙ length_map_below (station_by held tables) station_room))
    (λ j l. let b : j < station_room = omega (arith, l, length_map_below (station_by (set held i h) new) station_room) in
    station_in_lem (set held i h) new j b ∙ go j b (ℕ_discrete j i))
  where
    st : Station
    st = record { condition = h.condition; counters = kept; marks = h.marks }

    away : (j k : ℕ) → (j ≡ i → ⊥) → k < link_room → (link_room * j + k) / link_room ≡ i → ⊥
    away j k n b x = n (omega (arith, b, x))

    go : (j : ℕ) → j < station_room → Dec (j ≡ i) → station_by (set held i h) new j ≡ get_or (set (stations_in held tables) i st) j beyond
    go j b (yes x) =
        let p = ap (λ (n : ℕ). get_or (set held i h) n no_held) x ∙ get_or-set_same held i h no_held (omega (arith, few, e)) in
        let q = ap (table_in new) x ∙ mine in
        (λ y. record { condition = (p y).condition; counters = q y; marks = (p y).marks })
        ∙ sym (ap (λ (n : ℕ). get_or (set (stations_in held tables) i st) n beyond) x
        ∙ get_or-set_same (stations_in held tables) i st beyond
        (omega (arith, few, length_map_below (station_by held tables) station_room)))
    go j b (no n) =
        let p = get_or-set_other held i j h no_held n in
        let q : table_in new j ≡ table_in tables j =
        map_below_same (λ k. get_or new (link_room * j + k) 0) (λ k. get_or tables (link_room * j + k) 0) link_room
        (λ k l. others.same (link_room * j + k) (away j k n l)) in
        (λ y. record { condition = (p y).condition; counters = q y; marks = (p y).marks })
        ∙ sym (get_or-set_other (stations_in held tables) i j st beyond n ∙ station_in_lem held tables j b)
