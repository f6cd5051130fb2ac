-- What stands in a room once a list is laid at its front or in its midst, and in one that a loop fills from its front.
use Rattle.std.specs.Prelude.{if◌then◌else◌}
use Prim.Native.Nat.{ℕ, ◌+◌, ◌-◌, ◌*◌, ◌/◌, ◌%◌, ◌≤◌, ◌<◌, min}
use borrow.Author.Tests.{eq-eqb, ne_eqb}
use borrow.Rule.Slice.PartMut.{put_mid}
use mathlib.Core.Path.{◌≡◌, sym, ap, ap₂, ◌∙◌}
use mathlib.Core.List.{List, ◌++◌, map, append-nil}
use native.Mathlib.Decide.{ℕ_discrete, dec_lt}
use native.Mathlib.Omega.{arith}
use lib.Dec.{eqb}
use lib.ListN.{length, get_or, set, take, drop, replicate, length-take, length-drop, length-append, length-replicate, get_or-eq_default}
use lib.Seq.{drop-length, get_or-take, get_or-drop, ext_get_or}
use Rattle.std.proofs.lemmas.List.{get_or_append_left, get_or-append_right}
use Rattle.lists.specs.Lists.{below, filled}
use Rattle.lists.specs.Places.{roomed}
use Rattle.lists.proofs.Fill.{filled_more, by_places, map_below_same}
use Rattle.lists.proofs.Numbers.{length_map_below, get_or_map_below}
use Rattle.lists.proofs.Rooms.{drop_replicate, length_roomed, roomed_at, roomed_past}
use Rattle.net.specs.Sizes.{station_room, link_room}
use Rattle.station.specs.declared.Station.{Station}
use Rattle.state.specs.State.{beyond}
use Rattle.run_rooms.specs.Rooms.{side_by_side, with_table}

-- a room that is filled from its front, place by place, as far as place k; the rest of it is z still
pub record Filling {A : Type 0} (g : ℕ → A) (size : ℕ) (z : A) (l : List A) (k : ℕ) : Type 0 where
  pub within : k ≤ size
  pub so_far : l ≡ filled g (replicate size z) k

pub fills_none : {A : Type 0} (g : ℕ → A) (size : ℕ) (y z : A) → y ≡ z → Filling g size z (replicate size y) 0
fills_none g size y z e = record { within = omega arith; so_far = ap (replicate size) e }

module _ {A : Type 0} {g : ℕ → A} {size : ℕ} {z : A} {l : List A} {k : ℕ} (f : Filling g size z l k) where
  pub fills_more : k < size → (x : A) → x ≡ g k → Filling g size z (set l k x) (k + 1)
  fills_more h x v =
      record {
        within = omega (arith, h);
        so_far = ap (λ (l : List A). set l k x) f.so_far ∙ ap (set (filled g (replicate size z) k) k) v
            ∙ filled_more g (replicate size z) k (omega (arith, h, length-replicate size z));
      }

  -- all places are filled
  pub fills_all : k ≡ size → l ≡ map g (below size)
  fills_all e =
      let old = replicate size z in
      f.so_far ∙ ap (filled g old) e ∙ ap (λ (n : ℕ). map g (below size) ++ drop n old) (sym (length-replicate size z))
      ∙ ap (λ (l : List A). map g (below size) ++ l) (drop-length old) ∙ append-nil (map g (below size))

-- ---- a list laid at the front of an unused room
module _ {A : Type 0} (size : ℕ) (z : A) (xs : List A) where
  pub laid : (y : A) (new : List A) (n : ℕ) → y ≡ z → new ≡ xs → n ≡ length xs → new ++ drop n (replicate size y) ≡ roomed size z xs
  unfolding roomed
  laid y new n e f h =
      ap₂ (λ (l r : List A). l ++ r) f (drop_replicate n size y ∙ ap₂ (λ (m : ℕ) (x : A). replicate (size - m) x) h e)

  -- place by place, where an unused place is what the list has beyond its end
  pub roomed_map : (g : ℕ → A) → length xs ≤ size → ((j : ℕ) → j < size → get_or xs j z ≡ g j) → roomed size z xs ≡ map g (below size)
  roomed_map g h f =
      ext_get_or z (roomed size z xs) (map g (below size)) (length_roomed size z xs h ∙ sym (length_map_below g size))
      (λ j m. let b : j < size = omega (arith, m, length_roomed size z xs h) in
      go j b (dec_lt j (length xs)) ∙ f j b ∙ sym (get_or_map_below g size j z b))
    where
      go : (j : ℕ) → j < size → Dec (j < length xs) → get_or (roomed size z xs) j z ≡ get_or xs j z
      go j b (yes i) = roomed_at size z xs j z i
      go j b (no i) = roomed_past size z xs j z (omega (arith, i)) b ∙ sym (get_or-eq_default xs z (omega (arith, i)))

-- ---- a part of a list: so many from a start on
module _ {A : Type 0} (xs : List A) (start many : ℕ) where
  pub part_long : length (take many (drop start xs)) ≡ min many (length xs - start)
  part_long = length-take many (drop start xs) ∙ ap (min many) (length-drop start xs)

  pub part_at : (j : ℕ) (d : A) → j < many → get_or (take many (drop start xs)) j d ≡ get_or xs (start + j) d
  part_at j d h = get_or-take many (drop start xs) j d h ∙ get_or-drop start xs j d

  pub part_map : (d : A) → take many (drop start xs) ≡ map (λ j. get_or xs (start + j) d) (below (min many (length xs - start)))
  part_map d =
      let n = min many (length xs - start) in
      by_places d n (take many (drop start xs)) part_long
      ∙ map_below_same (λ j. get_or (take many (drop start xs)) j d) (λ j. get_or xs (start + j) d) n
      (λ j h. part_at j d (omega (arith, h)))

-- ---- a list laid over so many places in the midst of another
module _ {A : Type 0} (first n : ℕ) (old new : List A) (d : A) (size : length new ≡ n) (room : first + n ≤ length old) where
  front : length (take first old) ≡ first
  front = length-take first old ∙ omega arith

  pub mid_long : length (put_mid first n old new) ≡ length old
  mid_long =
      length-append (take first old) (new ++ drop n (drop first old))
      ∙ omega (arith, front, length-append new (drop n (drop first old)), length-drop n (drop first old), length-drop first old)

  pub mid_before : (j : ℕ) → j < first → get_or (put_mid first n old new) j d ≡ get_or old j d
  mid_before j h =
      get_or_append_left (take first old) (new ++ drop n (drop first old)) d j (omega (arith, h, front)) ∙ get_or-take first old j d h

  pub mid_inside : (m : ℕ) → m < n → get_or (put_mid first n old new) (first + m) d ≡ get_or new m d
  mid_inside m h =
      let e : first + m - first ≡ m = omega arith in
      get_or-append_right (take first old) (new ++ drop n (drop first old)) first (first + m) d front (omega arith)
      ∙ ap (λ (k : ℕ). get_or (new ++ drop n (drop first old)) k d) e
      ∙ get_or_append_left new (drop n (drop first old)) d m (omega (arith, h, size))

  pub mid_behind : (j : ℕ) → first + n ≤ j → get_or (put_mid first n old new) j d ≡ get_or old j d
  mid_behind j h =
      get_or-append_right (take first old) (new ++ drop n (drop first old)) first j d front (omega (arith, h))
      ∙ get_or-append_right new (drop n (drop first old)) n (j - first) d size (omega (arith, h))
      ∙ get_or-drop n (drop first old) (j - first - n) d ∙ get_or-drop first old (n + (j - first - n)) d
      ∙ ap (λ (k : ℕ). get_or old k d) (omega (arith, h))

-- ---- one table put among those that stand side by side
pub table_put : (old table new : List ℕ) (i first n k : ℕ) → first ≡ min (length old) (link_room * i)
    → n ≡ min link_room (length old - first) → k ≡ n → length table ≡ link_room → new ≡ take n table
    → put_mid first k old new ≡ with_table old i table
unfolding with_table
table_put old table new i first n k f m q w is =
    ext_get_or 0 (put_mid first k old new) (map g (below (length old)))
    (mid_long first k old new 0 size room ∙ sym (length_map_below g (length old)))
    (λ j h. let b : j < length old = omega (arith, h, mid_long first k old new 0 size room) in
    at j b (ℕ_discrete (j / link_room) i) ∙ sym (get_or_map_below g (length old) j 0 b))
  where
    g : ℕ → ℕ
    g j = if eqb (j / link_room) i then get_or table (j % link_room) 0 else get_or old j 0

    size : length new ≡ k
    size = ap length is ∙ length-take n table ∙ omega arith

    room : first + k ≤ length old
    room = omega arith

    at : (j : ℕ) → j < length old → Dec (j / link_room ≡ i) → get_or (put_mid first k old new) j 0 ≡ g j
    at j h (yes e) =
        let p : j ≡ first + j % link_room = omega (arith, e, f) in
        simp (eq-eqb (j / link_room) i e)
        (ap (λ (m : ℕ). get_or (put_mid first k old new) m 0) p
        ∙ mid_inside first k old new 0 size room (j % link_room) (omega arith) ∙ ap (λ (l : List ℕ). get_or l (j % link_room) 0) is
        ∙ get_or-take n table (j % link_room) 0 (omega arith))
    at j h (no e) = simp (ne_eqb (j / link_room) i e) (go (dec_lt j first))
      where
        go : Dec (j < first) → get_or (put_mid first k old new) j 0 ≡ get_or old j 0
        go (yes b) = mid_before first k old new 0 size room j b
        go (no b) = mid_behind first k old new 0 size room j (omega (arith, b, e, f, m, h))

-- ---- the tables side by side
abbrev pub counter_of : List Station → ℕ → ℕ
counter_of stations j = get_or (get_or stations (j / link_room) beyond).counters (j % link_room) 0

pub counter_at : (stations : List Station) (i k : ℕ) → k < link_room
    → get_or (get_or stations i beyond).counters k 0 ≡ counter_of stations (link_room * i + k)
counter_at stations i k h =
    let p : i ≡ (link_room * i + k) / link_room = omega (arith, h) in
    let q : k ≡ (link_room * i + k) % link_room = omega (arith, h) in
    ap₂ (λ (m n : ℕ). get_or (get_or stations m beyond).counters n 0) p q

-- those of the first k stations
pub record Tabling (stations : List Station) (l : List ℕ) (k : ℕ) : Type 0 where
  pub within : k ≤ station_room
  pub size : length l ≡ station_room * link_room
  pub so_far : (j : ℕ) → j < link_room * k → get_or l j 0 ≡ counter_of stations j

pub tables_none : (stations : List Station) → Tabling stations (replicate (station_room * link_room) 0) 0
tables_none stations =
    record { within = omega arith; size = length-replicate {A = ℕ} (station_room * link_room) 0; so_far = λ j h. absurd (never j h) }
  where
    never : (j : ℕ) → j < link_room * 0 → ⊥
    never j h = omega (arith, h)

module _ {stations : List Station} {l : List ℕ} {k : ℕ} (t : Tabling stations l k) where
  pub tables_more : k < station_room → (new : List ℕ) (n : ℕ) → n ≡ link_room → length new ≡ n → new ≡ (get_or stations k beyond).counters
      → Tabling stations (put_mid (link_room * k) n l new) (k + 1)
  tables_more h new n e w is =
      record {
        within = omega (arith, h);
        size = mid_long (link_room * k) n l new 0 w room ∙ t.size;
        so_far = λ j b. go j b (dec_lt j (link_room * k));
      }
    where
      room : link_room * k + n ≤ length l
      room = omega (arith, h, e, t.size)

      go : (j : ℕ) → j < link_room * (k + 1) → Dec (j < link_room * k)
          → get_or (put_mid (link_room * k) n l new) j 0 ≡ counter_of stations j
      go j b (yes i) = mid_before (link_room * k) n l new 0 w room j i ∙ t.so_far j i
      go j b (no i) =
          let m = j - link_room * k in
          let p : j ≡ link_room * k + m = omega (arith, i) in
          let few : m < link_room = omega (arith, b, i) in
          ap (λ (x : ℕ). get_or (put_mid (link_room * k) n l new) x 0) p
          ∙ mid_inside (link_room * k) n l new 0 w room m (omega (arith, few, e)) ∙ ap (λ (xs : List ℕ). get_or xs m 0) is
          ∙ counter_at stations k m few ∙ ap (counter_of stations) (sym p)

  pub tables_all : k ≡ station_room → l ≡ side_by_side stations
  unfolding side_by_side
  tables_all e =
      by_places 0 (station_room * link_room) l t.size
      ∙ map_below_same (λ j. get_or l j 0) (counter_of stations) (station_room * link_room)
      (λ j h. t.so_far j (omega (arith, e, h)))
