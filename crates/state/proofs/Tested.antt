-- The test of a whole state: what its three loops have seen so far, with a law for the beginning, for one turn and for the end; and that
-- what they have seen in the end is the definition. Two walks cite them: the test's own and the network's step, which has the same loops.
use Rattle.std.specs.Prelude.{if◌then◌else◌}
use Prim.Native.Nat.{ℕ, ◌+◌, ◌-◌, ◌*◌, ◌/◌, ◌%◌, ◌≤◌, ◌<◌, min, max}
use mathlib.Core.Bool.{Bool, true, false, ◌&&◌, ◌||◌}
use mathlib.Core.Path.{◌≡◌, refl, sym, ap, ap₂, ◌∙◌, subst, subst⁻¹}
use mathlib.Core.List.{List}
use native.Mathlib.Decide.{dec_lt, ℕ_discrete}
use native.Mathlib.Omega.{arith}
use lib.Bits.{bit_or}
use lib.Dec.{T, eqb, ltb, leb, leb→le}
use lib.ListN.{length, get_or, take, length-take}
use lib.Seq.{get_or-take}
use borrow.Author.Tests.{eq-eqb, ne_eqb, lt-ltb, le-ltb, le-leb}
use Rattle.lists.specs.Lists.{every, below}
use Rattle.lists.specs.Words.{in_word}
use Rattle.lists.proofs.Tests.{and_l, and_r, and_i, and_assoc, is_T, same_test, or_left}
use Rattle.lists.proofs.Numbers.{below_at, at_below}
use Rattle.lists.proofs.Fill.{get_d_any}
use Rattle.net.specs.declared.Letter.{Letter}
use Rattle.net.specs.Letters.{letter_holds}
use Rattle.net.specs.Values.{network_of}
use Rattle.net.specs.Sizes.{station_room, link_room, letter_room}
use Rattle.sheet_rules.specs.Values.{net_holds}
use Rattle.marks.specs.Marks.{own_words}
use Rattle.marks.proofs.OwnLinks.{own_word}
use Rattle.state_rules.specs.Carried.{past_subject, counter_holds, way_test, letter_test, in_rooms, gathered_hold}
use Rattle.state_rules.proofs.Gathered.{gather_more, gather_both, or_zero, most_more, least_more}
use Rattle.world.specs.World.{no_letter}
use Rattle.state.specs.declared.State.{State}
use Rattle.state.specs.State.{station_in, letter_in, station_place, place_test, letter_place, is_no_letter, stations_hold}
use Rattle.state.specs.State.{letters_hold, state_holds, Fits, Ends64, Sized}
use Rattle.state.proofs.Places.{place_is, letter_seen}

-- two tests of the same numbers that agree below n
every_same : (p q : ℕ → Bool) (n : ℕ) → ((k : ℕ) → k < n → p k ≡ q k) → every p (below n) ≡ every q (below n)
every_same p q n e =
    same_test (every p (below n)) (every q (below n)) (λ t. at_below q n (λ k h. subst T (e k h) (below_at p n t k h)))
    (λ t. at_below p n (λ k h. subst⁻¹ T (e k h) (below_at q n t k h)))

-- ---- an unused place of the letters, as one number
sum_zero : (a b : ℕ) (c : Bool) → eqb b 0 ≡ c → eqb (a + b) 0 ≡ (eqb a 0 && c)
sum_zero a b c e = go (ℕ_discrete a 0) (ℕ_discrete b 0) ∙ ap (λ (x : Bool). eqb a 0 && x) e
  where
    go : Dec (a ≡ 0) → Dec (b ≡ 0) → eqb (a + b) 0 ≡ (eqb a 0 && eqb b 0)
    go (yes p) (yes q) = eq-eqb (a + b) 0 (omega arith) ∙ sym (ap₂ (λ (x y : Bool). x && y) (eq-eqb a 0 p) (eq-eqb b 0 q))
    go (yes p) (no q) = ne_eqb (a + b) 0 (λ r. q (omega arith)) ∙ sym (ap₂ (λ (x y : Bool). x && y) (eq-eqb a 0 p) (ne_eqb b 0 q))
    go (no p) d = ne_eqb (a + b) 0 (λ r. p (omega arith)) ∙ sym (ap (λ (x : Bool). x && eqb b 0) (ne_eqb a 0 p))

same_zero : (a b : ℕ) → (a ≡ 0 → b ≡ 0) → (b ≡ 0 → a ≡ 0) → eqb a 0 ≡ eqb b 0
same_zero a b f g = go (ℕ_discrete a 0)
  where
    go : Dec (a ≡ 0) → eqb a 0 ≡ eqb b 0
    go (yes p) = eq-eqb a 0 p ∙ sym (eq-eqb b 0 (f p))
    go (no p) = ne_eqb a 0 p ∙ sym (ne_eqb b 0 (λ q. p (g q)))

pub word_zero : (l s t : ℕ) (b : Bool) → eqb t 0 ≡ b → eqb (l + s * 65536 + t * 4294967296) 0 ≡ (eqb l 0 && eqb s 0 && b)
word_zero l s t b e =
    sum_zero (l + s * 65536) (t * 4294967296) b (same_zero (t * 4294967296) t (λ p. omega arith) (λ p. omega arith) ∙ e)
    ∙ ap (λ (x : Bool). x && b) (sum_zero l (s * 65536) (eqb s 0) (same_zero (s * 65536) s (λ p. omega arith) (λ p. omega arith)))

-- ---- the third loop: the places beyond the letters, from two starts at once
module _ (s : State) where
  abbrev pub free_at : ℕ → Bool
  free_at t = is_no_letter (letter_in s t)

  abbrev pub both_free : ℕ → ℕ → ℕ → Bool
  both_free used half t = free_at (used + t) && free_at ((letter_room - half) + t)

  pub record Resting (used half rest j : ℕ) : Type 0 where
    pub few : used ≤ letter_room
    pub halves : half ≡ (letter_room - used + 1) / 2
    pub within : j ≤ half
    pub clean : eqb rest 0 ≡ every (both_free used half) (below j)

  pub resting_begins : (used half : ℕ) → used ≤ letter_room → half ≡ (letter_room - used + 1) / 2 → Resting used half 0 0
  resting_begins used half h e = record { few = h; halves = e; within = omega arith; clean = refl }

  pub resting_more : {used half rest j : ℕ} → Resting used half rest j → j < half → (w v : ℕ) → eqb w 0 ≡ free_at (used + j)
      → eqb v 0 ≡ free_at ((letter_room - half) + j) → Resting used half (bit_or rest (bit_or w v)) (j + 1)
  resting_more {used} {half} {rest} {j} r h w v e d =
      record {
        few = r.few;
        halves = r.halves;
        within = omega arith;
        clean = gather_more (both_free used half) j _ _ r.clean (or_zero rest (bit_or w v) ∙ ap (λ (b : Bool). eqb rest 0 && b)
            (or_zero w v ∙ ap₂ (λ (a b : Bool). a && b) e d));
      }

  -- together they go through all of them
  abbrev rest_at : ℕ → ℕ → Bool
  rest_at used t = ltb t used || free_at t

  module _ (used half : ℕ) (few : used ≤ letter_room) (e : half ≡ (letter_room - used + 1) / 2) where
    rest_from : T (every (both_free used half) (below half)) → (t : ℕ) → t < letter_room → used ≤ t → T (free_at t)
    rest_from u t h l = go (dec_lt t (used + half))
      where
        go : Dec (t < used + half) → T (free_at t)
        go (yes p) =
            subst (λ (k : ℕ). T (free_at k)) (omega arith) (and_l (free_at (used + (t - used))) _
            (below_at (both_free used half) half u (t - used) (omega arith)))
        go (no p) =
            let i : ℕ = t - (letter_room - half) in
            subst (λ (k : ℕ). T (free_at k)) (omega arith) (and_r (free_at (used + i)) _
            (below_at (both_free used half) half u i (omega arith)))

    rest_all : every (both_free used half) (below half) ≡ every (rest_at used) (below letter_room)
    rest_all =
        same_test (every (both_free used half) (below half)) (every (rest_at used) (below letter_room))
        (λ u. at_below (rest_at used) letter_room (λ t h. forth u t h (dec_lt t used)))
        (λ u. at_below (both_free used half) half (λ t h. and_i (free_at (used + t)) _ (back u (used + t) (omega arith) (omega arith))
        (back u ((letter_room - half) + t) (omega arith) (omega arith))))
      where
        forth : T (every (both_free used half) (below half)) → (t : ℕ) → t < letter_room → Dec (t < used) → T (rest_at used t)
        forth u t h (yes p) = or_left (ltb t used) _ (is_T _ (lt-ltb t used p))
        forth u t h (no p) =
            subst⁻¹ (λ (b : Bool). T (b || free_at t)) (le-ltb t used (omega arith)) (rest_from u t h (omega arith))

        back : T (every (rest_at used) (below letter_room)) → (t : ℕ) → t < letter_room → used ≤ t → T (free_at t)
        back u t h l = subst (λ (b : Bool). T (b || free_at t)) (le-ltb t used l) (below_at (rest_at used) letter_room u t h)

  resting_ends : {used half rest j : ℕ} → Resting used half rest j → half ≤ j → eqb rest 0 ≡ every (rest_at used) (below letter_room)
  resting_ends {used} {half} {rest} {j} r h =
      r.clean ∙ ap (λ (n : ℕ). every (both_free used half) (below n)) all ∙ rest_all used half r.few r.halves
    where
      all : j ≡ half
      all = omega (arith, r.within)

module _ (s : State) (owns : List ℕ) where
  -- ---- the first loop: the stations
  abbrev pub placed_at : ℕ → Bool
  placed_at t = place_test s.net.links (ltb t s.net.stations) (get_or owns t 0) (station_in s t)

  pub record Placing (placed : Bool) (i : ℕ) : Type 0 where
    pub within : i ≤ station_room
    pub right : placed ≡ every placed_at (below i)
    pub fits : (t : ℕ) → t < i → Fits (station_in s t)

  pub placing_begins : Placing true 0
  placing_begins = record { within = omega arith; right = refl; fits = λ t h. absurd (never h) }
    where
      never : {t : ℕ} → t < 0 → ⊥
      never h = omega arith

  pub placing_more : {placed : Bool} {i : ℕ} → Placing placed i → i < station_room → (r b : Bool)
      → (r ≡ placed_at i) × Fits (station_in s i) → b ≡ (placed && r) → Placing b (i + 1)
  placing_more {placed} {i} p h r b e d =
      record {
        within = omega arith;
        right = gather_more placed_at i placed b p.right (d ∙ ap (λ (x : Bool). placed && x) e.0);
        fits = λ t l. go t l (ℕ_discrete i t);
      }
    where
      go : (t : ℕ) → t < i + 1 → Dec (i ≡ t) → Fits (station_in s t)
      go t l (yes q) = subst (λ (k : ℕ). Fits (station_in s k)) q e.1
      go t l (no n) = p.fits t (omega arith)

  -- ---- the second: the letters in flight
  abbrev pub way_at : ℕ → Bool
  way_at t = way_test (letter_in s t)

  abbrev pub owned_at : ℕ → Bool
  owned_at t = in_word (get_or owns ((letter_in s t).sender % station_room) 0) ((letter_in s t).link % link_room)

  abbrev pub counted_at : ℕ → Bool
  counted_at t = counter_holds (letter_in s t).body

  abbrev pub told_at : ℕ → Bool
  told_at t = leb (past_subject (letter_in s t).body) s.net.links

  pub record Gathering (used ways ended most least j : ℕ) : Type 0 where
    pub within : j ≤ used
    pub rooms : in_rooms ways ≡ every way_at (below j)
    pub ends : in_word ended 0 ≡ every owned_at (below j)
    pub told : leb most s.net.links ≡ every told_at (below j)
    pub counts : leb 1 least ≡ every counted_at (below j)

  pub gathering_begins : (used : ℕ) → Gathering used 0 1 0 1 0
  gathering_begins used =
      record { within = omega arith; rooms = refl; ends = refl; told = le-leb 0 s.net.links (omega arith); counts = refl }

  pub gathering_more : {used ways ended most least j : ℕ} → Gathering used ways ended most least j → j < used → (w e m l p c : ℕ)
      → in_rooms w ≡ (in_rooms ways && way_test (letter_in s j)) → in_word e 0 ≡ (in_word ended 0 && owned_at j)
      → p ≡ past_subject (letter_in s j).body → m ≡ max most p
      → leb 1 c ≡ counter_holds (letter_in s j).body → l ≡ min least c
      → Gathering used w e m l (j + 1)
  gathering_more {used} {ways} {ended} {most} {least} {j} g h w e m l p c ew ee ep em ec el =
      record {
        within = omega arith;
        rooms = gather_more way_at j _ _ g.rooms ew;
        ends = gather_more owned_at j _ _ g.ends ee;
        told = gather_more told_at j _ _ g.told (ap (λ (n : ℕ). leb n s.net.links) em ∙ most_more most p s.net.links
            ∙ ap (λ (n : ℕ). leb most s.net.links && leb n s.net.links) ep);
        counts = gather_more counted_at j _ _ g.counts (ap (leb 1) el ∙ least_more least c 1
            ∙ ap (λ (b : Bool). leb 1 least && b) ec);
      }

  -- the same by the letter that the loop sees
  pub gathering_turn : {used ways ended most least j : ℕ} → Gathering used ways ended most least j → (d : Letter)
      → j < length (take used s.letters) → (w e m l p c : ℕ)
      → in_rooms w ≡ (in_rooms ways && way_test (get_or (take used s.letters) j d))
      → in_word e 0 ≡ (in_word ended 0 && in_word (get_or owns ((get_or (take used s.letters) j d).sender % station_room) 0)
      ((get_or (take used s.letters) j d).link % link_room))
      → p ≡ past_subject (get_or (take used s.letters) j d).body → m ≡ max most p
      → leb 1 c ≡ counter_holds (get_or (take used s.letters) j d).body → l ≡ min least c
      → Gathering used w e m l (j + 1)
  gathering_turn {used} {ways} {ended} {most} {least} {j} g d h w e m l p c ew ee ep em ec el =
      let x : get_or (take used s.letters) j d ≡ letter_in s j =
      get_d_any (take used s.letters) j d no_letter h ∙ get_or-take used s.letters j no_letter (omega (arith, length-take used s.letters)) in
      gathering_more g (omega (arith, length-take used s.letters)) w e m l p c
      (ew ∙ ap (λ (y : Letter). in_rooms ways && way_test y) x)
      (ee ∙ ap (λ (y : Letter). in_word ended 0 && in_word (get_or owns (y.sender % station_room) 0) (y.link % link_room)) x)
      (ep ∙ ap (λ (y : Letter). past_subject y.body) x) em (ec ∙ ap (λ (y : Letter). counter_holds y.body) x) el

  -- ---- all is seen
  abbrev frame : Bool
  frame = net_holds s.net && leb s.flying letter_room

  module _ (e : owns ≡ own_words s.net) where
    stations_are : {placed : Bool} {i : ℕ} → Placing placed i → i ≡ station_room → placed ≡ stations_hold s
    unfolding stations_hold
    stations_are {placed} {i} p q =
        p.right ∙ ap (λ (n : ℕ). every placed_at (below n)) q
        ∙ every_same placed_at (λ t. station_place s.net t (station_in s t)) station_room
        (λ t h. place_is s.net t (station_in s t) (get_or owns t 0) (p.fits t (omega arith))
        (ap (λ (w : List ℕ). get_or w t 0) e ∙ own_word s.net t h))

    module _ (t : T frame) where
      abbrev flies : ℕ → Bool
      flies k = letter_holds (network_of s.net) (letter_in s k)

      carried_are : {ways ended most least j : ℕ} → Gathering s.flying ways ended most least j → j ≡ s.flying
          → gathered_hold s.net.links ways ended most least ≡ every flies (below s.flying)
      carried_are {ways} {ended} {most} {least} {j} g q =
          ap₂ (λ (a b : Bool). ((a && b) && leb most s.net.links) && leb 1 least) g.rooms g.ends
          ∙ ap₂ (λ (a b : Bool). ((every way_at (below j) && every owned_at (below j)) && a) && b) g.told g.counts
          ∙ ap (λ (b : Bool). (b && every told_at (below j)) && every counted_at (below j))
          (gather_both way_at owned_at j)
          ∙ ap (λ (b : Bool). b && every counted_at (below j))
          (gather_both (λ t. way_at t && owned_at t) told_at j)
          ∙ gather_both (λ t. (way_at t && owned_at t) && told_at t) counted_at j
          ∙ ap (λ (n : ℕ). every one (below n)) q
          ∙ every_same one flies s.flying
          (λ k h. letter_seen s.net (letter_in s k) (and_l (net_holds s.net) _ t) owns e)
        where
          one : ℕ → Bool
          one k = letter_test s.net.links (get_or owns ((letter_in s k).sender % station_room) 0) (letter_in s k)

      abbrev letter_at : ℕ → Bool
      letter_at j = letter_place s.net s.flying j (letter_in s j)

      few : s.flying ≤ letter_room
      few = leb→le s.flying letter_room (and_r (net_holds s.net) _ t)

      letters_are : (every flies (below s.flying) && every (rest_at s s.flying) (below letter_room)) ≡ letters_hold s
      unfolding letters_hold
      letters_are =
          same_test (every flies (below s.flying) && every (rest_at s s.flying) (below letter_room)) (every letter_at (below letter_room))
          (λ u. at_below letter_at letter_room (λ k h. forth k (and_l (every flies (below s.flying)) _ u)
          (below_at (rest_at s s.flying) letter_room (and_r (every flies (below s.flying)) _ u) k h) (dec_lt k s.flying)))
          (λ u. and_i (every flies (below s.flying)) _
          (at_below flies s.flying (λ k h. subst (λ (b : Bool). T (if b then flies k else free_at s k)) (lt-ltb k s.flying h)
          (below_at letter_at letter_room u k (omega (arith, few)))))
          (at_below (rest_at s s.flying) letter_room (λ k h. back k (below_at letter_at letter_room u k h) (dec_lt k s.flying))))
        where
          forth : (k : ℕ) → T (every flies (below s.flying)) → T (rest_at s s.flying k) → Dec (k < s.flying) → T (letter_at k)
          forth k f r (yes h) =
              subst⁻¹ (λ (b : Bool). T (if b then flies k else free_at s k)) (lt-ltb k s.flying h)
              (below_at flies s.flying f k h)
          forth k f r (no h) =
              let d = le-ltb k s.flying (omega arith) in
              subst⁻¹ (λ (b : Bool). T (if b then flies k else free_at s k)) d
              (subst (λ (b : Bool). T (b || free_at s k)) d r)

          back : (k : ℕ) → T (letter_at k) → Dec (k < s.flying) → T (rest_at s s.flying k)
          back k u (yes h) = or_left (ltb k s.flying) _ (is_T _ (lt-ltb k s.flying h))
          back k u (no h) =
              let d = le-ltb k s.flying (omega arith) in
              subst⁻¹ (λ (b : Bool). T (b || free_at s k)) d
              (subst (λ (b : Bool). T (if b then flies k else free_at s k)) d u)

    pub all_seen : {placed : Bool} {i used ways ended most least j half rest k : ℕ} (framed carried r : Bool) → framed ≡ frame
        → used ≡ min s.flying letter_room → Placing placed i → station_room ≤ i → Gathering used ways ended most least j → used ≤ j
        → Resting s used half rest k → half ≤ k → carried ≡ gathered_hold s.net.links ways ended most least
        → r ≡ ((framed && placed) && (carried && eqb rest 0)) → r ≡ state_holds s
    unfolding state_holds
    all_seen {placed} {i} {used} {ways} {ended} {most} {least} {j} {half} {rest} {k} framed carried r ef eu p hi g hj q hk ec er =
        er ∙ sym (and_assoc framed placed (carried && eqb rest 0)) ∙ go framed ef
      where
        go : (x : Bool) → x ≡ frame → (x && (placed && (carried && eqb rest 0))) ≡ (frame && (stations_hold s && letters_hold s))
        go false d = ap (λ (b : Bool). b && (stations_hold s && letters_hold s)) d
        go true d =
            ap₂ (λ (a b : Bool). a && b) (stations_are p at_all)
            (ap₂ (λ (a b : Bool). a && b) (ec ∙ carried_are t (subst (λ (n : ℕ). Gathering n ways ended most least j) all g) at_last)
            (resting_ends s q hk ∙ ap (λ (n : ℕ). every (rest_at s n) (below letter_room)) all) ∙ letters_are t)
            ∙ ap (λ (b : Bool). b && (stations_hold s && letters_hold s)) d
          where
            t : T frame
            t = is_T frame (sym d)

            all : used ≡ s.flying
            all = omega (arith, few t)

            at_all : i ≡ station_room
            at_all = omega (arith, p.within)

            at_last : j ≡ s.flying
            at_last = omega (arith, g.within, few t)

  -- what the type says, told along
  pub seen_sized : {placed : Bool} {i : ℕ} → Placing placed i → station_room ≤ i → Ends64 s.net → length s.stations ≡ station_room
      → length s.letters ≡ letter_room → Sized s
  seen_sized p h n a b = record { ends = n; stations = a; letters = b; each = λ t l. p.fits t (omega (arith, p.within)) }
