-- What the reach report shows, over its list of numbers: a station is shown as working exactly if a path of links with even
-- counters leads to it in the asker's own table. The same for the links, and for the reach as a word.
use Prim.Native.Nat.{ℕ, ◌+◌, ◌<◌, zero-le}
use mathlib.Core.Bool.{Bool, true, false, not}
use mathlib.Core.Path.{◌≡◌, refl, sym, ap, ◌∙◌, subst, subst⁻¹}
use mathlib.Core.Logic.{◌⊎◌, inl, inr, ⊎_elim, ◌↔◌}
use mathlib.Core.List.{List, [], ◌++◌, map}
use native.Mathlib.Omega.{arith}
use lib.Dec.{T, T_not}
use lib.ListN.{length, get_or, length-append, get_or-append}
use lib.Seq.{get_or-append-add}
use Rattle.lists.specs.Lists.{below}
use Rattle.lists.specs.Words.{bit, in_word}
use Rattle.lists.proofs.Tests.{or_cases, or_left, or_right}
use Rattle.lists.proofs.Numbers.{get_or_map_below, length_map_below}
use Rattle.lists.proofs.Words.{in_word_of}
use Rattle.lists.proofs.First.{first_below}
use Rattle.net.specs.Network.{ends, link_numbers}
use Rattle.counters.specs.Counters.{even, odd}
use Rattle.reach.specs.Reach.{counter_in, works_in, Reaches, has, reach, near, link_value, report, lowest_of}
use Rattle.reach.proofs.ReachLaws.{sound, complete, reach_length}
use Rattle.world.specs.World.{World, holding_at, report_at, reach_at}

bit_one : (b : Bool) → bit b ≡ 1 → T b
bit_one true e = tt
bit_one false e = absurd (omega arith)

one_bit : (b : Bool) → T b → bit b ≡ 1
one_bit true t = refl
one_bit false t = absurd t

bit_zero : (b : Bool) → bit b ≡ 0 → T b → ⊥
bit_zero true e t = omega arith
bit_zero false e t = t

zero_bit : (b : Bool) → (T b → ⊥) → bit b ≡ 0
zero_bit true f = absurd (f tt)
zero_bit false f = refl

-- the three values of a link, by whether an end is reached and it works
value_zero : (b x : Bool) → (link_value b x ≡ 0) ↔ (T b → ⊥)
value_zero true true = ((λ e. absurd (omega arith)), (λ f. absurd (f tt)))
value_zero true false = ((λ e. absurd (omega arith)), (λ f. absurd (f tt)))
value_zero false x = ((λ e t. t), (λ f. refl))

value_one : (b x : Bool) → (link_value b x ≡ 1) ↔ (T b × T x)
value_one true true = ((λ e. (tt, tt)), (λ p. refl))
value_one true false = ((λ e. absurd (omega arith)), (λ p. absurd p.1))
value_one false x = ((λ e. absurd (omega arith)), (λ p. absurd p.0))

value_two : (b x : Bool) → (link_value b x ≡ 2) ↔ (T b × T (not x))
value_two true true = ((λ e. absurd (omega arith)), (λ p. absurd p.1))
value_two true false = ((λ e. (tt, tt)), (λ p. refl))
value_two false x = ((λ e. absurd (omega arith)), (λ p. absurd p.0))

-- the station s asks
module _ (w : World) (s : ℕ) where
  -- a path of links with even counters in its own table leads to t
  abbrev pub ReachesIn : ℕ → Type 0
  ReachesIn t = Reaches w.net (works_in (holding_at w s).table) s t

  abbrev members : List Bool
  members = reach w.net (works_in (holding_at w s).table) s

  member : (t : ℕ) → T (has members t) → ReachesIn t
  member t u = sound w.net (works_in (holding_at w s).table) s t u

  in_members : (t : ℕ) → ReachesIn t → T (has members t)
  in_members t r = complete w.net (works_in (holding_at w s).table) s t r

  abbrev link_number : ℕ → ℕ
  link_number k = link_value (near w.net (has members) k) (works_in (holding_at w s).table k)

  abbrev station_part : List ℕ
  station_part = map (λ t. bit (has members t)) (below w.net.stations)

  abbrev link_part : List ℕ
  link_part = map link_number (link_numbers w.net)

  parts : report_at w s ≡ station_part ++ link_part
  unfolding report_at report
  parts = refl

  -- one number for each station, then one for each link
  pub report_length : length (report_at w s) ≡ w.net.stations + length w.net.links
  report_length =
      ap length parts ∙ length-append station_part link_part
      ∙ omega (arith, length_map_below (λ t. bit (has members t)) w.net.stations, length_map_below link_number (length w.net.links))

  station_number : (t : ℕ) → t < w.net.stations → get_or (report_at w s) t 0 ≡ bit (has members t)
  station_number t h =
      ap (λ (l : List ℕ). get_or l t 0) parts
      ∙ get_or-append station_part link_part 0 t (subst⁻¹ (λ (n : ℕ). t < n)
      (length_map_below (λ t. bit (has members t)) w.net.stations) h)
      ∙ get_or_map_below (λ t. bit (has members t)) w.net.stations t 0 h

  link_number_lem : (k : ℕ) → k < length w.net.links → get_or (report_at w s) (w.net.stations + k) 0 ≡ link_number k
  link_number_lem k h =
      ap (λ (l : List ℕ). get_or l (w.net.stations + k) 0) parts
      ∙ ap (λ (n : ℕ). get_or (station_part ++ link_part) (n + k) 0) (sym (length_map_below (λ t. bit (has members t)) w.net.stations))
      ∙ get_or-append-add station_part link_part k 0
      ∙ get_or_map_below link_number (length w.net.links) k 0 h

  -- A STATION IS SHOWN AS WORKING (1) EXACTLY IF A PATH OF LINKS WITH EVEN COUNTERS LEADS TO IT IN THE ASKER'S OWN TABLE,
  pub shown_working : (t : ℕ) → t < w.net.stations → (get_or (report_at w s) t 0 ≡ 1) ↔ ReachesIn t
  shown_working t h = (
    (λ e. member t (bit_one (has members t) (sym (station_number t h) ∙ e))),
    (λ r. station_number t h
        ∙ one_bit (has members t) (in_members t r)),
  )

  -- and as unreachable (0) exactly if none does
  pub shown_unreachable : (t : ℕ) → t < w.net.stations → (get_or (report_at w s) t 0 ≡ 0) ↔ (ReachesIn t → ⊥)
  shown_unreachable t h = (
    (λ e r. bit_zero (has members t) (sym (station_number t h) ∙ e) (in_members t r)),
    (λ f. station_number t h
        ∙ zero_bit (has members t) (λ u. f (member t u))),
  )

  -- ---- the links
  -- an end of the link k is reached
  abbrev pub EndReached : ℕ → Type 0
  EndReached k = ReachesIn (ends w.net k).low ⊎ ReachesIn (ends w.net k).high

  near_reached : (k : ℕ) → T (near w.net (has members) k) → EndReached k
  near_reached k t = ⊎_elim (λ u. inl (member _ u)) (λ u. inr (member _ u)) (or_cases (has members (ends w.net k).low) _ t)

  reached_near : (k : ℕ) → EndReached k → T (near w.net (has members) k)
  reached_near k (inl r) = or_left (has members (ends w.net k).low) _ (in_members _ r)
  reached_near k (inr r) = or_right (has members (ends w.net k).low) _ (in_members _ r)

  module _ (k : ℕ) (h : k < length w.net.links) where
    abbrev c : ℕ
    c = counter_in (holding_at w s).table k

    abbrev shown : ℕ
    shown = get_or (report_at w s) (w.net.stations + k) 0

    -- 0, perceived unreachable: neither end reached
    pub link_unreachable : (shown ≡ 0) ↔ (EndReached k → ⊥)
    link_unreachable =
        let v = value_zero (near w.net (has members) k) (even c) in
        ((λ e r. v.0 (sym (link_number_lem k h) ∙ e) (reached_near k r)), (λ f. link_number_lem k h ∙ v.1 (λ t. f (near_reached k t))))

    -- 1, working: an end reached, and even
    pub link_working_lem : (shown ≡ 1) ↔ (EndReached k × T (even c))
    link_working_lem =
        let v = value_one (near w.net (has members) k) (even c) in (
          (λ e. let p = v.0 (sym (link_number_lem k h) ∙ e) in (near_reached k p.0, p.1)),
          (λ p. link_number_lem k h
              ∙ v.1 (reached_near k p.0, p.1)),
        )

    -- 2, unresponsive: an end reached, and odd
    pub link_unresponsive : (shown ≡ 2) ↔ (EndReached k × T (odd c))
    link_unresponsive =
        let v = value_two (near w.net (has members) k) (even c) in (
          (λ e. let p = v.0 (sym (link_number_lem k h) ∙ e) in (near_reached k p.0, p.1)),
          (λ p. link_number_lem k h
              ∙ v.1 (reached_near k p.0, p.1)),
        )

  -- ---- the reach as a word: bit t for the station t
  pub word_reaches : (t : ℕ) → T (in_word (reach_at w s).word t) ↔ ReachesIn t
  unfolding reach_at
  word_reaches t =
      ((λ u. member t (subst T (in_word_of members t) u)), (λ r. subst⁻¹ T (in_word_of members t) (in_members t r)))

  -- the lowest station not reached, with all lower ones reached; or 255 if all are
  pub record Lowest (z : ℕ) : Type 0 where
    pub station : z < w.net.stations
    pub missed : ReachesIn z → ⊥
    pub lower : (t : ℕ) → t < z → ReachesIn t

  pub lowest_is : (((reach_at w s).lowest ≡ 255) × ((t : ℕ) → t < w.net.stations → ReachesIn t)) ⊎ Lowest (reach_at w s).lowest
  unfolding reach_at
  lowest_is =
      ⊎_elim
      (λ p. inl (p.0, λ t h. member t (yes_has t (p.1 t (omega (arith, size))))))
      (λ p. inr (record {
        station = omega (arith, p.under, size);
        missed = λ r. T_not (has members (lowest_of members)) p.passes (in_members (lowest_of members) r);
        lower = λ t h. member t (yes_has t (p.before t zero-le h));
      }))
      (first_below (λ t. not (has members t)) (length members) 255)
    where
      size : length members ≡ w.net.stations
      size = reach_length w.net (works_in (holding_at w s).table) s

      yes_has : (t : ℕ) → T (not (not (has members t))) → T (has members t)
      yes_has t u = go (has members t) u
        where
          go : (b : Bool) → T (not (not b)) → T b
          go true u = tt
          go false u = u
