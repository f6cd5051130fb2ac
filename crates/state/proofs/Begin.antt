-- The state right after reading a sheet, as the code makes it.
use Rattle.std.specs.Prelude.{if◌then◌else◌}
use Prim.Native.Nat.{ℕ, zero, suc, ◌-◌, ◌≤◌}
use mathlib.Core.Bool.{Bool, true, false}
use mathlib.Core.Path.{◌≡◌, refl, sym, ap, ap₂, ◌∙◌}
use mathlib.Core.List.{List, [], ◌∷◌, ◌++◌, map}
use native.Mathlib.Omega.{arith}
use lib.ListN.{length, replicate, take, drop, length-map, length-take}
use Rattle.lists.specs.Lists.{from, below, filled}
use Rattle.lists.specs.Places.{roomed}
use Rattle.lists.proofs.Rooms.{drop_replicate}
use Rattle.lists.proofs.Tests.{is_T}
use Rattle.lists.proofs.Numbers.{length_map_below}
use Rattle.net.specs.declared.Letter.{Letter}
use Rattle.net.specs.declared.Net.{Net}
use Rattle.net.specs.Values.{network_of}
use Rattle.sheet_rules.specs.Values.{net_holds}
use Rattle.sheet_rules.proofs.Good.{few_stations}
use Rattle.net.specs.Sizes.{station_room, letter_room}
use Rattle.net.proofs.ValueLaws.{stations_of}
use Rattle.station.specs.declared.Station.{Station}
use Rattle.station.specs.Holding.{Holding}
use Rattle.station.specs.Done.{done_by}
use Rattle.station.proofs.Doing.{stopped}
use Rattle.station.specs.Values.{laid, blank}
use Rattle.world.specs.World.{no_letter, fresh}
use Rattle.state.specs.declared.Begun.{Begun}
use Rattle.state.specs.State.{state_of}
use Rattle.state.specs.Beginning.{unread, begun_of}

-- a list filled with one value
one_value : {A : Type 0} (d : A) (i n : ℕ) → map (λ (t : ℕ). d) (from i n) ≡ replicate n d
one_value d i zero = refl
one_value d i (suc n) = ap (λ l. d ∷ l) (one_value d (suc i) n)

pub filled_with : {A : Type 0} (d : A) (old new : List A) (n : ℕ) → n ≤ length old → new ≡ replicate (length (take n old)) d
    → new ++ drop n old ≡ filled (λ (t : ℕ). d) old n
filled_with d old new n h e =
    ap (λ l. l ++ drop n old) (e ∙ ap (λ k. replicate k d) (omega (arith, length-take n old)) ∙ sym (one_value d 0 n))

module _ (net : Net) (r : Bool) (e : r ≡ net_holds net) where
  pub good_stations : r ≡ true → net.stations ≤ station_room
  good_stations q = few_stations net (is_T _ (sym e ∙ q))

  module _ (nobody : Station) (unused : Letter) (z : nobody ≡ blank) (u : unused ≡ no_letter) where
    pub begun_bad : r ≡ false
        → ◌≡◌ {A = Begun} (record {
          answer = 11;
          state = record
              { net = net; flying = 0; stations = replicate station_room nobody; letters = replicate letter_room unused };
        }) (begun_of net)
    unfolding begun_of unread
    begun_bad q =
        ap₂ (λ (a : Station) (b : Letter). record {
          answer = 11;
          state = record
              { net = net; flying = 0; stations = replicate station_room a; letters = replicate letter_room b };
        }) z u
        ∙ sym (ap (λ (b : Bool). if b then (record { answer = 0; state = state_of net (fresh (network_of net)) })
        else (record { answer = 11; state = unread net })) (sym e ∙ q))

    -- each of the stations is down, and the places beyond them stay as they were
    stations_down : (down : Station) (n : ℕ) → n ≤ station_room → n ≡ (network_of net).stations
        → down ≡ laid net blank (stopped (network_of net) 0).holding
        → filled (λ (t : ℕ). down) (replicate station_room nobody) n
        ≡ roomed station_room blank (map (laid net blank) (fresh (network_of net)).holdings)
    unfolding roomed fresh done_by
    stations_down down n l m d =
        ap₂ (λ (xs ys : List Station). xs ++ ys)
        (ap (λ (k : ℕ). map (λ (t : ℕ). down) (below k)) m ∙ ap (λ (x : Station). map (λ (t : ℕ). x) (below (network_of net).stations)) d
        ∙ sym (maps (below (network_of net).stations)))
        (drop_replicate n station_room nobody ∙ ap₂ (λ (k : ℕ) (x : Station). replicate k x) count z)
      where
        hold : ℕ → Holding
        hold s = (stopped (network_of net) s).holding

        maps : (ks : List ℕ) → map (laid net blank) (map hold ks) ≡ map (λ (t : ℕ). laid net blank (stopped (network_of net) 0).holding) ks
        maps [] = refl
        maps (k ∷ ks) = ap (λ (xs : List Station). laid net blank (stopped (network_of net) 0).holding ∷ xs) (maps ks)

        count : station_room - n ≡ station_room - length (map (laid net blank) (map hold (below (network_of net).stations)))
        count =
            omega (
              arith,
              m,
              length_map_below hold (network_of net).stations,
              length-map (map hold (below (network_of net).stations))
                  (laid net blank),
            )

    pub begun_good : (down : Station) (stations : List Station) (n : ℕ) → r ≡ true → n ≡ net.stations
        → down ≡ laid net blank (stopped (network_of net) 0).holding
        → stations ≡ filled (λ (t : ℕ). down) (replicate station_room nobody) n
        → ◌≡◌ {A = Begun} (record {
          answer = 0;
          state = record
              { net = net; flying = 0; stations = stations; letters = replicate letter_room unused };
        }) (begun_of net)
    unfolding begun_of state_of roomed fresh
    begun_good down stations n q m d f =
        let l : n ≤ station_room = omega (arith, good_stations q) in
        let m' : n ≡ (network_of net).stations = omega (arith, m, l, stations_of net) in
        ap₂ (λ (a : List Station) (b : Letter). record {
          answer = 0;
          state = record
              { net = net; flying = 0; stations = a; letters = replicate letter_room b };
        })
        (f ∙ stations_down down n l m' d) u
        ∙ sym (ap (λ (b : Bool). if b then (record { answer = 0; state = state_of net (fresh (network_of net)) })
        else (record { answer = 11; state = unread net })) (sym e ∙ q))
