-- A well-formed world laid out in zero room is a well-formed state that means it.
use Rattle.std.specs.Prelude.{if◌then◌else◌}
use Prim.Native.Nat.{ℕ, ◌≤◌, ◌<◌, min}
use mathlib.Core.Bool.{Bool, ◌&&◌}
use mathlib.Core.Path.{◌≡◌, refl, sym, ap, ◌∙◌, subst, subst⁻¹}
use mathlib.Core.List.{List, map}
use native.Mathlib.Decide.{dec_lt}
use native.Mathlib.Omega.{arith}
use borrow.Author.Tests.{lt-ltb, le-ltb, le-leb}
use lib.Dec.{T, leb}
use lib.ListN.{length, get_or, take, length-map, get_or-map}
use lib.Seq.{ext_get_or}
use Rattle.lists.specs.Places.{roomed}
use Rattle.lists.proofs.Tests.{and_i, is_T, every_at}
use Rattle.lists.proofs.Numbers.{at_below}
use Rattle.lists.proofs.Fill.{get_d_any}
use Rattle.lists.proofs.Rooms.{length_roomed, take_roomed, roomed_at, roomed_past}
use Rattle.net.specs.declared.Letter.{Letter}
use Rattle.net.specs.declared.Net.{Net}
use Rattle.net.specs.Network.{Network}
use Rattle.net.specs.Letters.{letter_holds}
use Rattle.net.specs.Values.{network_of, link_count}
use Rattle.sheet_rules.specs.Values.{net_holds}
use Rattle.sheet_rules.proofs.Good.{few_stations}
use Rattle.net.specs.Sizes.{station_room, letter_room}
use Rattle.net.proofs.ValueLaws.{stations_of, links_of_lem}
use Rattle.station.specs.declared.Station.{Station}
use Rattle.station.specs.Holding.{Holding, holding_holds}
use Rattle.station.specs.Values.{holding_of, laid, blank}
use Rattle.station.proofs.HoldingLaws as Slots
use Rattle.state_rules.specs.Formed.{station_formed}
use Rattle.world.specs.World.{World, nobody, no_letter, holding_at}
use Rattle.world.proofs.Keeps.{Formed}
use Rattle.state.specs.declared.State.{State}
use Rattle.state.specs.State.{beyond, station_in, letter_in, world_of, state_of, is_blank, is_no_letter, station_place}
use Rattle.state.specs.State.{letter_place, stations_hold, letters_hold, state_holds, Fits, Ends64, Sized}
use Rattle.state.proofs.StationRoom.{spare_formed, fits_laid, laid_spare, holding_laid, is_blank_lem, fits_blank}

module _ (net : Net) (w : World) (n : T (net_holds net)) (e : network_of net ≡ w.net) (f : Formed w) where
  abbrev laid_all : List Station
  laid_all = map (laid net blank) w.holdings

  abbrev out : State
  out = state_of net w

  few : net.stations ≤ station_room
  few = few_stations net n

  stations_are : w.net.stations ≡ net.stations
  stations_are = ap (λ (x : Network). x.stations) (sym e) ∙ stations_of net ∙ omega (arith, few)

  count : length w.holdings ≡ net.stations
  count = f.count ∙ stations_are

  laid_count : length laid_all ≡ net.stations
  laid_count = length-map w.holdings (laid net blank) ∙ count

  -- what the world's stations hold, in this network's words
  held : (i : ℕ) → i < net.stations → T (holding_holds (network_of net) i (holding_at w i))
  held i h = subst⁻¹ (λ (x : Network). T (holding_holds x i (holding_at w i))) e (f.each i (subst⁻¹ (λ (k : ℕ). i < k) stations_are h))

  module _ (i : ℕ) (h : i < net.stations) where
    slots : Slots.Formed (network_of net) i (holding_at w i)
    slots = Slots.formed (network_of net) i (holding_at w i) (held i h)

    table_long : length (holding_at w i).table ≡ link_count net
    table_long = slots.table_length ∙ links_of_lem net

    marks_long : length (holding_at w i).marks ≡ link_count net
    marks_long = slots.marks_length ∙ links_of_lem net

    laid_at : get_or laid_all i beyond ≡ laid net blank (holding_at w i)
    laid_at =
        get_d_any laid_all i beyond (laid net blank nobody) (omega (arith, h, laid_count))
        ∙ get_or-map (laid net blank) w.holdings i nobody

  -- ---- the places
  station_there : (i : ℕ) → i < net.stations → station_in out i ≡ laid net blank (holding_at w i)
  unfolding state_of
  station_there i h = roomed_at station_room blank laid_all i beyond (omega (arith, h, laid_count)) ∙ laid_at i h

  station_past : (i : ℕ) → net.stations ≤ i → i < station_room → station_in out i ≡ blank
  unfolding state_of
  station_past i h l = roomed_past station_room blank laid_all i beyond (omega (arith, h, laid_count)) l

  letter_there : (j : ℕ) → j < length w.letters → letter_in out j ≡ get_or w.letters j no_letter
  unfolding state_of
  letter_there j h = roomed_at letter_room no_letter w.letters j no_letter h

  letter_past : (j : ℕ) → length w.letters ≤ j → j < letter_room → letter_in out j ≡ no_letter
  unfolding state_of
  letter_past j h l = roomed_past letter_room no_letter w.letters j no_letter h l

  out_net : out.net ≡ net
  unfolding state_of
  out_net = refl

  out_flying : out.flying ≡ length w.letters
  unfolding state_of
  out_flying = refl

  -- ---- what the type says
  pub laid_sized : Ends64 net → Sized out
  unfolding state_of
  laid_sized d = record {
    ends = d;
    stations = length_roomed station_room blank laid_all (omega (arith, few, laid_count));
    letters = length_roomed letter_room no_letter w.letters f.room;
    each = λ i l. fits i l (dec_lt i net.stations);
  }
    where
      fits : (i : ℕ) → i < station_room → Dec (i < net.stations) → Fits (station_in out i)
      fits i l (yes h) = subst⁻¹ Fits (station_there i h) (fits_laid net (holding_at w i) (table_long i h) (marks_long i h))
      fits i l (no h) = subst⁻¹ Fits (station_past i (omega arith) l) fits_blank

  -- ---- well formed
  station_place_lem : (i : ℕ) → i < station_room → Dec (i < net.stations) → T (station_place net i (station_in out i))
  station_place_lem i l (yes h) =
      subst⁻¹ (λ (b : Bool). T (if b then station_formed net i (station_in out i) else is_blank (station_in out i)))
      (lt-ltb i net.stations h)
      (subst⁻¹ (λ (x : Station). T (station_formed net i x)) (station_there i h)
      (spare_formed net i (laid net blank (holding_at w i))
      (subst⁻¹ (λ (x : Holding). T (holding_holds (network_of net) i x)) (holding_laid net (holding_at w i) (table_long i h) (marks_long i h))
      (held i h))
      (laid_spare net (holding_at w i) (table_long i h) (marks_long i h))))
  station_place_lem i l (no h) =
      let g : net.stations ≤ i = omega arith in
      subst⁻¹ (λ (b : Bool). T (if b then station_formed net i (station_in out i) else is_blank (station_in out i)))
      (le-ltb i net.stations g)
      (subst⁻¹ (λ (x : Station). T (is_blank x)) (station_past i g l) is_blank_lem)

  letter_place_lem : (j : ℕ) → j < letter_room → Dec (j < length w.letters) → T (letter_place net (length w.letters) j (letter_in out j))
  letter_place_lem j l (yes h) =
      subst⁻¹ (λ (b : Bool). T (if b then letter_holds (network_of net) (letter_in out j) else is_no_letter (letter_in out j)))
      (lt-ltb j (length w.letters) h)
      (subst⁻¹ (λ (x : Letter). T (letter_holds (network_of net) x)) (letter_there j h)
      (subst⁻¹ (λ (x : Network). T (letter_holds x (get_or w.letters j no_letter))) e
      (every_at (letter_holds w.net) w.letters j no_letter f.posted h)))
  letter_place_lem j l (no h) =
      let g : length w.letters ≤ j = omega arith in
      subst⁻¹ (λ (b : Bool). T (if b then letter_holds (network_of net) (letter_in out j) else is_no_letter (letter_in out j)))
      (le-ltb j (length w.letters) g)
      (subst⁻¹ (λ (x : Letter). T (is_no_letter x)) (letter_past j g l) tt)

  frame_laid : T (net_holds out.net && leb out.flying letter_room)
  unfolding state_of
  frame_laid = and_i (net_holds net) _ n (is_T _ (le-leb (length w.letters) letter_room f.room))

  stations_laid : T (stations_hold out)
  unfolding stations_hold
  stations_laid =
      at_below (λ i. station_place out.net i (station_in out i)) station_room
      (λ i l. subst⁻¹ (λ (x : Net). T (station_place x i (station_in out i))) out_net (station_place_lem i l (dec_lt i net.stations)))

  letters_laid : T (letters_hold out)
  unfolding letters_hold
  letters_laid =
      at_below (λ j. letter_place out.net out.flying j (letter_in out j)) letter_room
      (λ j l. subst⁻¹ (λ (x : Net). T (letter_place x out.flying j (letter_in out j))) out_net
      (subst⁻¹ (λ (k : ℕ). T (letter_place net k j (letter_in out j))) out_flying (letter_place_lem j l (dec_lt j (length w.letters)))))

  pub laid_holds : T (state_holds out)
  unfolding state_holds
  laid_holds =
      and_i (net_holds out.net && leb out.flying letter_room) _ frame_laid (and_i (stations_hold out) _ stations_laid letters_laid)

  -- ---- it means the world
  holdings_back : map (holding_of net) laid_all ≡ w.holdings
  holdings_back =
      ext_get_or nobody (map (holding_of net) laid_all) w.holdings
      (length-map laid_all (holding_of net) ∙ length-map w.holdings (laid net blank))
      (λ i h. let l : i < net.stations = subst (λ (k : ℕ). i < k) (length-map laid_all (holding_of net) ∙ laid_count) h in
      get_d_any (map (holding_of net) laid_all) i nobody (holding_of net beyond) h ∙ get_or-map (holding_of net) laid_all i beyond
      ∙ ap (holding_of net) (laid_at i l) ∙ holding_laid net (holding_at w i) (table_long i l) (marks_long i l))

  pub laid_means : world_of out ≡ w
  unfolding world_of state_of
  laid_means =
      let a = ap (λ (k : ℕ). map (holding_of net) (take k (roomed station_room blank laid_all))) (stations_of net ∙ few_is)
      ∙ ap (map (holding_of net)) (take_roomed station_room blank laid_all) ∙ holdings_back in
      let l = take_roomed letter_room no_letter w.letters in
      λ i. record { net = e i; holdings = a i; letters = l i }
    where
      few_is : min net.stations station_room ≡ length laid_all
      few_is = omega (arith, few, laid_count)
