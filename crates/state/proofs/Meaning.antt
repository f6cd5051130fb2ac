-- A well-formed state is determined by what it means, and every well-formed world that its network carries is meant by one.
use Rattle.std.specs.Prelude.{if◌then◌else◌}
use Prim.Native.Nat.{ℕ, ◌≤◌, ◌<◌}
use mathlib.Core.Bool.{Bool, ◌&&◌}
use mathlib.Core.Path.{◌≡◌, refl, sym, ap, ◌∙◌, subst, subst⁻¹}
use mathlib.Core.List.{List, [], ◌∷◌, map}
use native.Mathlib.Omega.{arith}
use borrow.Author.Tests.{lt-ltb, le-ltb}
use lib.Dec.{T, leb, leb→le, eqb→eq}
use lib.ListN.{length, get_or, take, length-map, get_or-map}
use lib.Seq.{length-take-le, get_or-take, ext_get_or}
use Rattle.lists.specs.Places.{roomed}
use Rattle.lists.proofs.Tests.{and_l, and_r, at_every}
use Rattle.lists.proofs.Numbers.{below_at}
use Rattle.lists.proofs.Fill.{get_d_any}
use Rattle.lists.proofs.Rooms.{roomed_of}
use Rattle.net.specs.declared.Body.{Body}
use Rattle.net.specs.declared.Body.TheVariants.{Request, Reply, Notice}
use Rattle.net.specs.declared.Letter.{Letter}
use Rattle.net.specs.declared.Net.{Net}
use Rattle.net.specs.Network.{Network}
use Rattle.sheet_rules.specs.Rules.{sheet_holds}
use Rattle.net.specs.Letters.{letter_holds}
use Rattle.net.specs.Values.{network_of, is_zero}
use Rattle.sheet_rules.specs.Values.{net_holds}
use Rattle.sheet_rules.proofs.Good.{few_stations, sheet_good}
use Rattle.net.specs.Sizes.{station_room, letter_room}
use Rattle.net.proofs.ValueLaws.{stations_of}
use Rattle.station.specs.declared.Station.{Station}
use Rattle.station.specs.Holding.{Holding, holding_holds}
use Rattle.station.specs.Values.{holding_of, laid, blank}
use Rattle.state_rules.specs.Formed.{station_formed}
use Rattle.world.specs.World.{nobody, no_letter, holding_at, well_formed}
use Rattle.world.proofs.Keeps.{Formed, well}
use Rattle.state.specs.declared.State.{State}
use Rattle.state.specs.State.{beyond, station_in, letter_in, world_of, state_of, is_blank, is_request, is_no_letter, station_place}
use Rattle.state.specs.State.{letter_place, stations_hold, letters_hold, state_holds, Sized}
use Rattle.state.proofs.StationRoom.{Spare, own_laid, formed_holds, formed_spare}
use Rattle.state.proofs.StationRoom.{blank_is}

no_letter_is : (x : Letter) → T (is_no_letter x) → x ≡ no_letter
no_letter_is x t =
    let a = and_l (is_zero x.link && is_zero x.sender) (is_request x.body) t in
    let l = eqb→eq x.link 0 (and_l (is_zero x.link) _ a) in
    let s = eqb→eq x.sender 0 (and_r (is_zero x.link) _ a) in
    let b = request x.body (and_r (is_zero x.link && is_zero x.sender) (is_request x.body) t) in
    λ i. record { link = l i; sender = s i; body = b i }
  where
    request : (b : Body) → T (is_request b) → b ≡ Request
    request Request t = refl
    request (Reply c) t = absurd t
    request (Notice j c) t = absurd t

map_same : (f : Station → Station) (l : List Station) → ((i : ℕ) → i < length l → f (get_or l i beyond) ≡ get_or l i beyond) → l ≡ map f l
map_same f l g =
    ext_get_or (f beyond) l (map f l) (sym (length-map l f))
    (λ i h. get_d_any l i (f beyond) beyond h ∙ sym (g i h) ∙ sym (get_or-map f l i beyond))

map_map : (f : Holding → Station) (g : Station → Holding) (l : List Station) → map f (map g l) ≡ map (λ x. f (g x)) l
map_map f g [] = refl
map_map f g (x ∷ l) = ap (λ (r : List Station). f (g x) ∷ r) (map_map f g l)

-- ---- what a well-formed state says, place by place
module _ (s : State) (z : Sized s) (t : T (state_holds s)) where
  abbrev stations : ℕ
  stations = s.net.stations

  abbrev net : Net
  net = s.net

  parts : T ((net_holds net && leb s.flying letter_room) && (stations_hold s && letters_hold s))
  unfolding state_holds
  parts = t

  pub holds_net : T (net_holds net)
  holds_net = and_l (net_holds net) _ (and_l (net_holds net && leb s.flying letter_room) _ parts)

  pub holds_few : s.flying ≤ letter_room
  holds_few = leb→le s.flying letter_room (and_r (net_holds net) _ (and_l (net_holds net && leb s.flying letter_room) _ parts))

  station_at : (i : ℕ) → i < station_room → T (station_place net i (station_in s i))
  unfolding stations_hold
  station_at i h =
      below_at (λ i. station_place net i (station_in s i)) station_room
      (and_l (stations_hold s) _ (and_r (net_holds net && leb s.flying letter_room) _ parts)) i h

  letter_at : (j : ℕ) → j < letter_room → T (letter_place net s.flying j (letter_in s j))
  unfolding letters_hold
  letter_at j h =
      below_at (λ j. letter_place net s.flying j (letter_in s j)) letter_room
      (and_r (stations_hold s) _ (and_r (net_holds net && leb s.flying letter_room) _ parts)) j h

  pub few : stations ≤ station_room
  few = few_stations net holds_net

  pub count_is : (network_of net).stations ≡ stations
  count_is = stations_of net ∙ omega (arith, few)

  pub station_formed_lem : (i : ℕ) → i < stations → T (station_formed net i (station_in s i))
  station_formed_lem i h =
      subst (λ (b : Bool). T (if b then station_formed net i (station_in s i) else is_blank (station_in s i))) (lt-ltb i stations h)
      (station_at i (omega (arith, few)))

  station_blank : (i : ℕ) → stations ≤ i → i < station_room → station_in s i ≡ blank
  station_blank i h l =
      blank_is (station_in s i) (z.each i l)
      (subst (λ (b : Bool). T (if b then station_formed net i (station_in s i) else is_blank (station_in s i))) (le-ltb i stations h)
      (station_at i l))

  pub letter_formed : (j : ℕ) → j < s.flying → T (letter_holds (network_of net) (letter_in s j))
  letter_formed j h =
      subst (λ (b : Bool). T (if b then letter_holds (network_of net) (letter_in s j) else is_no_letter (letter_in s j))) (lt-ltb j s.flying h)
      (letter_at j (omega (arith, holds_few)))

  pub letter_unused : (j : ℕ) → s.flying ≤ j → j < letter_room → letter_in s j ≡ no_letter
  letter_unused j h l =
      no_letter_is (letter_in s j)
      (subst (λ (b : Bool). T (if b then letter_holds (network_of net) (letter_in s j) else is_no_letter (letter_in s j)))
      (le-ltb j s.flying h) (letter_at j l))

  pub station_spare : (i : ℕ) → i < stations → Spare net (station_in s i)
  station_spare i h = formed_spare net i (station_in s i) (z.each i (omega (arith, few))) (station_formed_lem i h)

  pub flying_is : length (take s.flying s.letters) ≡ s.flying
  flying_is = length-take-le s.flying s.letters (omega (arith, holds_few, z.letters))

  used_are : length (take stations s.stations) ≡ stations
  used_are = length-take-le stations s.stations (omega (arith, few, z.stations))

  -- ---- determined by its meaning
  letters_roomed : s.letters ≡ roomed letter_room no_letter (take s.flying s.letters)
  letters_roomed = roomed_of letter_room no_letter s.letters s.flying no_letter z.letters holds_few letter_unused

  stations_roomed : s.stations ≡ roomed station_room blank (map (laid net blank) (map (holding_of net) (take stations s.stations)))
  stations_roomed =
      roomed_of station_room blank s.stations stations beyond z.stations few station_blank
      ∙ ap (roomed station_room blank) (map_same (λ x. laid net blank (holding_of net x)) (take stations s.stations) same
      ∙ sym (map_map (laid net blank) (holding_of net) (take stations s.stations)))
    where
      same : (i : ℕ) → i < length (take stations s.stations)
          → laid net blank (holding_of net (get_or (take stations s.stations) i beyond)) ≡ get_or (take stations s.stations) i beyond
      same i h =
          let l : i < stations = omega (arith, h, used_are) in
          subst⁻¹ (λ (x : Station). laid net blank (holding_of net x) ≡ x) (get_or-take stations s.stations i beyond l)
          (sym (own_laid net (station_in s i) (z.each i (omega (arith, few))) (station_spare i l)))

  pub determined : s ≡ state_of net (world_of s)
  unfolding state_of world_of
  determined =
      let n = sym flying_is in
      let a = stations_roomed ∙ ap (λ (k : ℕ). roomed station_room blank (map (laid net blank) (map (holding_of net) (take k s.stations))))
      (sym count_is) in
      λ i. record { net = net; flying = n i; stations = a i; letters = letters_roomed i }

  -- ---- what the world has
  pub letters_are : (world_of s).letters ≡ take s.flying s.letters
  unfolding world_of
  letters_are = refl

  pub net_is : (world_of s).net ≡ network_of net
  unfolding world_of
  net_is = refl

  pub world_letter : (j : ℕ) → j < s.flying → get_or (world_of s).letters j no_letter ≡ letter_in s j
  unfolding world_of
  world_letter j h = get_or-take s.flying s.letters j no_letter h

  pub world_flying : length (world_of s).letters ≡ s.flying
  unfolding world_of
  world_flying = flying_is

  pub world_holdings : length (world_of s).holdings ≡ stations
  unfolding world_of
  world_holdings =
      length-map (take (network_of net).stations s.stations) (holding_of net) ∙ ap (λ (k : ℕ). length (take k s.stations)) count_is
      ∙ used_are

  pub world_holding : (i : ℕ) → i < stations → holding_at (world_of s) i ≡ holding_of net (station_in s i)
  unfolding world_of
  world_holding i h =
      get_d_any (map (holding_of net) (take (network_of net).stations s.stations)) i nobody (holding_of net beyond)
      (omega (
        arith,
        h,
        length-map (take (network_of net).stations s.stations) (holding_of net),
        ap
            (λ (k : ℕ). length (take k s.stations)) count_is,
        used_are,
      ))
      ∙ get_or-map (holding_of net) (take (network_of net).stations s.stations) i beyond
      ∙ ap (holding_of net) (get_or-take (network_of net).stations s.stations i beyond (subst⁻¹ (λ (k : ℕ). i < k) count_is h))

  pub world_formed : Formed (world_of s)
  world_formed = record {
    sheet = subst⁻¹ (λ (n : Network). T (sheet_holds n)) net_is (sheet_good net holds_net);
    count = world_holdings ∙ sym count_is ∙ ap (λ (n : Network). n.stations) (sym net_is);
    each = λ i h. each i (subst (λ (k : ℕ). i < k) (ap (λ (n : Network). n.stations) net_is ∙ count_is) h);
    room = omega (arith, world_flying, holds_few);
    posted =
        at_every (letter_holds (world_of s).net) (world_of s).letters no_letter (λ j h. posted j (subst (λ (k : ℕ). j < k) world_flying h));
  }
    where
      each : (i : ℕ) → i < stations → T (holding_holds (world_of s).net i (holding_at (world_of s) i))
      each i h =
          subst⁻¹ (λ (n : Network). T (holding_holds n i (holding_at (world_of s) i))) net_is
          (subst⁻¹ (λ (x : Holding). T (holding_holds (network_of net) i x)) (world_holding i h)
          (formed_holds net i (station_in s i) (station_formed_lem i h)))

      posted : (j : ℕ) → j < s.flying → T (letter_holds (world_of s).net (get_or (world_of s).letters j no_letter))
      posted j h =
          subst⁻¹ (λ (n : Network). T (letter_holds n (get_or (world_of s).letters j no_letter))) net_is
          (subst⁻¹ (λ (x : Letter). T (letter_holds (network_of net) x)) (world_letter j h) (letter_formed j h))

  pub world_well : T (well_formed (world_of s))
  world_well = well (world_of s) world_formed
