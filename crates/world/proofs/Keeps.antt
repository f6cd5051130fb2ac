-- Each accepted step keeps the world well formed, and the world of a freshly read sheet is well formed.
use Rattle.std.specs.Prelude.{if◌then◌else◌}
use Prim.Native.Nat.{ℕ, ◌≤◌, ◌<◌, zero-le}
use mathlib.Core.Bool.{Bool, true, false, ◌&&◌}
use mathlib.Core.Path.{◌≡◌, refl, ◌∙◌, subst⁻¹}
use mathlib.Core.List.{List, [], ◌∷◌}
use native.Mathlib.Decide.{ℕ_discrete}
use lib.Dec.{T, eqb, leb, ltb, leb→le, le→leb, ltb→lt, eqb→eq}
use lib.ListN.{length, get_or, set, length-set}
use lib.Seq.{get_or-set_same, get_or-set_other}
use Rattle.net.specs.Sizes.{letter_room}
use Rattle.lists.specs.Lists.{every, below}
use Rattle.lists.proofs.Tests.{and_l, and_r, and_i, eq→eqb, every_at, if_elim}
use Rattle.lists.proofs.Numbers.{below_at, at_below, get_or_map_below, length_map_below}
use Rattle.lists.proofs.Kept.{every_joined}
use Rattle.lists.proofs.Without.{every_without}
use Rattle.net.specs.declared.Letter.{Letter}
use Rattle.net.specs.Network.{Network, is_end}
use Rattle.sheet_rules.specs.Rules.{sheet_holds}
use Rattle.net.specs.Letters.{letter_holds, body_holds}
use Rattle.station.specs.declared.Kind.{Kind}
use Rattle.station.specs.declared.Kind.TheVariants.{NoSuch, Start, Stop, Recovery, IntervalEnd, TimeoutEnd, QuietEnd, Delivery, Loss}
use Rattle.station.specs.Holding.{Holding, holding_holds}
use Rattle.station.proofs.Doing.{stopped}
use Rattle.station.specs.Events.{kind_of, takes_letter}
use Rattle.station.proofs.Keeps.{Kept, stopped_keeps}
use Rattle.station.proofs.Rules as R
use Rattle.station.proofs.Rules.{Names}
use Rattle.world.specs.World.{World, Event, nobody, no_letter, holding_at, letter_at, exists_as, exists, receiver_in}
use Rattle.world.specs.World.{concerned_by, concerned, rule, comes, done, left, after, refusal, accepted, next}
use Rattle.world.specs.World.{well_formed, fresh}
use Rattle.world.specs.History.{run}
use Rattle.sheet_rules.proofs.Ends.{other_real, other_end}
use Rattle.world.proofs.There.{letter_there, station_there, link_real, link_own}
use Rattle.world.proofs.Steps.{accepted_zero, taken}

-- ---- a well-formed world as facts
pub record Formed (w : World) : Type 0 where
  pub sheet : T (sheet_holds w.net)
  pub count : length w.holdings ≡ w.net.stations
  pub each : (s : ℕ) → s < w.net.stations → T (holding_holds w.net s (holding_at w s))
  pub room : length w.letters ≤ letter_room
  pub posted : T (every (letter_holds w.net) w.letters)

module _ (w : World) where
  abbrev sheet : Bool
  sheet = sheet_holds w.net

  abbrev count : Bool
  count = eqb (length w.holdings) w.net.stations

  abbrev good : ℕ → Bool
  good s = holding_holds w.net s (holding_at w s)

  abbrev each : Bool
  each = every good (below w.net.stations)

  abbrev room : Bool
  room = leb (length w.letters) letter_room

  pub formed : T (well_formed w) → Formed w
  unfolding well_formed
  formed t =
      let d = and_l (sheet && count && each && room) _ t in
      let c = and_l (sheet && count && each) _ d in
      let b = and_l (sheet && count) _ c in
      record {
        sheet = and_l sheet _ b;
        count = eqb→eq _ _ (and_r sheet _ b);
        each = below_at good w.net.stations (and_r (sheet && count) _ c);
        room = leb→le _ _ (and_r (sheet && count && each) _ d);
        posted = and_r (sheet && count && each && room) _ t;
      }

  pub well : Formed w → T (well_formed w)
  unfolding well_formed
  well f =
      and_i (sheet && count && each && room) _
      (and_i (sheet && count && each) _
      (and_i (sheet && count) _ (and_i sheet _ f.sheet (eq→eqb _ _ f.count)) (at_below good w.net.stations f.each))
      (le→leb _ _ f.room))
      f.posted

-- ---- a letter in flight
pub record Posted (w : World) (x : Letter) : Type 0 where
  pub link : x.link < length w.net.links
  pub sender : T (is_end w.net x.link x.sender)
  pub body : T (body_holds w.net x.body)
  pub real : receiver_in w.net x < w.net.stations
  pub end : T (is_end w.net x.link (receiver_in w.net x))

module _ (w : World) (f : Formed w) where
  pub letter_posted : (x : Letter) → T (letter_holds w.net x) → Posted w x
  unfolding letter_holds
  letter_posted x t =
      let a = ltb x.link (length w.net.links) in
      let b = is_end w.net x.link x.sender in
      let l = ltb→lt x.link _ (and_l a _ (and_l (a && b) _ t)) in
      record {
        link = l;
        sender = and_r a _ (and_l (a && b) _ t);
        body = and_r (a && b) _ t;
        real = other_real w.net f.sheet x.link l x.sender;
        end = other_end w.net x.link x.sender;
      }

  pub at_holds : (a : ℕ) → a < length w.letters → T (letter_holds w.net (letter_at w a))
  at_holds a h = every_at (letter_holds w.net) w.letters a no_letter f.posted h

  pub at_posted : (a : ℕ) → a < length w.letters → Posted w (letter_at w a)
  at_posted a h = letter_posted (letter_at w a) (at_holds a h)

-- ---- what an event names in a well-formed world
module _ (w : World) (f : Formed w) (e : Event) (x : T (exists w e)) where
  -- the letter that it takes off the list may travel, and the station that it concerns is there
  pub meant_posted : T (takes_letter (kind_of e.kind)) → Posted w (letter_at w e.a)
  meant_posted t = at_posted w f e.a (letter_there w e t x)

  pub concerned_real : concerned w e < w.net.stations
  unfolding concerned
  concerned_real =
      if_elim (λ (s : ℕ). s < w.net.stations) (takes_letter (kind_of e.kind)) (λ t. (meant_posted t).real) (λ t. station_there w e t x)

  pub concerned_holds : T (holding_holds w.net (concerned w e) (holding_at w (concerned w e)))
  concerned_holds = f.each (concerned w e) concerned_real

-- ---- what an event names there: station's Rules ask for no more
module _ (net : Network) (flying a b : ℕ) (x : Letter) (travels : a < flying → T (letter_holds net x)) where
  names_as : (k : Kind) → T (exists_as k net flying a b) → Names net (concerned_by k net a x) k b x
  names_as NoSuch t = tt
  names_as Start t = tt
  names_as Stop t = tt
  names_as Recovery t = tt
  names_as IntervalEnd t = (link_real net a b t, link_own net a b t)
  names_as TimeoutEnd t = (link_real net a b t, link_own net a b t)
  names_as QuietEnd t = (link_real net a b t, link_own net a b t)
  names_as Delivery t = (travels (ltb→lt a flying (and_l (ltb a flying) _ t)), other_end net x.link x.sender)
  names_as Loss t = tt

module _ (w : World) (f : Formed w) where
  pub names : (e : Event) → T (exists w e) → Names w.net (concerned w e) (kind_of e.kind) e.b (letter_at w e.a)
  unfolding exists concerned
  names e x = names_as w.net (length w.letters) e.a e.b (letter_at w e.a) (at_holds w f e.a) (kind_of e.kind) x

  -- what the event comes to keeps the station, and sends letters that may travel
  pub comes_keeps : (e : Event) → T (exists w e) → Kept w.net (concerned w e) (done w e)
  unfolding comes done rule
  comes_keeps e x =
      let s = concerned w e in
      R.due_keeps w.net s (holding_at w s) (concerned_holds w f e x) (exists w e) (kind_of e.kind) e.b (letter_at w e.a)
      (names e)

  left_holds : (e : Event) → T (every (letter_holds w.net) (left w e))
  unfolding left
  left_holds e =
      if_elim (λ (xs : List Letter). T (every (letter_holds w.net) xs)) (takes_letter (kind_of e.kind))
      (λ t. every_without (letter_holds w.net) e.a w.letters f.posted) (λ t. f.posted)

  -- a station stored
  stored_holds : (s : ℕ) (h : Holding) → s < w.net.stations → T (holding_holds w.net s h)
      → (r : ℕ) → r < w.net.stations → T (holding_holds w.net r (get_or (set w.holdings s h) r nobody))
  stored_holds s h l g r m = go (ℕ_discrete r s)
    where
      go : Dec (r ≡ s) → T (holding_holds w.net r (get_or (set w.holdings s h) r nobody))
      go (yes e) = rw (e, get_or-set_same w.holdings s h nobody (subst⁻¹ (λ (n : ℕ). s < n) f.count l)) g
      go (no e) = rw (get_or-set_other w.holdings s r h nobody e) (f.each r m)

-- EACH ACCEPTED STEP KEEPS THE WORLD WELL FORMED.
pub step_formed : (w : World) (e : Event) → Formed w → refusal w e ≡ 0 → Formed (after w e)
unfolding after
step_formed w e f q =
    let t = taken w e q in
    let k = comes_keeps w f e t.exists in
    record {
      sheet = f.sheet;
      count = length-set w.holdings (concerned w e) (done w e).holding ∙ f.count;
      each = stored_holds w f (concerned w e) (done w e).holding (concerned_real w f e t.exists) k.holding;
      room = t.room;
      posted = every_joined (letter_holds w.net) (left w e) (done w e).sent (left_holds w f e) k.sent;
    }

pub step_keeps : (w : World) (e : Event) → T (well_formed w) → refusal w e ≡ 0 → T (well_formed (after w e))
step_keeps w e t q = well (after w e) (step_formed w e (formed w t) q)

-- THE WORLD RIGHT AFTER READING A SHEET IS WELL FORMED.
pub fresh_formed : (net : Network) → T (sheet_holds net) → Formed (fresh net)
unfolding fresh
fresh_formed net t =
    record {
      sheet = t;
      count = length_map_below (λ s. (stopped net s).holding) net.stations;
      each =
          λ s h. subst⁻¹ (λ (x : Holding). T (holding_holds net s x))
          (get_or_map_below (λ s. (stopped net s).holding) net.stations s nobody h) (stopped_keeps net s).holding;
      room = zero-le;
      posted = tt;
    }

pub fresh_well : (net : Network) → T (sheet_holds net) → T (well_formed (fresh net))
fresh_well net t = well (fresh net) (fresh_formed net t)

-- AND SO EVERY WORLD OF A HISTORY: a refused event changes nothing.
pub next_keeps : (w : World) (e : Event) → T (well_formed w) → T (well_formed (next w e))
next_keeps w e t = go (accepted w e) refl
  where
    go : (b : Bool) → accepted w e ≡ b → T (well_formed (if b then after w e else w))
    go true q = step_keeps w e t (accepted_zero w e q)
    go false q = t

pub run_keeps : (w : World) (es : List Event) → T (well_formed w) → T (well_formed (run w es))
unfolding run
run_keeps w [] t = t
run_keeps w (e ∷ es) t = run_keeps (next w e) es (next_keeps w e t)

-- from a freshly read sheet, for ever
pub run_well : (net : Network) (es : List Event) → T (sheet_holds net) → T (well_formed (run (fresh net) es))
run_well net es t = run_keeps (fresh net) es (fresh_well net t)
