-- What there must be for an event (6), by its kind: the letter that it takes off the list, or its station, and its link at that station.
-- What is left of the letters, and the notices among them that are settled.
use Rattle.std.specs.Prelude.{if◌then◌else◌}
use Prim.Native.Nat.{ℕ, ◌+◌, ◌<◌}
use mathlib.Core.Bool.{Bool, true, false, not, ◌&&◌}
use mathlib.Core.Path.{◌≡◌, refl, ap}
use mathlib.Core.List.{List}
use native.Mathlib.Omega.{arith}
use lib.Dec.{T, ltb, ltb→lt}
use lib.ListN.{length, get_or}
use Rattle.lists.specs.Words.{bit}
use Rattle.lists.specs.Places.{without}
use Rattle.lists.proofs.Tests.{T_is, T_not_is, and_l, and_r}
use Rattle.lists.proofs.Without.{length_without, sum_without}
use Rattle.net.specs.declared.Letter.{Letter}
use Rattle.net.specs.Network.{Network, is_end}
use Rattle.station.specs.declared.Kind.{Kind}
use Rattle.station.specs.declared.Kind.TheVariants.{NoSuch, Start, Stop, Recovery, IntervalEnd, TimeoutEnd, QuietEnd, Delivery, Loss}
use Rattle.station.specs.Events.{kind_of, delivers, loses, takes_letter, is_notice}
use Rattle.station.proofs.Tallies.{rule_settles}
use Rattle.world.specs.World.{World, Event, no_letter, letter_at, is_link_at, exists_as, exists, receiver_in, concerned, rule}
use Rattle.world.specs.World.{left, notices_of}

-- in a network with so many letters in flight
module _ (net : Network) (n a b : ℕ) where
  letter_as : (k : Kind) → T (takes_letter k) → T (exists_as k net n a b) → a < n
  letter_as NoSuch t x = absurd t
  letter_as Start t x = absurd t
  letter_as Stop t x = absurd t
  letter_as Recovery t x = absurd t
  letter_as IntervalEnd t x = absurd t
  letter_as TimeoutEnd t x = absurd t
  letter_as QuietEnd t x = absurd t
  letter_as Delivery t x = ltb→lt a n (and_l (ltb a n) _ x)
  letter_as Loss t x = ltb→lt a n (and_l (ltb a n) _ x)

  abbrev known : Bool
  known = ltb a net.stations

  station_as : (k : Kind) → T (not (takes_letter k)) → T (exists_as k net n a b) → a < net.stations
  station_as NoSuch t x = absurd x
  station_as Start t x = ltb→lt a _ (and_l known _ x)
  station_as Stop t x = ltb→lt a _ (and_l known _ x)
  station_as Recovery t x = ltb→lt a _ (and_l known _ x)
  station_as IntervalEnd t x = ltb→lt a _ (and_l known _ x)
  station_as TimeoutEnd t x = ltb→lt a _ (and_l known _ x)
  station_as QuietEnd t x = ltb→lt a _ (and_l known _ x)
  station_as Delivery t x = absurd t
  station_as Loss t x = absurd t

-- a link at a station that is there
pub link_real : (net : Network) (a b : ℕ) → T (ltb a net.stations && is_link_at net a b) → b < length net.links
link_real net a b x = ltb→lt b _ (and_l (ltb b (length net.links)) _ (and_r (ltb a net.stations) _ x))

pub link_own : (net : Network) (a b : ℕ) → T (ltb a net.stations && is_link_at net a b) → T (is_end net b a)
link_own net a b x = and_r (ltb b (length net.links)) _ (and_r (ltb a net.stations) _ x)

-- both kinds that take a letter, counted
both_kinds : (k : Kind) → bit (takes_letter k) ≡ bit (delivers k) + bit (loses k)
both_kinds NoSuch = refl
both_kinds Start = refl
both_kinds Stop = refl
both_kinds Recovery = refl
both_kinds IntervalEnd = refl
both_kinds TimeoutEnd = refl
both_kinds QuietEnd = refl
both_kinds Delivery = refl
both_kinds Loss = refl

-- the letters that are left
module _ (a : ℕ) (xs : List Letter) where
  length_left : (b : Bool) → (T b → a < length xs) → length (if b then without a xs else xs) + bit b ≡ length xs
  length_left true f = length_without a xs (f tt)
  length_left false f = omega arith

  notices_left : (b : Bool) → (T b → a < length xs)
      → notices_of (if b then without a xs else xs) + (if b then bit (is_notice (get_or xs a no_letter).body) else 0) ≡ notices_of xs
  notices_left true f = sum_without (λ x. bit (is_notice x.body)) a xs no_letter (f tt)
  notices_left false f = omega arith

module _ (w : World) (e : Event) where
  abbrev takes : Bool
  takes = takes_letter (kind_of e.kind)

  -- the letter that is meant is in flight, and else the station a is there
  pub letter_there : T takes → T (exists w e) → e.a < length w.letters
  unfolding exists
  letter_there t x = letter_as w.net (length w.letters) e.a e.b (kind_of e.kind) t x

  pub station_there : T (not takes) → T (exists w e) → e.a < w.net.stations
  unfolding exists
  station_there t x = station_as w.net (length w.letters) e.a e.b (kind_of e.kind) t x

  -- so it concerns the letter's receiver and leaves the others, or it concerns a and leaves them all
  pub concerned_receiver : T takes → concerned w e ≡ receiver_in w.net (letter_at w e.a)
  unfolding concerned
  concerned_receiver t = ap (λ (b : Bool). if b then receiver_in w.net (letter_at w e.a) else e.a) (T_is takes t)

  pub concerned_named : T (not takes) → concerned w e ≡ e.a
  unfolding concerned
  concerned_named t = ap (λ (b : Bool). if b then receiver_in w.net (letter_at w e.a) else e.a) (T_not_is takes t)

  pub left_others : T takes → left w e ≡ without e.a w.letters
  unfolding left
  left_others t = ap (λ (b : Bool). if b then without e.a w.letters else w.letters) (T_is takes t)

  pub left_all : T (not takes) → left w e ≡ w.letters
  unfolding left
  left_all t = ap (λ (b : Bool). if b then without e.a w.letters else w.letters) (T_not_is takes t)

  -- ONE LETTER LESS where one is delivered or lost,
  pub left_length : T (exists w e) → length (left w e) + bit takes ≡ length w.letters
  unfolding left
  left_length x = length_left e.a w.letters takes (λ t. letter_there t x)

  pub left_one : T (exists w e)
      → length (left w e) + (bit (delivers (kind_of e.kind)) + bit (loses (kind_of e.kind))) ≡ length w.letters
  left_one x = rw (← both_kinds (kind_of e.kind)) (left_length x)

  -- and one notice less where it is one: the rule counts it as settled
  pub left_notices : T (exists w e) → notices_of (left w e) + (rule w e).counts.settled ≡ notices_of w.letters
  unfolding left rule
  left_notices x = rw (rule_settles) (notices_left e.a w.letters takes (λ t. letter_there t x))
