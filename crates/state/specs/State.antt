-- What a state value means, and which of them are well formed: the used places say what the world is, and unused ones are zero.
-- That a well-formed one is determined by its meaning: proofs/Meaning.antt.
use Rattle.std.specs.Prelude.{ℕ, ◌^◌, ◌<◌, Bool, true, false, ◌&&◌, ◌||◌, ◌≡◌, [], map, leb, ltb, length, get_or, take, if◌then◌else◌}
use Rattle.lists.specs.Lists.{every, below}
use Rattle.lists.specs.Places.{roomed}
use Rattle.net.specs.declared.Body.{Body}
use Rattle.net.specs.declared.Body.TheVariants.{Request, Reply, Notice}
use Rattle.net.specs.declared.Letter.{Letter}
use Rattle.net.specs.declared.Net.{Net}
use Rattle.net.specs.Letters.{letter_holds}
use Rattle.net.specs.Values.{network_of, is_zero}
use Rattle.net.specs.Sizes.{station_room, link_room, letter_room}
use Rattle.sheet_rules.specs.Values.{net_holds}
use Rattle.marks.specs.declared.Words.{Words}
use Rattle.station.specs.declared.Station.{Station}
use Rattle.station.specs.declared.Condition.TheVariants.{Down}
use Rattle.station.specs.Holding.{is_down}
use Rattle.station.specs.Values.{holding_of, laid, blank, no_words}
use Rattle.state_rules.specs.Formed.{station_formed, station_test}
use Rattle.world.specs.World.{World, no_letter}
use Rattle.state.specs.declared.State.{State}

-- beyond the 32 places there is nothing
abbrev pub beyond : Station
beyond = record { condition = Down; counters = []; marks = no_words }

abbrev pub station_in : State → ℕ → Station
station_in s i = get_or s.stations i beyond

abbrev pub letter_in : State → ℕ → Letter
letter_in s j = get_or s.letters j no_letter

-- ---- the bridge: the used places
unfoldable pub world_of : State → World
world_of s =
    record {
      net = network_of s.net;
      holdings = map (holding_of s.net) (take (network_of s.net).stations s.stations);
      letters = take s.flying s.letters;
    }

-- and back: a world laid out in room that is zero
unfoldable pub state_of : Net → World → State
state_of net w =
    record {
      net = net;
      flying = length w.letters;
      stations = roomed station_room blank (map (laid net blank) w.holdings);
      letters = roomed letter_room no_letter w.letters;
    }

-- ---- well formed (11)
-- an unused place of the stations
abbrev pub no_word : Words → Bool
no_word w = is_zero w.token && is_zero w.turn && is_zero w.testing && is_zero w.asked && is_zero w.quiet

abbrev pub is_blank : Station → Bool
is_blank st = (is_down st.condition && no_word st.marks) && every is_zero st.counters

-- an unused place of the letters
abbrev pub is_request : Body → Bool
is_request Request = true
is_request (Reply c) = false
is_request (Notice j c) = false

abbrev pub is_no_letter : Letter → Bool
is_no_letter x = is_zero x.link && is_zero x.sender && is_request x.body

-- a station that is there holds what it may, with its own unused room zero; a place beyond the stations is zero
abbrev pub station_place : Net → ℕ → Station → Bool
station_place net i st = if ltb i net.stations then station_formed net i st else is_blank st

-- the same as the code asks, with the links of the network and the station's own: an unused place is a down station without links
abbrev pub place_test : ℕ → Bool → ℕ → Station → Bool
place_test links used own st = (used || is_down st.condition) && station_test (if used then links else 0) own st

-- a letter in flight may travel; a place beyond them is zero
abbrev pub letter_place : Net → ℕ → ℕ → Letter → Bool
letter_place net flying j x = if ltb j flying then letter_holds (network_of net) x else is_no_letter x

unfoldable pub stations_hold : State → Bool
stations_hold s = every (λ i. station_place s.net i (station_in s i)) (below station_room)

unfoldable pub letters_hold : State → Bool
letters_hold s = every (λ j. letter_place s.net s.flying j (letter_in s j)) (below letter_room)

-- the sheet rules hold; at most 4,096 letters; each place of the stations and of the letters holds
unfoldable pub state_holds : State → Bool
state_holds s = (net_holds s.net && leb s.flying letter_room) && (stations_hold s && letters_hold s)

-- ---- what the type itself says of a value: the arrays' sizes, and the words' widths
pub record Fits (st : Station) : Type 0 where
  pub counters : length st.counters ≡ link_room
  pub token : st.marks.token < 2 ^ 64
  pub turn : st.marks.turn < 2 ^ 64
  pub testing : st.marks.testing < 2 ^ 64
  pub asked : st.marks.asked < 2 ^ 64
  pub quiet : st.marks.quiet < 2 ^ 64

pub record Ends64 (net : Net) : Type 0 where
  pub low : length net.low ≡ link_room
  pub high : length net.high ≡ link_room

pub record Sized (s : State) : Type 0 where
  pub ends : Ends64 s.net
  pub stations : length s.stations ≡ station_room
  pub letters : length s.letters ≡ letter_room
  pub each : (i : ℕ) → i < station_room → Fits (station_in s i)
