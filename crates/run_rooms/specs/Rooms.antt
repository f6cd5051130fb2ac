-- The parts of a state in which a run of many events holds it, place by place, and the state that they mean.
use Rattle.std.specs.Prelude.{ℕ, ◌+◌, ◌*◌, ◌/◌, ◌%◌, List, map, eqb, get_or, length, if◌then◌else◌}
use Rattle.lists.specs.Lists.{below}
use Rattle.lists.specs.Places.{roomed}
use Rattle.net.specs.declared.Letter.{Letter}
use Rattle.net.specs.declared.Net.{Net}
use Rattle.net.specs.Sizes.{station_room, link_room, letter_room}
use Rattle.station.specs.declared.Condition.TheVariants.{Down}
use Rattle.station.specs.declared.Station.{Station}
use Rattle.station.specs.Values.{no_words}
use Rattle.world.specs.World.{no_letter}
use Rattle.state.specs.declared.State.{State}
use Rattle.state.specs.State.{beyond}
use Rattle.run_rooms.specs.declared.Held.{Held}

-- what a station holds beside its table
abbrev pub held_by : Station → Held
held_by st = record { condition = st.condition; marks = st.marks }

abbrev pub no_held : Held
no_held = record { condition = Down; marks = no_words }

unfoldable pub held_in : List Station → List Held
held_in stations = map (λ i. held_by (get_or stations i beyond)) (below station_room)

-- the tables side by side: as many places as stations and links have together
unfoldable pub side_by_side : List Station → List ℕ
side_by_side stations =
    map (λ j. get_or (get_or stations (j / link_room) beyond).counters (j % link_room) 0) (below (station_room * link_room))

-- the table of station i
unfoldable pub table_in : List ℕ → ℕ → List ℕ
table_in tables i = map (λ k. get_or tables (link_room * i + k) 0) (below link_room)

-- that table anew
unfoldable pub with_table : List ℕ → ℕ → List ℕ → List ℕ
with_table tables i table =
    map (λ j. if eqb (j / link_room) i then get_or table (j % link_room) 0 else get_or tables j 0) (below (length tables))

-- the stations that they mean
abbrev pub station_by : List Held → List ℕ → ℕ → Station
station_by held tables i =
    record { condition = (get_or held i no_held).condition; counters = table_in tables i; marks = (get_or held i no_held).marks }

unfoldable pub stations_in : List Held → List ℕ → List Station
stations_in held tables = map (station_by held tables) (below station_room)

-- ---- the letters: their room, with as many places more as the front of those in flight may move up by
abbrev pub spare_room : ℕ
spare_room = 2048

abbrev pub moving_room : ℕ
moving_room = letter_room + spare_room

unfoldable pub moving_in : List Letter → List Letter
moving_in letters = roomed moving_room no_letter (map (λ j. get_or letters j no_letter) (below letter_room))

-- those in flight: so many from a start on; and the room that they mean, its unused places zero
abbrev pub in_flight : List Letter → ℕ → ℕ → List Letter
in_flight room start many = map (λ j. get_or room (start + j) no_letter) (below many)

abbrev pub letters_in : List Letter → ℕ → ℕ → List Letter
letters_in room start many = roomed letter_room no_letter (in_flight room start many)

-- the state
abbrev pub state_in : Net → List Held → List ℕ → List Letter → ℕ → ℕ → State
state_in net held tables room start flying =
    record { net = net; flying = flying; stations = stations_in held tables; letters = letters_in room start flying }
