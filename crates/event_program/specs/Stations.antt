-- The stations' lines at the end of the event program, for every state.
use Rattle.std.specs.Prelude.{ℕ, ◌*◌, List, [], ◌∷◌, ◌++◌}
use Rattle.lists.specs.Lists.{below}
use Rattle.lists.specs.Places.{collect}
use Rattle.text.specs.Text.{digits}
use Rattle.net.specs.Values.{network_of}
use Rattle.reach.specs.Values.{table_of}
use Rattle.state.specs.declared.State.{State}
use Rattle.state.specs.State.{station_in}

-- "one line per station, its number and its counters by link"
unfoldable pub station_text : ℕ → List ℕ → List ℕ
station_text s table = digits s ++ collect (λ c. 32 ∷ digits c) table ++ 10 ∷ []

-- no such line is longer, nor are all of them, with 32 stations at most
abbrev pub station_most : ℕ
station_most = 400

abbrev pub stations_most : ℕ
stations_most = 32 * station_most

abbrev pub station_line : State → ℕ → List ℕ
station_line s i = station_text i (table_of s.net (station_in s i).counters)

unfoldable pub stations_text : State → List ℕ
stations_text s = collect (station_line s) (below (network_of s.net).stations)
