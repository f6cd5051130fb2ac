-- What the page program prints for a station.
use Rattle.std.specs.Prelude.{ℕ, ◌+◌, Bool, List, [], ◌∷◌, ◌++◌, eqb, get_or, if◌then◌else◌}
use Rattle.lists.specs.Lists.{below}
use Rattle.lists.specs.Places.{collect}
use Rattle.text.specs.Text.{digits}
use Rattle.net.specs.Network.{Network, ends, link_numbers}
use Rattle.page_part.specs.Words.{station_word, down_word, waiting_word, live_word, of_word, lowest_word}
use Rattle.page_part.specs.Words.{under_station, working_word, unreachable_word, under_link, open_word, dash_word, perceived_word}
use Rattle.page_part.specs.Words.{link_working, unresponsive_word}

-- "`station S down`, `station S waiting`"
unfoldable pub still_text : ℕ → Bool → List ℕ
still_text s waiting = station_word ++ digits s ++ (if waiting then waiting_word else down_word)

-- "`station S live, reaches N of M`"
unfoldable pub reach_text : ℕ → ℕ → ℕ → List ℕ
reach_text s ones stations = station_word ++ digits s ++ live_word ++ digits ones ++ of_word ++ digits stations

-- "followed by `, lowest not reached L` unless all are reached", and the line's end; 255 says that all are
unfoldable pub lowest_text : ℕ → List ℕ
lowest_text lowest = if eqb lowest 255 then 10 ∷ [] else lowest_word ++ digits lowest ++ 10 ∷ []

-- "indented by two spaces, a line `station T working` or `station T unreachable`", by the report's byte for it
abbrev pub station_shown : ℕ → List ℕ
station_shown shown = if eqb shown 1 then working_word else unreachable_word

unfoldable pub seen_text : ℕ → ℕ → List ℕ
seen_text t shown = under_station ++ digits t ++ station_shown shown

-- "`link K (A-B) working`, `link K (A-B) unresponsive` or `link K (A-B) perceived unreachable`"
abbrev pub link_shown : ℕ → List ℕ
link_shown shown = if eqb shown 0 then perceived_word else (if eqb shown 1 then link_working else unresponsive_word)

unfoldable pub link_text : ℕ → ℕ → ℕ → ℕ → List ℕ
link_text k low high shown = under_link ++ digits k ++ open_word ++ digits low ++ dash_word ++ digits high ++ link_shown shown

-- the lines for each station and each link, by a report: one byte for each station, then one for each link
unfoldable pub stations_seen : ℕ → List ℕ → List ℕ
stations_seen stations report = collect (λ t. seen_text t (get_or report t 0)) (below stations)

unfoldable pub links_seen : Network → List ℕ → List ℕ
links_seen net report =
    collect (λ k. link_text k (ends net k).low (ends net k).high (get_or report (net.stations + k) 0)) (link_numbers net)

unfoldable pub live_text : Network → ℕ → ℕ → ℕ → List ℕ → List ℕ
live_text net s ones lowest report =
    reach_text s ones net.stations ++ lowest_text lowest ++ stations_seen net.stations report ++ links_seen net report
