-- The words of a station's part of the page, byte by byte.
use Rattle.std.specs.Prelude.{ℕ, List, [], ◌∷◌}

-- "station "
abbrev pub station_word : List ℕ
station_word = 115 ∷ 116 ∷ 97 ∷ 116 ∷ 105 ∷ 111 ∷ 110 ∷ 32 ∷ []

-- " down" and a newline
abbrev pub down_word : List ℕ
down_word = 32 ∷ 100 ∷ 111 ∷ 119 ∷ 110 ∷ 10 ∷ []

-- " waiting" and a newline
abbrev pub waiting_word : List ℕ
waiting_word = 32 ∷ 119 ∷ 97 ∷ 105 ∷ 116 ∷ 105 ∷ 110 ∷ 103 ∷ 10 ∷ []

-- " live, reaches "
abbrev pub live_word : List ℕ
live_word = 32 ∷ 108 ∷ 105 ∷ 118 ∷ 101 ∷ 44 ∷ 32 ∷ 114 ∷ 101 ∷ 97 ∷ 99 ∷ 104 ∷ 101 ∷ 115 ∷ 32 ∷ []

-- " of "
abbrev pub of_word : List ℕ
of_word = 32 ∷ 111 ∷ 102 ∷ 32 ∷ []

-- ", lowest not reached "
abbrev pub lowest_word : List ℕ
lowest_word = 44 ∷ 32 ∷ 108 ∷ 111 ∷ 119 ∷ 101 ∷ 115 ∷ 116 ∷ 32 ∷ 110 ∷ 111 ∷ 116 ∷ 32 ∷ 114 ∷ 101 ∷ 97 ∷ 99 ∷ 104 ∷ 101 ∷ 100 ∷ 32 ∷ []

-- "  station "
abbrev pub under_station : List ℕ
under_station = 32 ∷ 32 ∷ 115 ∷ 116 ∷ 97 ∷ 116 ∷ 105 ∷ 111 ∷ 110 ∷ 32 ∷ []

-- " working" and a newline
abbrev pub working_word : List ℕ
working_word = 32 ∷ 119 ∷ 111 ∷ 114 ∷ 107 ∷ 105 ∷ 110 ∷ 103 ∷ 10 ∷ []

-- " unreachable" and a newline
abbrev pub unreachable_word : List ℕ
unreachable_word = 32 ∷ 117 ∷ 110 ∷ 114 ∷ 101 ∷ 97 ∷ 99 ∷ 104 ∷ 97 ∷ 98 ∷ 108 ∷ 101 ∷ 10 ∷ []

-- "  link "
abbrev pub under_link : List ℕ
under_link = 32 ∷ 32 ∷ 108 ∷ 105 ∷ 110 ∷ 107 ∷ 32 ∷ []

-- " ("
abbrev pub open_word : List ℕ
open_word = 32 ∷ 40 ∷ []

-- "-"
abbrev pub dash_word : List ℕ
dash_word = 45 ∷ []

-- ") perceived unreachable" and a newline
abbrev pub perceived_word : List ℕ
perceived_word =
    41 ∷ 32 ∷ 112 ∷ 101 ∷ 114 ∷ 99 ∷ 101 ∷ 105 ∷ 118 ∷ 101 ∷ 100 ∷ 32 ∷ 117 ∷ 110 ∷ 114 ∷ 101 ∷ 97 ∷ 99 ∷ 104 ∷ 97 ∷ 98 ∷ 108 ∷ 101 ∷ 10 ∷
    []

-- ") working" and a newline
abbrev pub link_working : List ℕ
link_working = 41 ∷ 32 ∷ 119 ∷ 111 ∷ 114 ∷ 107 ∷ 105 ∷ 110 ∷ 103 ∷ 10 ∷ []

-- ") unresponsive" and a newline
abbrev pub unresponsive_word : List ℕ
unresponsive_word = 41 ∷ 32 ∷ 117 ∷ 110 ∷ 114 ∷ 101 ∷ 115 ∷ 112 ∷ 111 ∷ 110 ∷ 115 ∷ 105 ∷ 118 ∷ 101 ∷ 10 ∷ []
