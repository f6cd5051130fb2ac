-- The words of the page's first line, byte by byte.
use Rattle.std.specs.Prelude.{ℕ, List, [], ◌∷◌}

-- " events taken, "
abbrev pub events_taken : List ℕ
events_taken = 32 ∷ 101 ∷ 118 ∷ 101 ∷ 110 ∷ 116 ∷ 115 ∷ 32 ∷ 116 ∷ 97 ∷ 107 ∷ 101 ∷ 110 ∷ 44 ∷ 32 ∷ []

-- " refused" and a newline
abbrev pub refused_word : List ℕ
refused_word = 32 ∷ 114 ∷ 101 ∷ 102 ∷ 117 ∷ 115 ∷ 101 ∷ 100 ∷ 10 ∷ []
