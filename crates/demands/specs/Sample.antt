-- Document 01's own example, as it is printed there.
use Rattle.std.specs.Prelude.{ℕ, ◌+◌, List, [], ◌∷◌, ◌++◌}

-- a line of numbers of one digit each: their digits with one space between, and the newline
abbrev pub line : List ℕ → List ℕ
line [] = 10 ∷ []
line (n ∷ []) = (48 + n) ∷ 10 ∷ []
line (n ∷ m ∷ ns) = (48 + n) ∷ 32 ∷ line (m ∷ ns)

-- the sheet: 01 00 01 02, 02 00 02 00 01, 0F 00 00
unfoldable pub sheet : List ℕ
sheet = (1 ∷ 0 ∷ 1 ∷ 2 ∷ []) ++ (2 ∷ 0 ∷ 2 ∷ 0 ∷ 1 ∷ []) ++ (15 ∷ 0 ∷ 0 ∷ [])

-- the nine events, a line each: kind, a, b
unfoldable pub events : List ℕ
events =
    line (1 ∷ 0 ∷ 0 ∷ [])
    ++ line (1 ∷ 1 ∷ 0 ∷ [])
    ++ line (3 ∷ 0 ∷ 0 ∷ [])
    ++ line (3 ∷ 1 ∷ 0 ∷ [])
    ++ line (7 ∷ 0 ∷ 0 ∷ [])
    ++ line (7 ∷ 0 ∷ 0 ∷ [])
    ++ line (7 ∷ 0 ∷ 0 ∷ [])
    ++ line (7 ∷ 0 ∷ 0 ∷ [])
    ++ line (7 ∷ 0 ∷ 0 ∷ [])

-- the whole output: for each event the answer, letters in flight and notices settled so far; then each station's number and its counter
unfoldable pub output : List ℕ
output =
    line (0 ∷ 0 ∷ 0 ∷ [])
    ++ line (0 ∷ 0 ∷ 0 ∷ [])
    ++ line (0 ∷ 1 ∷ 0 ∷ [])
    ++ line (0 ∷ 2 ∷ 0 ∷ [])
    ++ line (0 ∷ 1 ∷ 0 ∷ [])
    ++ line (0 ∷ 1 ∷ 0 ∷ [])
    ++ line (0 ∷ 1 ∷ 0 ∷ [])
    ++ line (0 ∷ 0 ∷ 1 ∷ [])
    ++ line (6 ∷ 0 ∷ 1 ∷ [])
    ++ line (0 ∷ 2 ∷ [])
    ++ line (1 ∷ 2 ∷ [])
