-- The lines of the event program: "three decimal numbers with one space between, each of 1 to 9 digits". A line is the list of
-- its bytes, without its newline.
use Rattle.std.specs.Prelude.{ℕ, Bool, ◌&&◌, List, [], ◌∷◌, map, eqb, leb, length, if◌then◌else◌}
use Rattle.lists.specs.Lists.{every}
pub use Rattle.lists.specs.Digits.{is_digit, value_from}

-- one byte more at the front of the first piece
abbrev pub on_first : ℕ → List (List ℕ) → List (List ℕ)
on_first b [] = (b ∷ []) ∷ []
on_first b (piece ∷ others) = (b ∷ piece) ∷ others

-- what stands between the spaces, an empty piece too
unfoldable pub pieces : List ℕ → List (List ℕ)
pieces [] = [] ∷ []
pieces (b ∷ bytes) = if eqb b 32 then [] ∷ pieces bytes else on_first b (pieces bytes)

-- 1 to 9 digits
abbrev pub is_number : List ℕ → Bool
is_number piece = leb 1 (length piece) && leb (length piece) 9 && every is_digit piece

-- the number that digits make
abbrev pub value : List ℕ → ℕ
value piece = value_from 0 piece

-- three pieces, each a number
unfoldable pub is_event : List (List ℕ) → Bool
is_event ps = eqb (length ps) 3 && every is_number ps

-- 0 and the three numbers; the answer 6 for a malformed line, an empty one among them
unfoldable pub event_line : List ℕ → List ℕ
event_line bytes = if is_event (pieces bytes) then 0 ∷ map value (pieces bytes) else 6 ∷ []
