-- A program that takes its input byte by byte and prints where a line ends. It holds a value of its own beside the reading of the line
-- under way. proofs/Lines.antt: in all it prints for each line of the input, whatever the pieces that the input comes in.
use Rattle.std.specs.Prelude.{ℕ, Bool, List, [], ◌∷◌, ◌++◌, eqb, ltb, length, take, if◌then◌else◌}

-- "the last newline may be missing": where a line is begun at the end of the input, one newline more is fed
abbrev pub closing_by : Bool → List ℕ
closing_by begun = if begun then 10 ∷ [] else []

-- a piece of the input, where n bytes were read into a room: these; none are the end of the input
unfoldable pub piece_of : ℕ → Bool → List ℕ → List ℕ
piece_of n begun room = if ltb 0 n then take n room else take (length room) (closing_by begun)

-- a reading where no byte of a line is read, what a byte does to it, what it says where the line ends; what a line does to the value held,
-- and what is printed for it
module _ {Y R A : Type 0} (fresh : R) (on : R → ℕ → R) (ends : R → A) (act : Y → A → Y) (say : Y → A → List ℕ) where
  -- after some bytes: what is held, and the reading
  unfoldable pub held_after : Y → R → List ℕ → Y
  held_after y r [] = y
  held_after y r (b ∷ bytes) = if eqb b 10 then held_after (act y (ends r)) fresh bytes else held_after y (on r b) bytes

  unfoldable pub read_after : Y → R → List ℕ → R
  read_after y r [] = r
  read_after y r (b ∷ bytes) = if eqb b 10 then read_after (act y (ends r)) fresh bytes else read_after y (on r b) bytes

  -- what is printed for them
  unfoldable pub text_after : Y → R → List ℕ → List ℕ
  text_after y r [] = []
  text_after y r (b ∷ bytes) = if eqb b 10 then say y (ends r) ++ text_after (act y (ends r)) fresh bytes else text_after y (on r b) bytes

  -- for whole lines, each given by what it says
  unfoldable pub printed : Y → List A → List ℕ
  printed y [] = []
  printed y (said ∷ others) = say y said ++ printed (act y said) others

  unfoldable pub held_all : Y → List A → Y
  held_all y [] = y
  held_all y (said ∷ others) = held_all (act y said) others

  -- ---- an input that comes in pieces
  unfoldable pub pieces_held : Y → R → List (List ℕ) → Y
  pieces_held y r [] = y
  pieces_held y r (piece ∷ others) = pieces_held (held_after y r piece) (read_after y r piece) others

  unfoldable pub pieces_read : Y → R → List (List ℕ) → R
  pieces_read y r [] = r
  pieces_read y r (piece ∷ others) = pieces_read (held_after y r piece) (read_after y r piece) others

  unfoldable pub pieces_text : Y → R → List (List ℕ) → List ℕ
  pieces_text y r [] = []
  pieces_text y r (piece ∷ others) = text_after y r piece ++ pieces_text (held_after y r piece) (read_after y r piece) others

  module _ (begun : R → Bool) where
    abbrev pub closing : R → List ℕ
    closing r = closing_by (begun r)

    unfoldable pub whole_text : Y → List (List ℕ) → List ℕ
    whole_text y pieces =
        pieces_text y fresh pieces
        ++ text_after (pieces_held y fresh pieces) (pieces_read y fresh pieces) (closing (pieces_read y fresh pieces))

    unfoldable pub whole_held : Y → List (List ℕ) → Y
    whole_held y pieces = held_after (pieces_held y fresh pieces) (pieces_read y fresh pieces) (closing (pieces_read y fresh pieces))
