-- The lines of a text: each ends with a newline, "the last newline may be missing". No bytes are no line; a lone newline is one
-- empty line. proofs/Split.antt: a reader that takes the bytes one by one answers for each of them.
use Rattle.std.specs.Prelude.{ℕ, Bool, true, false, List, [], ◌∷◌, eqb, fold, if◌then◌else◌}

-- one byte more at the front of the first line
abbrev pub on_line : ℕ → List (List ℕ) → List (List ℕ)
on_line b [] = (b ∷ []) ∷ []
on_line b (line ∷ others) = (b ∷ line) ∷ others

unfoldable pub lines_of : List ℕ → List (List ℕ)
lines_of [] = []
lines_of (b ∷ bytes) = if eqb b 10 then [] ∷ lines_of bytes else on_line b (lines_of bytes)

-- the value that a reader has after bytes one after the other
module _ {R : Type 0} (on : R → ℕ → R) where
  abbrev pub fed_by : R → List ℕ → R
  fed_by = fold on

-- a reader: its value where no byte of a line is read, what a byte does to it, what it answers where the line ends
module _ {R A : Type 0} (fresh : R) (on : R → ℕ → R) (ends : R → A) where
  -- what it answers for the bytes to come; `begun` says whether a byte of the line under way is read
  abbrev pub answers : R → Bool → List ℕ → List A
  answers r true [] = ends r ∷ []
  answers r false [] = []
  answers r begun (b ∷ bytes) = if eqb b 10 then ends r ∷ answers fresh false bytes else answers (on r b) true bytes
