-- Parts of a line: a number and a space, bytes in hexadecimal, the end. Their laws: proofs/Parts.antt.
use Rattle.std.specs.Prelude.{ℕ, List, [], ◌∷◌, ◌++◌}
use Rattle.lists.specs.Places.{collect}
use Rattle.text.specs.Text.{digits, hex_pair}

-- a number and a space
unfoldable pub field_text : ℕ → List ℕ
field_text n = digits n ++ (32 ∷ [])

-- bytes in upper-case hexadecimal
unfoldable pub hex_text : List ℕ → List ℕ
hex_text bytes = collect hex_pair bytes

-- the end of a line
abbrev pub newline : List ℕ
newline = 10 ∷ []
