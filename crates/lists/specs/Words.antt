-- A word as a set of numbers: t is in the word if its bit t is set. Their laws: proofs/Words.antt.
use Rattle.std.specs.Prelude.{ℕ, ◌+◌, ◌*◌, ◌/◌, ◌%◌, ◌^◌, Bool, true, false, List, [], ◌∷◌, eqb}

-- 1 for yes, 0 for no
abbrev pub bit : Bool → ℕ
bit true = 1
bit false = 0

-- bit t of the word w, 0 or 1
abbrev pub bit_at : ℕ → ℕ → ℕ
bit_at w t = w / 2 ^ t % 2

-- t is in the word w
abbrev pub in_word : ℕ → ℕ → Bool
in_word w t = eqb (bit_at w t) 1

-- the word that has bit t where the list says yes at t
unfoldable pub word_of : List Bool → ℕ
word_of [] = 0
word_of (b ∷ bs) = bit b + 2 * word_of bs
