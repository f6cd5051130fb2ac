-- Text for lent output: numbers in decimal, a byte in hexadecimal, and what an output holds after a text was put at a place.
-- Their laws: proofs/Digits.antt, proofs/Puts.antt, proofs/Chains.antt.
use Rattle.std.specs.Prelude.{ℕ, zero, suc, ◌+◌, ◌/◌, ◌%◌, Bool, List, [], ◌∷◌, ◌++◌, ltb, leb, length, take, drop, if◌then◌else◌}
pub use Rattle.lists.specs.Digits.{is_digit, value_from}

-- the digits of n, the highest first; `room` only bounds the recursion, and n itself is always enough
unfoldable pub digits_in : ℕ → ℕ → List ℕ
digits_in zero n = (48 + n) ∷ []
digits_in (suc room) n =
    let longer = digits_in room (n / 10) ++ ((48 + n % 10) ∷ []) in
    if ltb n 10 then (48 + n) ∷ [] else longer

-- n in decimal, without leading zeros; 0 is "0"
unfoldable pub digits : ℕ → List ℕ
digits n = digits_in n n

-- one hexadecimal digit, upper case, and the two of a byte
abbrev pub hex_digit : ℕ → ℕ
hex_digit n = if ltb n 10 then 48 + n else 55 + n

abbrev pub hex_pair : ℕ → List ℕ
hex_pair byte = hex_digit (byte / 16) ∷ hex_digit (byte % 16) ∷ []

-- ---- a text at a place of an output
abbrev pub fits : List ℕ → ℕ → List ℕ → Bool
fits text at old = leb (at + length text) (length old)

-- the output after: the text in its place; all as it was where the text does not fit
unfoldable pub put_at : List ℕ → ℕ → List ℕ → List ℕ
put_at text at old = if fits text at old then take at old ++ text ++ drop (at + length text) old else old

-- the place behind the text; where it does not fit, one beyond the output's end, where nothing fits any more
unfoldable pub place_after : List ℕ → ℕ → List ℕ → ℕ
place_after text at old = if fits text at old then at + length text else length old + 1
