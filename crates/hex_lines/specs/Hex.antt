-- Lines of hexadecimal digits: digits of either case, an even number of them, at most 64; the empty line is no bytes. A line is the
-- list of its bytes, without its newline.
use Rattle.std.specs.Prelude.{ℕ, ◌+◌, ◌-◌, ◌*◌, ◌%◌, Bool, ◌&&◌, List, [], ◌∷◌, eqb, leb, ltb, length, if◌then◌else◌}
use Rattle.lists.specs.Lists.{every}

-- what a line says
pub data HexText : Type 0 where
  malformed : HexText
  octets : List ℕ → HexText

abbrev pub between : ℕ → ℕ → ℕ → Bool
between low high b = leb low b && leb b high

-- a digit's value: 0 to 9, A to F, a to f; 16 for any other byte
unfoldable pub hex_value : ℕ → ℕ
hex_value b =
    if between 48 57 b then b - 48 else if between 65 70 b then b - 55 else if between 97 102 b then b - 87 else 16

abbrev pub is_hex : ℕ → Bool
is_hex b = ltb (hex_value b) 16

-- a byte for each two digits, the high one first
abbrev pub pairs : List ℕ → List ℕ
pairs [] = []
pairs (a ∷ []) = []
pairs (a ∷ b ∷ bytes) = (hex_value a * 16 + hex_value b) ∷ pairs bytes

abbrev pub is_even : ℕ → Bool
is_even n = eqb (n % 2) 0

unfoldable pub hex_line : List ℕ → HexText
hex_line bytes = if every is_hex bytes && (leb (length bytes) 64 && is_even (length bytes)) then octets (pairs bytes) else malformed
