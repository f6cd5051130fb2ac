-- Hexadecimal lines on both sides of each edge, computed from the definitions.
use mathlib.Core.Path.{◌≡◌, refl}
use mathlib.Core.List.{[], ◌∷◌, map}
use lib.ListN.{replicate}
use Rattle.hex_lines.specs.Hex.{malformed, octets, hex_value, hex_line}

-- no bytes; "0aF1"; 64 digits; then malformed: one digit; "0g"; 66 digits
pub hex_cases : map hex_line ([] ∷ (48 ∷ 97 ∷ 70 ∷ 49 ∷ []) ∷ replicate 64 102 ∷ (48 ∷ []) ∷ (48 ∷ 103 ∷ []) ∷ replicate 66 102 ∷ [])
    ≡ octets [] ∷ octets (10 ∷ 241 ∷ []) ∷ octets (replicate 32 255) ∷ malformed ∷ malformed ∷ malformed ∷ []
unfolding hex_value hex_line
hex_cases = refl
