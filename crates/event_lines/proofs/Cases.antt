-- Lines on both sides of each edge, computed from the definitions.
use mathlib.Core.Path.{◌≡◌, refl}
use mathlib.Core.List.{[], ◌∷◌, map}
use Rattle.event_lines.specs.Events.{pieces, is_event, event_line}
use Rattle.event_lines.specs.Split.{lines_of}

-- "7 0 0"; "007 1 999999999"; then malformed: no bytes; two numbers; four; two spaces; a space before; a space behind; ten digits; a letter
pub event_cases : map event_line (
    (55 ∷ 32 ∷ 48 ∷ 32 ∷ 48 ∷ [])
    ∷ (48 ∷ 48 ∷ 55 ∷ 32 ∷ 49 ∷ 32 ∷ 57 ∷ 57 ∷ 57 ∷ 57 ∷ 57 ∷ 57 ∷ 57 ∷ 57 ∷ 57 ∷ [])
    ∷ []
    ∷ (49 ∷ 32 ∷ 48 ∷ [])
    ∷ (49 ∷ 32 ∷ 48 ∷ 32 ∷ 48 ∷ 32 ∷ 48 ∷ [])
    ∷ (49 ∷ 32 ∷ 32 ∷ 48 ∷ 32 ∷ 48 ∷ [])
    ∷ (32 ∷ 49 ∷ 32 ∷ 48 ∷ 32 ∷ 48 ∷ [])
    ∷ (49 ∷ 32 ∷ 48 ∷ 32 ∷ 48 ∷ 32 ∷ [])
    ∷ (48 ∷ 48 ∷ 48 ∷ 48 ∷ 48 ∷ 48 ∷ 48 ∷ 48 ∷ 48 ∷ 49 ∷ 32 ∷ 48 ∷ 32 ∷ 48 ∷ [])
    ∷ (49 ∷ 32 ∷ 48 ∷ 32 ∷ 97 ∷ [])
    ∷ [])
    ≡ (0 ∷ 7 ∷ 0 ∷ 0 ∷ []) ∷ (0 ∷ 7 ∷ 1 ∷ 999999999 ∷ []) ∷ (6 ∷ []) ∷ (6 ∷ []) ∷ (6 ∷ []) ∷ (6 ∷ []) ∷ (6 ∷ []) ∷ (6 ∷ []) ∷ (6 ∷ []) ∷
    (6 ∷ []) ∷ []
unfolding pieces is_event event_line
event_cases = refl

-- no bytes; a lone newline; "a"; "a", newline; newline, "a"; "a", two newlines, "b"
pub line_cases : map lines_of ([] ∷ (10 ∷ []) ∷ (97 ∷ []) ∷ (97 ∷ 10 ∷ []) ∷ (10 ∷ 97 ∷ []) ∷ (97 ∷ 10 ∷ 10 ∷ 98 ∷ []) ∷ [])
    ≡ [] ∷ ([] ∷ []) ∷ ((97 ∷ []) ∷ []) ∷ ((97 ∷ []) ∷ []) ∷ ([] ∷ (97 ∷ []) ∷ []) ∷ ((97 ∷ []) ∷ [] ∷ (98 ∷ []) ∷ []) ∷ []
unfolding lines_of
line_cases = refl
