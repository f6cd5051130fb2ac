-- Two answers that are allowed for a line's end are equal: the numbers tell the cases apart.
use Rattle.std.specs.Prelude.{if◌then◌else◌, Option, Some, None}
use Prim.Native.Nat.{ℕ}
use mathlib.Core.Path.{◌≡◌, refl, sym, ap, ◌∙◌}
use mathlib.Core.List.{List}
use lib.Dec.{eqb}
use lib.ListN.{get_or}
use Rattle.event_lines.specs.declared.Reading.{Reading}
use Rattle.event_lines.specs.declared.Event.{Event}
use Rattle.event_lines.specs.Steps.{line_end, line_numbers}

-- the numbers read back to the answer
line_of : List ℕ → Option Event
line_of xs = if eqb (get_or xs 0 0) 0 then Some (record { kind = get_or xs 1 0; a = get_or xs 2 0; b = get_or xs 3 0 }) else None

line_back : (l : Option Event) → line_of (line_numbers l) ≡ l
unfolding line_of
line_back None = refl
line_back (Some e) = refl

pub one_line : (l m : Option Event) → line_numbers l ≡ line_numbers m → l ≡ m
one_line l m e = sym (line_back l) ∙ ap line_of e ∙ line_back m

-- lines::line_end: what its promise allows is one answer
pub one_end : (r : Reading) (l m : Option Event) → line_numbers l ≡ line_end r → line_numbers m ≡ line_end r → l ≡ m
one_end r l m p q = one_line l m (p ∙ sym q)
