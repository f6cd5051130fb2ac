-- What the code answers, byte by byte: a line that is being read as a value of its own, for every such value.
-- proofs/Events.antt says that the bytes of a line, one after the other, give what specs/Events.antt says of the whole line.
use Rattle.std.specs.Prelude.{ℕ, ◌+◌, ◌-◌, ◌*◌, List, [], ◌∷◌, eqb, ltb, if◌then◌else◌, Option, Some, None}
use Rattle.event_lines.specs.declared.Reading.{Reading}
use Rattle.event_lines.specs.declared.Event.{Event}
use Rattle.event_lines.specs.Events.{is_digit}
use Rattle.event_lines.specs.Split.{fed_by}

-- no byte read
abbrev pub start : Reading
start = record { place = 0; digits = 0; value = 0; first = 0; second = 0 }

-- malformed, whatever follows
abbrev pub spoilt : Reading
spoilt = record { place = 3; digits = 0; value = 0; first = 0; second = 0 }

-- a digit: of a number that has nine, none more
unfoldable pub with_digit : Reading → ℕ → Reading
with_digit r d =
    if ltb r.digits 9
    then (if ltb r.value 100000000
    then record { place = r.place; digits = r.digits + 1; value = r.value * 10 + d; first = r.first; second = r.second }
    else spoilt)
    else spoilt

-- a space: the number before it has a digit, and one more is to come
unfoldable pub next_number : Reading → Reading
next_number r =
    if eqb r.digits 0
    then spoilt
    else
    if eqb r.place 0
    then record { place = 1; digits = 0; value = 0; first = r.value; second = 0 }
    else if eqb r.place 1
    then record { place = 2; digits = 0; value = 0; first = r.first; second = r.value }
    else spoilt

unfoldable pub read_on : Reading → ℕ → Reading
read_on r b = if eqb b 32 then next_number r else if is_digit b then with_digit r (b - 48) else spoilt

-- the line ends here
unfoldable pub line_end : Reading → List ℕ
line_end r = if eqb r.digits 0 then 6 ∷ [] else if eqb r.place 2 then 0 ∷ r.first ∷ r.second ∷ r.value ∷ [] else 6 ∷ []

-- the number and values of the answer
abbrev pub line_numbers : Option Event → List ℕ
line_numbers None = 6 ∷ []
line_numbers (Some e) = 0 ∷ e.kind ∷ e.a ∷ e.b ∷ []

-- bytes one after the other
abbrev pub fed : Reading → List ℕ → Reading
fed = fed_by read_on
