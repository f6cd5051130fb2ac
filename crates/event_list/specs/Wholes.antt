-- A line that is whole and good in some bytes, read at once: what the code has of it, in the words of the reading byte by byte.
use Rattle.std.specs.Prelude.{ℕ, ◌+◌, ◌-◌, ◌^◌, ◌≤◌, ◌<◌, Bool, true, ◌≡◌, List, [], ◌∷◌, length, get_or, take, drop, Some}
use Rattle.event_lines.specs.declared.Reading.{Reading}
use Rattle.event_lines.specs.Ends.{end_from}
use Rattle.event_lines.specs.Steps.{start, fed, line_end}

abbrev pub under : ℕ → ℕ → ℕ → ℕ → ℕ → Reading
under place digits value first second = record { place = place; digits = digits; value = value; first = first; second = second }

-- from one place to the other stand nine digits at most, which make this value: a reading that comes to them with a number to begin has
-- that number behind them
pub record Digits (bytes : List ℕ) (from value next : ℕ) : Type 0 where
  pub after : from ≤ next
  pub within : next ≤ length bytes
  pub few : next ≤ from + 9
  pub small : value < 10 ^ (next - from)
  pub ends : end_from bytes from ≡ end_from bytes next
  pub feeds : (p f s more : ℕ) → fed (under p 0 0 f s) (take (next - from + more) (drop from bytes))
      ≡ fed (under p (next - from) value f s) (take more (drop next bytes))

-- at least one digit, and that byte behind them
pub record Numbered (bytes : List ℕ) (from close value next : ℕ) : Type 0 where
  pub stop : ℕ
  pub behind : next ≡ stop + 1
  pub digits : Digits bytes from value stop
  pub some : from < stop
  pub inside : stop < length bytes
  pub byte : get_or bytes stop 0 ≡ close

-- no byte of the line came before; it ends before `next`, and says these numbers
pub record WholeLine (fresh : Bool) (bytes : List ℕ) (from kind a b next : ℕ) : Type 0 where
  pub begins : fresh ≡ true
  pub stop : ℕ
  pub behind : next ≡ stop + 1
  pub ended : Some stop ≡ end_from bytes from
  pub says : line_end (fed start (take (stop - from) (drop from bytes))) ≡ 0 ∷ kind ∷ a ∷ b ∷ []
