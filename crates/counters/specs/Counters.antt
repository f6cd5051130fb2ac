-- A link's counter: 1 to 65,535; even = working, odd = unresponsive. The rules that stand alone.
use Rattle.std.specs.Prelude.{ℕ, ◌+◌, ◌%◌, max, Bool, not, List, [], ◌∷◌, eqb, ltb, if◌then◌else◌, Option, Some, None}
use Rattle.net.specs.Sizes.{largest_counter}

abbrev pub even : ℕ → Bool
even c = eqb (c % 2) 0

abbrev pub odd : ℕ → Bool
odd c = not (even c)

-- a timeout ends: an even counter is raised by 1, an odd one stays
abbrev pub timed_out : ℕ → ℕ
timed_out c = if even c then c + 1 else c

-- a reply: m, the larger of the own and the carried counter, if it is even, else m + 1
unfoldable pub healed : ℕ → ℕ → ℕ
healed own carried = if even (max own carried) then max own carried else max own carried + 1

-- a reply's new counter, none where it would be 65,536
unfoldable pub healing : ℕ → ℕ → Option ℕ
healing own carried = if ltb largest_counter (healed own carried) then None else Some (healed own carried)

-- the paper's number and values of that answer
abbrev pub healed_numbers : Option ℕ → List ℕ
healed_numbers (Some c) = 0 ∷ c ∷ []
healed_numbers None = 8 ∷ []

-- a notice is newer only if its counter is above the own one
abbrev pub newer : ℕ → ℕ → Bool
newer own carried = ltb own carried
