-- Event lines byte by byte, whatever a program holds; and the list is of whole events.
use Prim.Native.Nat.{ℕ, ◌+◌, ◌*◌, ◌≤◌}
use mathlib.Core.Path.{◌≡◌, refl, ap, ◌∙◌}
use mathlib.Core.List.{List, [], ◌∷◌, ◌++◌}
use native.Mathlib.Decide.{ℕ_discrete}
use native.Mathlib.Omega.{arith}
use lib.ListN.{length}
use borrow.Author.Tests.{eq-eqb, ne_eqb}
use Rattle.event_lines.specs.declared.Reading.{Reading}
use Rattle.event_lines.specs.Steps.{start, read_on, line_end}
use Rattle.console.specs.Feeding.{held_after, read_after, text_after}
use Rattle.event_list.specs.Lines.{three_of, passes, lists, numbers_in, line_after}

-- ---- byte by byte, for any program that takes event lines so
module _ {Y : Type 0} (act : Y → List ℕ → Y) (say : Y → List ℕ → List ℕ) where
  abbrev held : Y → Reading → List ℕ → Y
  held = held_after start read_on line_end act say

  abbrev read : Y → Reading → List ℕ → Reading
  read = read_after start read_on line_end act say

  abbrev text : Y → Reading → List ℕ → List ℕ
  text = text_after start read_on line_end act say

  pub at_end : (y : Y) (r : Reading) → (held y r [] ≡ y) × (read y r [] ≡ r) × (text y r [] ≡ [])
  unfolding held_after read_after text_after
  at_end y r = (refl, refl, refl)

  pub at_newline : (y : Y) (r : Reading) (b : ℕ) (bytes : List ℕ) → b ≡ 10
      → (held y r (b ∷ bytes) ≡ held (act y (line_end r)) start bytes)
      × (read y r (b ∷ bytes) ≡ read (act y (line_end r)) start bytes)
      × (text y r (b ∷ bytes) ≡ say y (line_end r) ++ text (act y (line_end r)) start bytes)
  unfolding held_after read_after text_after
  at_newline y r b bytes h = simp (eq-eqb b 10 h) (refl, refl, refl)

  pub at_other : (y : Y) (r : Reading) (b : ℕ) (bytes : List ℕ) → (b ≡ 10 → ⊥)
      → (held y r (b ∷ bytes) ≡ held y (read_on r b) bytes)
      × (read y r (b ∷ bytes) ≡ read y (read_on r b) bytes)
      × (text y r (b ∷ bytes) ≡ text y (read_on r b) bytes)
  unfolding held_after read_after text_after
  at_other y r b bytes h = simp (ne_eqb b 10 h) (refl, refl, refl)

-- ---- and for the list
pub no_bytes : (r : Reading) → (numbers_in r [] ≡ []) × (line_after r [] ≡ r)
no_bytes r = let w = at_end passes lists tt r in (w.2, w.1)

pub newline : (r : Reading) (b : ℕ) (bytes : List ℕ) → b ≡ 10
    → (numbers_in r (b ∷ bytes) ≡ three_of (line_end r) ++ numbers_in start bytes) × (line_after r (b ∷ bytes) ≡ line_after start bytes)
unfolding passes lists
newline r b bytes h = let w = at_newline passes lists tt r b bytes h in (w.2, w.1)

pub other_byte : (r : Reading) (b : ℕ) (bytes : List ℕ) → (b ≡ 10 → ⊥)
    → (numbers_in r (b ∷ bytes) ≡ numbers_in (read_on r b) bytes) × (line_after r (b ∷ bytes) ≡ line_after (read_on r b) bytes)
other_byte r b bytes h = let w = at_other passes lists tt r b bytes h in (w.2, w.1)

-- ---- three numbers for each line
pub record Threes (xs : List ℕ) : Type 0 where
  pub count : ℕ
  pub size : length xs ≡ 3 * count

pub whole_events : (bytes : List ℕ) (r : Reading) → Threes (numbers_in r bytes)
whole_events [] r = record { count = 0; size = ap length (no_bytes r).0 }
whole_events (b ∷ bytes) r = go (ℕ_discrete b 10) (whole_events bytes start) (whole_events bytes (read_on r b))
  where
    go : Dec (b ≡ 10) → Threes (numbers_in start bytes) → Threes (numbers_in (read_on r b) bytes) → Threes (numbers_in r (b ∷ bytes))
    go (yes h) w v = record { count = 1 + w.count; size = ap length (newline r b bytes h).0 ∙ omega (arith, w.size) }
    go (no h) w v = record { count = v.count; size = ap length (other_byte r b bytes h).0 ∙ v.size }

-- no line is without a byte of input
pub numbers_few : (bytes : List ℕ) (r : Reading) → length (numbers_in r bytes) ≤ 3 * length bytes
numbers_few [] r = omega (arith, ap length (no_bytes r).0)
numbers_few (b ∷ bytes) r = go (ℕ_discrete b 10) (numbers_few bytes start) (numbers_few bytes (read_on r b))
  where
    go : Dec (b ≡ 10) → length (numbers_in start bytes) ≤ 3 * length bytes → length (numbers_in (read_on r b) bytes) ≤ 3 * length bytes
        → length (numbers_in r (b ∷ bytes)) ≤ 3 * length (b ∷ bytes)
    go (yes h) w v = omega (arith, ap length (newline r b bytes h).0)
    go (no h) w v = omega (arith, ap length (other_byte r b bytes h).0)
