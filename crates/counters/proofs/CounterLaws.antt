-- Laws of the counter rules.
use Prim.Native.Nat.{ℕ, ◌+◌, ◌%◌}
use mathlib.Core.Bool.{true, false}
use mathlib.Core.Path.{◌≡◌}
use borrow.Author.Tests.{eq-eqb, ne_eqb, eqb-true, eqb-false}
use Rattle.counters.specs.Counters.{even, timed_out}

pub even_is : (c : ℕ) → even c ≡ true → c % 2 ≡ 0
even_is c e = eqb-true (c % 2) 0 e

pub odd_is : (c : ℕ) → even c ≡ false → c % 2 ≡ 0 → ⊥
odd_is c e = eqb-false (c % 2) 0 e

pub timed_even : (c : ℕ) → c % 2 ≡ 0 → c + 1 ≡ timed_out c
timed_even c h = simp (eq-eqb _ _ h)

pub timed_odd : (c : ℕ) → (c % 2 ≡ 0 → ⊥) → c ≡ timed_out c
timed_odd c h = simp (ne_eqb _ _ h)
