-- A line is begun once a byte of it is read, and not before.
use Prim.Native.Nat.{ℕ, ◌+◌, ◌-◌}
use mathlib.Core.Bool.{Bool, true, false, not, ◌||◌}
use mathlib.Core.Path.{◌≡◌, refl, ap, ◌∙◌}
use native.Mathlib.Omega.{arith}
use lib.Dec.{eqb, ltb}
use borrow.Author.Tests.{ne_eqb}
use Rattle.std.proofs.Math.Bool.{or-true}
use Rattle.lists.proofs.Tests.{if_elim}
use Rattle.event_lines.specs.declared.Reading.{Reading}
use Rattle.event_lines.specs.Events.{is_digit}
use Rattle.event_lines.specs.Steps.{start, with_digit, next_number, read_on}
use Rattle.event_lines.specs.Begun.{is_begun}

pub not_first : is_begun start ≡ false
not_first = refl

abbrev Begun : Reading → Type 0
Begun r = is_begun r ≡ true

digit_begins : (r : Reading) (d : ℕ) → Begun (with_digit r d)
unfolding with_digit
digit_begins r d =
    if_elim Begun (ltb r.digits 9)
    (λ t. if_elim Begun (ltb r.value 100000000)
    (λ u. ap (λ (b : Bool). not (eqb r.place 0) || not b) (ne_eqb (r.digits + 1) 0 (λ e. omega arith))
    ∙ or-true (not (eqb r.place 0))) (λ u. refl))
    (λ t. refl)

space_begins : (r : Reading) → Begun (next_number r)
unfolding next_number
space_begins r =
    if_elim Begun (eqb r.digits 0) (λ t. refl) (λ t. if_elim Begun (eqb r.place 0) (λ u. refl)
    (λ u. if_elim Begun (eqb r.place 1) (λ w. refl) (λ w. refl)))

pub byte_begins : (r : Reading) (b : ℕ) → is_begun (read_on r b) ≡ true
unfolding read_on
byte_begins r b =
    if_elim Begun (eqb b 32) (λ t. space_begins r) (λ t. if_elim Begun (is_digit b) (λ u. digit_begins r (b - 48)) (λ u. refl))
