-- A line of hexadecimal digits is begun once a byte of it is read, and not before.
use Prim.Native.Nat.{ℕ, ◌+◌}
use mathlib.Core.Bool.{true, false, not}
use mathlib.Core.Path.{◌≡◌, refl, ap}
use native.Mathlib.Omega.{arith}
use lib.Dec.{eqb, ltb}
use borrow.Author.Tests.{ne_eqb}
use Rattle.lists.proofs.Tests.{if_elim}
use Rattle.hex_lines.specs.declared.HexReading.{HexReading}
use Rattle.hex_lines.specs.Hex.{is_hex, is_even, hex_value}
use Rattle.hex_lines.specs.HexSteps.{hex_start, with_hex, read_hex}
use Rattle.hex_lines.specs.HexBegun.{is_hex_begun}

pub hex_not_first : is_hex_begun hex_start ≡ false
unfolding hex_start
hex_not_first = refl

abbrev HexBegun : HexReading → Type 0
HexBegun r = is_hex_begun r ≡ true

hex_digit_begins : (r : HexReading) (d : ℕ) → HexBegun (with_hex r d)
unfolding with_hex
hex_digit_begins r d =
    let more : not (eqb (r.count + 1) 0) ≡ true = ap not (ne_eqb (r.count + 1) 0 (λ e. omega arith)) in
    if_elim HexBegun (is_even r.count) (λ t. more) (λ t. more)

pub hex_begins : (r : HexReading) (b : ℕ) → is_hex_begun (read_hex r b) ≡ true
unfolding read_hex
hex_begins r b =
    if_elim HexBegun (is_hex b) (λ t. if_elim HexBegun (ltb r.count 64) (λ u. hex_digit_begins r (hex_value b)) (λ u. refl)) (λ t. refl)
