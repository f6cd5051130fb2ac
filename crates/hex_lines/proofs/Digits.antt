-- A byte more of a hexadecimal line, whose value is what std reads of it as a digit.
use Rattle.std.proofs.Common.{◌≡◌, ℕ, ◌<◌, ◌≤◌, ap, ◌∙◌, arith}
use Rattle.std.proofs.lemmas.Bool.Decides.{nat_tests}
use Rattle.std.specs.Char.{digit_value}
use borrow.Author.Tests.{lt-ltb, le-ltb}
use Rattle.lists.proofs.Tests.{if_elim}
use Rattle.hex_lines.specs.declared.HexReading.{HexReading}
use Rattle.hex_lines.specs.Hex.{hex_value, is_hex}
use Rattle.hex_lines.specs.HexSteps.{not_hex, with_hex, read_hex}

digit_is : (b : ℕ) → digit_value b < 16 → digit_value b ≡ hex_value b
unfolding hex_value
digit_is b h = grind (arith, nat_tests)

no_digit : (b : ℕ) → (digit_value b < 16 → ⊥) → 16 ≤ hex_value b
unfolding hex_value
no_digit b h = grind (arith, nat_tests)

module _ (r : HexReading) (b : ℕ) (n : HexReading) where
  pub hex_takes : (d : ℕ) → (digit_value b < 16) × (d ≡ digit_value b) → r.count < 64 → n ≡ with_hex r d → n ≡ read_hex r b
  unfolding read_hex
  hex_takes d (h, e) l p =
      let same : d ≡ hex_value b = e ∙ digit_is b h in
      simp (lt-ltb (hex_value b) 16 (omega arith), lt-ltb r.count 64 l) (p ∙ ap (with_hex r) same)

  pub hex_long : 64 ≤ r.count → n ≡ not_hex r → n ≡ read_hex r b
  unfolding read_hex
  hex_long l p = simp (le-ltb r.count 64 l) (if_elim (λ (x : HexReading). n ≡ x) (is_hex b) (λ t. p) (λ t. p))

  pub hex_none : (digit_value b < 16 → ⊥) → n ≡ not_hex r → n ≡ read_hex r b
  unfolding read_hex
  hex_none h p = simp (le-ltb (hex_value b) 16 (no_digit b h)) p
