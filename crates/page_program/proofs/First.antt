-- How long the page's first line is.
use Prim.Native.Nat.{ℕ, ◌≤◌, ◌<◌, ◌^◌}
use native.Mathlib.Omega.{arith}
use lib.ListN.{length, length-append}
use Rattle.console.proofs.Puts.{count_digits}
use Rattle.page_program.specs.Counting.{counts_text}

pub counts_few : (t r : ℕ) → t < 2 ^ 64 → r < 2 ^ 64 → length (counts_text t r) ≤ 64
unfolding counts_text
counts_few t r h l = simp length-append (omega (arith, count_digits t h, count_digits r l))
