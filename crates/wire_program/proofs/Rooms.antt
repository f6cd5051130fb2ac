-- For callers that write a sheet or a letter into a room of their own, to put its bytes: a room that is long enough has them at its front.
use Prim.Native.Nat.{ℕ, ◌≤◌}
use mathlib.Core.Path.{◌≡◌, sym, ap, ◌∙◌}
use mathlib.Core.List.{List, [], ◌∷◌}
use native.Mathlib.Omega.{arith}
use lib.ListN.{length, get_or, take, drop}
use lib.Seq.{take_at}
use borrow.Author.Tests.{le-ltb}
use Rattle.fields.specs.Fields.{onto}
use Rattle.fields.specs.Output.{fitting, writing_numbers, writing_output}
use Rattle.fields.proofs.Seen.{length_onto}

-- the bytes stand at the front of the room
pub record Back (new old room : List ℕ) (n : ℕ) : Type 0 where
  pub size : n ≡ length new
  pub bytes : take n room ≡ new
  pub same : length room ≡ length old
  pub few : n ≤ length old

pub back : (new old room numbers : List ℕ) (n : ℕ) → length new ≤ length old → numbers ≡ writing_numbers (fitting new old)
    → room ≡ writing_output (fitting new old) old → n ≡ get_or numbers 1 0 → Back new old room n
unfolding fitting
back new old room numbers n h p q e =
    let fits = le-ltb (length old) (length new) h in
    let count : numbers ≡ 0 ∷ length new ∷ [] = p ∙ simp fits in
    let there : room ≡ onto new old = q ∙ simp fits in
    let is : n ≡ length new = e ∙ ap (λ (l : List ℕ). get_or l 1 0) count in
    record {
      size = is;
      bytes = ap (take n) there ∙ take_at new (drop (length new) old) n (sym is);
      same = ap length there ∙ length_onto new old h;
      few = omega arith;
    }
