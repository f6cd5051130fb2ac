-- A letter written back into a room that is long enough for every one of them.
use Rattle.std.specs.Prelude.{if◌then◌else◌, Result, Ok, Err}
use Rattle.std.specs.Result.{result_unwrap_or}
use Rattle.letters.specs.declared.WriteError.{WriteError}
use Prim.Native.Nat.{ℕ, ◌≤◌, ◌<◌}
use mathlib.Core.Bool.{Bool, true, false, not}
use mathlib.Core.Path.{◌≡◌, refl, ◌∙◌}
use mathlib.Core.List.{List}
use native.Mathlib.Omega.{arith}
use lib.Dec.{T}
use lib.ListN.{length, get_or, length-append}
use Rattle.lists.proofs.Tests.{T_is, is_T}
use Rattle.fields.specs.Output.{writing_numbers, writing_output}
use Rattle.fields.proofs.Seen.{length_field}
use Rattle.net.specs.declared.Body.{Body}
use Rattle.net.specs.declared.Body.TheVariants.{Request, Reply, Notice}
use Rattle.net.specs.declared.Letter.{Letter}
use Rattle.net.specs.declared.Net.{Net}
use Rattle.net.specs.Network.{Network}
use Rattle.net.specs.Values.{network_of}
use Rattle.sheet_rules.specs.Values.{net_holds}
use Rattle.net.specs.Letters.{letter_holds}
use Rattle.letters.specs.Letters.{letter, read_letter, body_bytes, side_of, write_letter}
use Rattle.letters.specs.Letters as L
use Rattle.letters.proofs.Laws as LetterLaws
use Rattle.letters.specs.Values.{reading}
use Rattle.letters.specs.Values as LetterValues
use Rattle.text.proofs.Parts.{text_length, field_length}
use Rattle.wire_program.specs.LetterLineLine.{kind_word, body_text, letter_text}
use Rattle.wire_program.proofs.Rooms.{Back, back}

letter_length : (net : Network) (x : Letter) → length (write_letter net x) ≤ 8
unfolding write_letter
letter_length net x = go x.body
  where
    go : (b : Body) → length (body_bytes x.link (side_of net x.link x.sender) b) ≤ 8
    go Request = simp length_field (omega arith)
    go (Reply c) = simp length_field (omega arith)
    go (Notice j c) = simp length_field (omega arith)

pub letter_back : (net : Net) (x : Letter) (old room numbers : List ℕ) (n : ℕ) → T (net_holds net) → T (letter_holds (network_of net) x)
    → 8 ≡ length old → numbers ≡ writing_numbers (LetterValues.writing net x old)
    → room ≡ writing_output (LetterValues.writing net x old) old → n ≡ get_or numbers 1 0
    → Back (write_letter (network_of net) x) old room n
unfolding LetterValues.writing
letter_back net x old room numbers n t u s p q e =
    let good = T_is (net_holds net) t in
    let holds = T_is (letter_holds (network_of net) x) u in
    back (write_letter (network_of net) x) old room numbers n (omega (arith, letter_length (network_of net) x)) (p ∙ simp (good, holds))
    (q ∙ simp (good, holds)) e

-- a letter was read, so the network was good and the letter may travel
pub was_read : (net : Net) (bytes : List ℕ) (x : Letter) → reading net bytes ≡ letter x
    → T (net_holds net) × T (letter_holds (network_of net) x)
unfolding reading
was_read net bytes x = go (net_holds net) refl
  where
    go : (b : Bool) → net_holds net ≡ b → (if not b then L.refused 11 else read_letter (network_of net) bytes) ≡ letter x
        → T (net_holds net) × T (letter_holds (network_of net) x)
    go false p q = let z : ◌≡◌ {A = ℕ} 0 1 = cc in absurd (omega arith)
    go true p q = (is_T (net_holds net) p, LetterLaws.read_holds (network_of net) bytes x q)

pub wrote_size : (r : Result ℕ WriteError) → result_unwrap_or r 0 ≡ get_or (LetterValues.wrote_numbers r) 1 0
wrote_size (Ok n) = refl
wrote_size (Err e) = refl

kind_few : (b : Body) → length (kind_word b) ≤ 10
kind_few Request = omega arith
kind_few (Reply c) = omega arith
kind_few (Notice j c) = omega arith

pub letter_few : (net : Network) (x : Letter) → x.link < 65536 → x.sender < 65536 → length (body_text x.body) ≤ 12
    → length (letter_text net x) ≤ 64
unfolding letter_text
letter_few net x h l few =
    simp length-append (omega (
      arith,
      kind_few x.body,
      field_length x.link h,
      field_length x.sender l,
      few,
      text_length (write_letter net x),
      letter_length net x,
    ))
