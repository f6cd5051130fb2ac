-- Where the report and the reach are given, the report's bytes of the stations are the bits of the reach's word.
use Prim.Native.Nat.{ℕ, ◌<◌}
use mathlib.Core.Bool.{Bool, true, false}
use mathlib.Core.Path.{◌≡◌, refl, sym, ◌∙◌}
use mathlib.Core.Logic.{◌↔◌}
use mathlib.Core.List.{List}
use native.Mathlib.Omega.{arith}
use lib.ListN.{get_or}
use Rattle.lists.specs.Words.{bit_at, in_word}
use Rattle.lists.proofs.Words.{in_is_one, out_is_zero}
use Rattle.state.specs.declared.State.{State}
use Rattle.report.specs.Answers.{asked_of}
use Rattle.report.proofs.WordShown.{PathTo, given_when, word_shown}
use Rattle.report.specs.ReportsAnswers.{answer_of, output_of}
use Rattle.report.proofs.ReportsRefusals.{accepted_when}
use Rattle.report.proofs.Shown.{Shown, shown}

module _ (s : State) (a : ℕ) where
  -- the report's bytes of the stations are the bits of the word
  pub same_bits : (old : List ℕ) → answer_of s a old ≡ 0 → (t : ℕ) → t < s.net.stations
      → get_or (output_of s a old) t 0 ≡ bit_at (asked_of s a).reached.word t
  same_bits old q t h = go (in_word word t) refl
    where
      word : ℕ
      word = (asked_of s a).reached.word

      bits : (bit_at word t ≡ 1) ↔ PathTo s a t
      bits = (word_shown s a ((given_when s a).1 ((accepted_when s a old).0 q).0)).bits t

      bytes : Shown s a old (output_of s a old)
      bytes = shown s a old q

      go : (b : Bool) → in_word word t ≡ b → get_or (output_of s a old) t 0 ≡ bit_at word t
      go true e = let o = in_is_one word t e in (bytes.working t h).1 (bits.0 o) ∙ sym o
      go false e = let z = out_is_zero word t e in (bytes.unreachable t h).1 (λ r. omega (arith, bits.1 r, z)) ∙ sym z
