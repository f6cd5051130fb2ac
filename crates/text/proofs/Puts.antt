-- Laws of texts put into an output: what each way out of `put_word` gives, and, for callers, texts put one after the other.
use Prim.Native.Nat.{ℕ, ◌+◌, ◌≤◌, ◌<◌}
use mathlib.Core.Path.{◌≡◌, refl, sym, ap, ◌∙◌}
use mathlib.Core.List.{List, ◌++◌}
use native.Mathlib.Decide.{dec_le}
use native.Mathlib.Omega.{arith}
use lib.ListN.{length, take, drop}
use lib.Seq.{paste, length-paste, take-length}
use borrow.Rule.Slice.PartMut.{put_mid}
use Rattle.std.proofs.lemmas.Slice.{put_mid-paste}
use borrow.Author.Tests.{le-leb, lt-leb}
use Rattle.text.specs.Text.{put_at, place_after}

-- ---- one text
module _ (text : List ℕ) (at : ℕ) (old : List ℕ) where
  -- it does not fit
  pub place_over : length old < at + length text → place_after text at old ≡ length old + 1
  unfolding place_after
  place_over h = simp (lt-leb (at + length text) (length old) h)

  pub put_over : length old < at + length text → put_at text at old ≡ old
  unfolding put_at
  put_over h = simp (lt-leb (at + length text) (length old) h)

  -- it fits
  pub place_fits : at + length text ≤ length old → place_after text at old ≡ at + length text
  unfolding place_after
  place_fits h = simp (le-leb (at + length text) (length old) h)

  pub put_fits : at + length text ≤ length old → put_at text at old ≡ take at old ++ text ++ drop (at + length text) old
  unfolding put_at
  put_fits h = simp (le-leb (at + length text) (length old) h)

  -- the same as the loop that copies leaves it
  put_paste : at + length text ≤ length old → put_at text at old ≡ paste old at text (length text)
  put_paste h = put_fits h ∙ ap (λ (l : List ℕ). take at old ++ l ++ drop (at + length text) old) (sym (take-length text))

  pub length_put : length (put_at text at old) ≡ length old
  length_put = go (dec_le (at + length text) (length old))
    where
      go : Dec (at + length text ≤ length old) → length (put_at text at old) ≡ length old
      go (yes h) = ap length (put_paste h) ∙ length-paste old at text (length text) h (omega arith)
      go (no h) = ap length (put_over (omega arith))

  -- a part that the text is copied to
  pub put_whole : (k : ℕ) → at + length text ≤ length old → k ≡ length text → put_mid at k old text ≡ put_at text at old
  put_whole k h e = put_mid-paste at k old text text (length text) refl (sym e) refl ∙ sym (put_paste h)

  -- a copy under way keeps the length
  pub copied_length : (i : ℕ) (out : List ℕ) → at + length text ≤ length old → out ≡ paste old at text i → i ≤ length text
      → length out ≡ length old
  copied_length i out fits e h = ap length e ∙ length-paste old at text i (omega arith) h

-- for code that tests the room and then puts
pub ruleset puts = (place_over, put_over, place_fits, put_whole)

-- the same text, written otherwise
pub same_text : (xs ys : List ℕ) (at : ℕ) (old : List ℕ) (r : ℕ) (out : List ℕ) → xs ≡ ys
    → (r ≡ place_after xs at old) × (out ≡ put_at xs at old) → (r ≡ place_after ys at old) × (out ≡ put_at ys at old)
same_text xs ys at old r out e p = (
  p.0 ∙ ap (λ (x : List ℕ). place_after x at old) e,
  p.1 ∙ ap (λ (x : List ℕ). put_at x at old) e,
)
