-- A part's texts as the code puts them, part by part, and how long they are.
use Rattle.std.specs.Prelude.{if◌then◌else◌}
use Prim.Native.Nat.{ℕ, ◌≤◌, ◌<◌}
use mathlib.Core.Bool.{Bool, true, false}
use mathlib.Core.Path.{◌≡◌}
use mathlib.Core.List.{List, [], ◌∷◌, ◌++◌, append_assoc}
use native.Mathlib.Omega.{arith}
use lib.Dec.{eqb}
use lib.ListN.{length, get_or, length-append}
use borrow.Author.Tests.{eq-eqb, ne_eqb}
use Rattle.net.specs.declared.Net.{Net}
use Rattle.text.specs.Text.{digits}
use Rattle.console.proofs.Puts.{byte_digits}
use Rattle.page_part.specs.Words.{down_word, waiting_word, lowest_word}
use Rattle.page_part.specs.Words.{working_word, unreachable_word, perceived_word}
use Rattle.page_part.specs.Words.{link_working, unresponsive_word}
use Rattle.page_part.specs.Texts.{still_text, reach_text, lowest_text, seen_text, link_text}

-- the same word, by a test's answer
-- ---- a station that isn't live
abbrev pub condition_word : Bool → List ℕ
condition_word waiting = if waiting then waiting_word else down_word

condition_few : (w : Bool) → length (condition_word w) ≤ 9
condition_few true = omega arith
condition_few false = omega arith

pub still_few : (s : ℕ) (w : Bool) → s < 256 → length (still_text s w) ≤ 24
unfolding still_text
still_few s w h = simp length-append (omega (arith, byte_digits s h, condition_few w))

-- ---- a live one
pub reach_few : (s ones n : ℕ) → s < 256 → ones < 256 → n < 256 → length (reach_text s ones n) ≤ 40
unfolding reach_text
reach_few s ones n a b c = simp length-append (omega (arith, byte_digits s a, byte_digits ones b, byte_digits n c))

pub lowest_all : (l : ℕ) → l ≡ 255 → 10 ∷ [] ≡ lowest_text l
unfolding lowest_text
lowest_all l e = simp (eq-eqb l 255 e)

pub lowest_whole : (l : ℕ) → (l ≡ 255 → ⊥) → lowest_word ++ digits l ++ (10 ∷ []) ≡ lowest_text l
unfolding lowest_text
lowest_whole l h = simp (ne_eqb l 255 h, append_assoc)

lowest_few_by : (b : Bool) (l : ℕ) → l < 256 → length (if b then 10 ∷ [] else lowest_word ++ digits l ++ 10 ∷ []) ≤ 25
lowest_few_by true l h = omega arith
lowest_few_by false l h = simp length-append (omega (arith, byte_digits l h))

pub lowest_few : (l : ℕ) → l < 256 → length (lowest_text l) ≤ 25
unfolding lowest_text
lowest_few l h = lowest_few_by (eqb l 255) l h

-- ---- a station's line
shown_few : (b : Bool) → length (if b then working_word else unreachable_word) ≤ 13
shown_few true = omega arith
shown_few false = omega arith

pub seen_few : (t x : ℕ) → t < 256 → length (seen_text t x) ≤ 26
unfolding seen_text
seen_few t x h = simp length-append (omega (arith, byte_digits t h, shown_few (eqb x 1)))

-- ---- a link's line
link_shown_few : (a b : Bool) → length (if a then perceived_word else (if b then link_working else unresponsive_word)) ≤ 24
link_shown_few true b = omega arith
link_shown_few false true = omega arith
link_shown_few false false = omega arith

pub link_few : (k low high x : ℕ) → k < 256 → low < 256 → high < 256 → length (link_text k low high x) ≤ 44
unfolding link_text
link_few k low high x a b c =
    simp length-append (omega (arith, byte_digits k a, byte_digits low b, byte_digits high c, link_shown_few (eqb x 0) (eqb x 1)))

-- ---- the report's lines, by its bytes
abbrev pub station_by : List ℕ → ℕ → List ℕ
station_by seen t = seen_text t (get_or seen t 0)

abbrev pub link_by : Net → List ℕ → ℕ → List ℕ
link_by net seen k = link_text k (get_or net.low k 0) (get_or net.high k 0) (get_or seen k 0)
