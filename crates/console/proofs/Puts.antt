-- A text that was put in parts, and what a caller has of it.
use Prim.Native.Nat.{ℕ, ◌+◌, ◌≤◌, ◌<◌, ◌^◌}
use mathlib.Core.Path.{◌≡◌, sym, ap, ◌∙◌, subst}
use mathlib.Core.List.{List, [], ◌∷◌, ◌++◌, append-nil}
use native.Mathlib.Omega.{arith}
use lib.ListN.{length, drop, length-append}
use lib.Seq.{length-take-le}
use borrow.Author.Tests.{le-ltb}
use Rattle.lists.specs.Lists.{below}
use Rattle.lists.specs.Places.{collect}
use Rattle.lists.proofs.Places.{collect_append}
use Rattle.lists.proofs.Numbers.{below_snoc}
use Rattle.text.specs.Text.{digits, put_at}
use Rattle.text.proofs.Digits.{digits_at_most}
use Rattle.text.proofs.Puts.{place_fits, put_fits, length_put}
use Rattle.fields.specs.Fields.{onto}
use Rattle.fields.specs.Output.{with_room, writing_output}
use Rattle.text.proofs.Chains.{Chain}
use Rattle.console.specs.Sheets.{refusal_text}
use Rattle.console.specs.Outputs.{Counts, wrote_by, Put}
use Rattle.std.specs.Prelude.{Ok}
use Rattle.text.specs.Line.{Adds}
use Rattle.text.specs.declared.Line.{Line}
use Rattle.text.proofs.Lines.{adds_front}

-- a chain that has room for its text
pub put_done : (text : List ℕ) (most at : ℕ) (old : List ℕ) (r : ℕ) (new : List ℕ) → Chain text at old r new → length text ≤ most
    → at + most ≤ length old → Put text most at old r new
put_done text most at old r new c few h =
    let here : r ≡ at + length text = c.place ∙ place_fits text at old (omega arith) in
    record { place = here; output = c.output (omega arith); few = few }

-- the same for a text written otherwise
pub put_same : (text other : List ℕ) (most at : ℕ) (old : List ℕ) (r : ℕ) (new : List ℕ) → text ≡ other → Put text most at old r new
    → Put other most at old r new
put_same text other most at old r new e p = subst (λ (x : List ℕ). Put x most at old r new) e p

pub put_size_lem : {text : List ℕ} {most at : ℕ} {old : List ℕ} {r : ℕ} {new : List ℕ} → Put text most at old r new
    → length new ≡ length old
put_size_lem {text} {most} {at} {old} p = ap length p.output ∙ length_put text at old

-- ---- how long numbers are
pub byte_digits : (n : ℕ) → n < 256 → length (digits n) ≤ 3
byte_digits n h = digits_at_most 2 n (omega arith)

pub counter_digits : (n : ℕ) → n < 65536 → length (digits n) ≤ 5
counter_digits n h = digits_at_most 4 n (omega arith)

pub count_digits : (n : ℕ) → n < 2 ^ 64 → length (digits n) ≤ 20
count_digits n h = digits_at_most 19 n (omega arith)

-- ---- a whole answer: the text at the front, or 10
pub put_onto : (text old : List ℕ) → length text ≤ length old → put_at text 0 old ≡ onto text old
put_onto text old h =
    let behind : 0 + length text ≡ length text = omega arith in
    put_fits text 0 old (omega arith) ∙ ap (λ (n : ℕ). text ++ drop n old) behind

-- a line that was put from the output's front
module _ (most : ℕ) {text : List ℕ} {a b : Line} (p : Adds text a b) (z : a.at ≡ 0) (few : length text ≤ most)
    (h : most ≤ length a.out.now) where
  ends : b.at ≡ length text
  ends = omega (arith, p.place (omega arith))

  pub line_answer : Ok b.at ≡ wrote_by (with_room most text a.out.now)
  line_answer = simp (le-ltb (length a.out.now) most h) (ap Ok ends)

  module _ {last : List ℕ} (e : last ≡ b.out.now) where
    pub line_output : last ≡ writing_output (with_room most text a.out.now) a.out.now
    line_output =
        simp (le-ltb (length a.out.now) most h)
        ((adds_front p z (omega arith) e).1 ∙ put_onto text a.out.now (omega arith))

    pub line_counts : Counts b.at last
    line_counts =
        let within : b.at ≤ length last = omega (arith, ends, ap length e, p.size) in (within, sym (length-take-le b.at last within))

-- ---- a refused sheet's number
pub refusal_few : (n : ℕ) → n < 256 → length (refusal_text n) ≤ 4
unfolding refusal_text
refusal_few n h = simp length-append (omega (arith, byte_digits n h))

-- a text for each number below i, and one more
pub texts_more : (f : ℕ → List ℕ) (i : ℕ) → collect f (below i) ++ f i ≡ collect f (below (i + 1))
texts_more f i =
    sym (ap (collect f) (below_snoc i) ∙ collect_append f (below i) (i ∷ [])
    ∙ ap (λ (l : List ℕ). collect f (below i) ++ l) (append-nil (f i)))
