-- What each way out of `put_piece` gives.
use Prim.Native.Nat.{ℕ, ◌+◌, ◌≤◌, ◌<◌}
use mathlib.Core.Bool.{Bool, true, false}
use mathlib.Core.Path.{◌≡◌, sym, ap, ◌∙◌}
use mathlib.Core.List.{List, [], ◌∷◌, ◌++◌}
use native.Mathlib.Omega.{arith}
use lib.ListN.{length, take, drop, set, length-set, take-append-drop}
use lib.Seq.{length-take-le, take_all, take-length, take-nil, set_split}
use borrow.Author.Tests.{lt-ltb, le-ltb}
use Rattle.text.specs.Text.{put_at}
use Rattle.text.proofs.Puts.{put_fits}
use Rattle.console.specs.Outputs.{Counts}
use Rattle.console.specs.Feeding.{piece_of}

-- what it promises
abbrev Pieced : ℕ → Bool → List ℕ → ℕ → List ℕ → Type 0
Pieced n begun old r new = (r ≡ length (piece_of n begun old)) × ((new ≡ put_at (piece_of n begun old) 0 old) × Counts r new)

module _ (n : ℕ) (begun : Bool) (old : List ℕ) where
  -- a piece that stands at the front already
  pieced : (k : ℕ) → k ≤ length old → piece_of n begun old ≡ take k old → Pieced n begun old k old
  pieced k h e =
      let size : length (take k old) ≡ k = length-take-le k old h in
      let behind : 0 + length (take k old) ≡ k = omega arith in
      let there : put_at (take k old) 0 old ≡ old =
      put_fits (take k old) 0 old (omega arith) ∙ ap (λ (m : ℕ). take k old ++ drop m old) behind ∙ take-append-drop k old in
      (sym (ap length e ∙ size), (sym (ap (λ (p : List ℕ). put_at p 0 old) e ∙ there), (h, sym size)))

  pub piece_whole : length old < n → Pieced n begun old (length old) old
  unfolding piece_of
  piece_whole h =
      pieced (length old) (omega arith) (simp (lt-ltb 0 n (omega arith)) (take_all n old (omega arith) ∙ sym (take-length old)))

  pub piece_read : n ≤ length old → 0 < n → Pieced n begun old n old
  unfolding piece_of
  piece_read h p = pieced n h (simp (lt-ltb 0 n p))

  pub piece_no_room : n ≤ 0 → length old ≡ 0 → Pieced n begun old 0 old
  unfolding piece_of
  piece_no_room h e = pieced 0 (omega arith) (simp (le-ltb 0 n h, e))

  pub piece_none : n ≤ 0 → begun ≡ false → Pieced n begun old 0 old
  unfolding piece_of
  piece_none h e = pieced 0 (omega arith) (simp (le-ltb 0 n h, e, take-nil))

  pub piece_newline : n ≤ 0 → begun ≡ true → 0 < length old → Pieced n begun old 1 (set old 0 10)
  unfolding piece_of
  piece_newline h e long =
      let is : piece_of n begun old ≡ 10 ∷ [] = simp (le-ltb 0 n h, e) (take_all (length old) (10 ∷ []) (omega arith)) in
      let size : 1 ≤ length (set old 0 10) = simp length-set (omega arith) in
      let there : set old 0 10 ≡ put_at (10 ∷ []) 0 old = set_split old 0 10 long ∙ sym (put_fits (10 ∷ []) 0 old (omega arith)) in
      (sym (ap length is), (there ∙ sym (ap (λ (p : List ℕ). put_at p 0 old) is), (size, sym (length-take-le 1 (set old 0 10) size))))
