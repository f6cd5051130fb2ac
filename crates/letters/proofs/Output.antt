-- What each return of the private steps and of `write` says, in the order in which the code asks.
use Rattle.std.specs.Prelude.{Option, Result, Err, ok_or}
use Prim.Native.Nat.{ℕ, ◌+◌, ◌≤◌, ◌<◌}
use mathlib.Core.Bool.{Bool, true, false}
use mathlib.Core.Path.{◌≡◌, sym, ap, ◌∙◌}
use mathlib.Core.Logic.{◌⊎◌, inl, inr}
use mathlib.Core.List.{List, [], ◌∷◌}
use native.Mathlib.Decide.{dec_lt}
use native.Mathlib.Omega.{arith}
use lib.Dec.{T, ltb}
use lib.ListN.{length, get_or}
use borrow.Author.Tests.{lt-ltb, le-ltb}
use Rattle.lists.proofs.Tests.{and_no, is_T}
use Rattle.fields.specs.Fields.{write_field, put_size, put_field}
use Rattle.fields.specs.Output.{Writing, fitting, writing_numbers, writing_output}
use Rattle.fields.proofs.Steps.{put_short}
use Rattle.fields.proofs.Seen.{put_written, size_written, length_field}
use Rattle.net.specs.declared.Net.{Net}
use Rattle.net.specs.declared.Letter.{Letter}
use Rattle.net.specs.Network.{Ends, is_end}
use Rattle.net.specs.Letters.{body_holds, letter_holds}
use Rattle.net.specs.Values.{network_of, body_test}
use Rattle.net.specs.Sizes.{link_room}
use Rattle.sheet_rules.specs.Values.{net_holds}
use Rattle.sheet_rules.proofs.Good.{few_places, links_are, ends_are, bodies_are}
use Rattle.letters.specs.declared.WriteError.{WriteError}
use Rattle.letters.specs.declared.WriteError.TheVariants as wrote
use Rattle.letters.specs.Letters.{side_of, body_bytes, write_letter}
use Rattle.letters.specs.Values.{wrote_numbers, writing}
use Rattle.letters.specs.Steps.{end_in, side_in}

-- ---- a value written
pub put_said : (tag : ℕ) (value old : List ℕ) → length value ≤ 5
    → (wrote_numbers (ok_or (put_size value old) wrote.OutputShort) ≡ writing_numbers (fitting (write_field tag value) old))
    × (put_field tag value old ≡ writing_output (fitting (write_field tag value) old) old)
unfolding fitting
put_said tag value old small = go (dec_lt (length old) (length value + 3))
  where
    go : Dec (length old < length value + 3)
        → (wrote_numbers (ok_or (put_size value old) wrote.OutputShort) ≡ writing_numbers (fitting (write_field tag value) old))
        × (put_field tag value old ≡ writing_output (fitting (write_field tag value) old) old)
    go (yes h) =
        let t = lt-ltb (length old) (length (write_field tag value)) (omega (arith, length_field tag value)) in
        let p = put_short tag value old h in
        (simp (t, sym p.0), simp (t, sym p.1))
    go (no h) =
        let t = le-ltb (length old) (length (write_field tag value)) (omega (arith, length_field tag value)) in (
          ap (λ (r : Option ℕ). wrote_numbers (ok_or r wrote.OutputShort)) (size_written tag value old (omega arith) (omega arith))
              ∙ ap (λ (m : ℕ). 0 ∷ m ∷ []) (sym (length_field tag value)) ∙ simp t,
          put_written tag value old (omega arith) (omega arith) ∙ simp t,
        )

-- ---- the whole letter
module _ (net : Net) (x : Letter) (old : List ℕ) where
  abbrev Wants : Result ℕ WriteError → List ℕ → Type 0
  Wants a out = (wrote_numbers a ≡ writing_numbers (writing net x old)) × (out ≡ writing_output (writing net x old) old)

  pub write_bad : false ≡ net_holds net → Wants (Err wrote.BadNetwork) old
  unfolding writing
  write_bad e = (simp (sym e), simp (sym e))

  module _ (good : true ≡ net_holds net) where
    whole : T (net_holds net)
    whole = is_T (net_holds net) (sym good)

    denied_3 : letter_holds (network_of net) x ≡ false → Wants (Err wrote.OutOfRange) old
    unfolding writing
    denied_3 b = (simp (sym good, b), simp (sym good, b))

    pub write_link : net.links ≤ x.link → Wants (Err wrote.OutOfRange) old
    unfolding letter_holds
    write_link l =
        let n = length (network_of net).links in
        let b : ltb x.link n ≡ false = le-ltb x.link n (omega (arith, links_are net whole)) in denied_3 (simp b)

    -- where its link is there
    module _ (l : x.link < net.links) where
      pub write_place : x.link < link_room
      write_place = omega (arith, l, few_places net whole)

      end_is : (w : Bool) → w ≡ end_in (get_or net.low x.link 0) (get_or net.high x.link 0) x.sender
          → is_end (network_of net) x.link x.sender ≡ w
      end_is w g = ap (λ (z : Ends). end_in z.low z.high x.sender) (ends_are net whole x.link l) ∙ sym g

      body_is : (v : Bool) → v ≡ body_test net.links x.body → body_holds (network_of net) x.body ≡ v
      body_is v p = bodies_are net whole x.body ∙ sym p

      -- a sender that is no end of it, or a body that no letter has there
      pub write_refused : (false ≡ end_in (get_or net.low x.link 0) (get_or net.high x.link 0) x.sender)
          ⊎ (false ≡ body_test net.links x.body) → Wants (Err wrote.OutOfRange) old
      unfolding letter_holds
      write_refused (inl g) = denied_3 (simp (end_is false g, and_no))
      write_refused (inr p) = denied_3 (simp (body_is false p, and_no))

      pub write_good : true ≡ end_in (get_or net.low x.link 0) (get_or net.high x.link 0) x.sender → true ≡ body_test net.links x.body
          → (a : Result ℕ WriteError) (out : List ℕ) (side : ℕ) → side ≡ side_in (get_or net.low x.link 0) x.sender
          → wrote_numbers a ≡ writing_numbers (fitting (body_bytes x.link side x.body) old)
          → out ≡ writing_output (fitting (body_bytes x.link side x.body) old) old → Wants a out
      unfolding letter_holds writing write_letter
      write_good g p a out side t n o =
          let M = network_of net in
          let b : ltb x.link (length M.links) ≡ true = lt-ltb x.link (length M.links) (omega (arith, l, links_are net whole)) in
          let c : is_end M x.link x.sender ≡ true = end_is true g in
          let d : body_holds M x.body ≡ true = body_is true p in
          let s : side ≡ side_of M x.link x.sender = t
          ∙ sym (ap (λ (y : Ends). side_in y.low x.sender) (ends_are net whole x.link l)) in
          let m : writing net x old ≡ fitting (body_bytes x.link side x.body) old = simp (sym good, b, c, d)
          (ap (λ (k : ℕ). fitting (body_bytes x.link k x.body) old) (sym s)) in
          (n ∙ ap writing_numbers (sym m), o ∙ ap (λ (y : Writing). writing_output y old) (sym m))
