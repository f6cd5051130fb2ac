-- The loop over the lines that end in a piece of the input: what holds between its turns, and what it leaves. For any reading, any value
-- that is held, and lines of at most so many bytes.
use Rattle.std.specs.Prelude.{Some, None}
use Prim.Native.Nat.{ℕ, suc, ◌+◌, ◌-◌, ◌*◌, ◌≤◌, ◌<◌}
use mathlib.Core.Bool.{true, false}
use mathlib.Core.Path.{◌≡◌, refl, sym, ap, ap₂, ◌∙◌}
use mathlib.Core.List.{List, [], ◌∷◌, ◌++◌, append_assoc, append-nil}
use native.Mathlib.Nat.{mul-le-mul_left, mul-add}
use native.Mathlib.Decide.{ℕ_discrete}
use native.Mathlib.Omega.{arith}
use lib.ListN.{length, take, drop, length-append, take-append-drop}
use lib.Seq.{length-take-le, take_at, drop_at, drop-drop}
use borrow.Author.Tests.{eq-eqb, ne_eqb}
use Rattle.text.proofs.Puts.{put_fits, length_put}
use Rattle.fields.specs.Fields.{onto}
use Rattle.console.specs.Outputs.{Counts, Put}
use Rattle.event_lines.specs.Split.{fed_by}
use Rattle.event_lines.specs.Ends.{line_size, line_ends, end_from}
use Rattle.console.specs.Feeding.{held_after, read_after, text_after}
use Rattle.event_lines.proofs.Ends.{open_is, line_whole, ends_is, line_is, end_after, end_inside, end_behind}

module _ {Y R A : Type 0} (fresh : R) (on : R → ℕ → R) (ends : R → A) (act : Y → A → Y) (say : Y → A → List ℕ) where
  abbrev held : Y → R → List ℕ → Y
  held = held_after fresh on ends act say

  abbrev read : Y → R → List ℕ → R
  read = read_after fresh on ends act say

  abbrev text : Y → R → List ℕ → List ℕ
  text = text_after fresh on ends act say

  -- ---- the line at the front of the bytes to come
  abbrev line_at : R → List ℕ → A
  line_at r later = ends (fed_by on r (take (line_size later) later))

  abbrev behind : List ℕ → List ℕ
  behind later = drop (suc (line_size later)) later

  -- with its newline: it is done, and the rest is to come
  abbrev Ended : Y → R → List ℕ → Type 0
  Ended y r later =
      (text y r later ≡ say y (line_at r later) ++ text (act y (line_at r later)) fresh (behind later))
      × (held y r later ≡ held (act y (line_at r later)) fresh (behind later))
      × (read y r later ≡ read (act y (line_at r later)) fresh (behind later))

  line_ended : (later : List ℕ) (y : Y) (r : R) → line_ends later ≡ true → Ended y r later
  unfolding held_after read_after text_after
  line_ended [] y r e = let z : ◌≡◌ {A = ℕ} 0 1 = cc in absurd (omega arith)
  line_ended (b ∷ later) y r e = go (ℕ_discrete b 10) (line_ended later y (on r b)) e
    where
      go : Dec (b ≡ 10) → (line_ends later ≡ true → Ended y (on r b) later) → line_ends (b ∷ later) ≡ true → Ended y r (b ∷ later)
      go (yes h) p = simp (eq-eqb b 10 h) (λ e. (refl, refl, refl))
      go (no h) p = simp (ne_eqb b 10 h) p

  -- without: nothing is done, and it goes on
  abbrev Open : Y → R → List ℕ → Type 0
  Open y r later = (text y r later ≡ []) × (held y r later ≡ y) × (read y r later ≡ fed_by on r later)

  line_open : (later : List ℕ) (y : Y) (r : R) → line_ends later ≡ false → Open y r later
  unfolding held_after read_after text_after
  line_open [] y r e = (refl, refl, refl)
  line_open (b ∷ later) y r e = go (ℕ_discrete b 10) (line_open later y (on r b)) e
    where
      go : Dec (b ≡ 10) → (line_ends later ≡ false → Open y (on r b) later) → line_ends (b ∷ later) ≡ false → Open y r (b ∷ later)
      go (yes h) p = simp (eq-eqb b 10 h) (λ e. let z : ◌≡◌ {A = ℕ} 0 1 = cc in absurd (omega arith))
      go (no h) p = simp (ne_eqb b 10 h) p

  -- ---- between two turns: what is printed so far stands at the front of the output, and the bytes from a place on are to come
  pub record Going (most : ℕ) (bytes old : List ℕ) (y₀ : Y) (r₀ : R) (out : List ℕ) (y : Y) (r : R) (at from : ℕ) : Type 0 where
    pub size : length out ≡ length old
    pub tail : drop at out ≡ drop at old
    pub text : text_after fresh on ends act say y₀ r₀ bytes ≡ take at out ++ text_after fresh on ends act say y r (drop from bytes)
    pub held : held_after fresh on ends act say y₀ r₀ bytes ≡ held_after fresh on ends act say y r (drop from bytes)
    pub read : read_after fresh on ends act say y₀ r₀ bytes ≡ read_after fresh on ends act say y r (drop from bytes)
    pub room : at ≤ most * from
    pub within : from ≤ length bytes
    pub enough : most * length bytes ≤ length old

  pub going_begins : (most : ℕ) (bytes old : List ℕ) (y₀ : Y) (r₀ : R) → most * length bytes ≤ length old
      → Going most bytes old y₀ r₀ old y₀ r₀ 0 0
  going_begins most bytes old y₀ r₀ h =
      record {
        size = refl;
        tail = refl;
        text = refl;
        held = refl;
        read = refl;
        room = omega arith;
        within = omega arith;
        enough = h;
      }

  -- ---- a turn
  module _ (most : ℕ) (bytes old : List ℕ) (y₀ : Y) (r₀ : R) (out : List ℕ) (y : Y) (r : R) (at from : ℕ)
      (g : Going most bytes old y₀ r₀ out y r at from) where
    abbrev later : List ℕ
    later = drop from bytes

    -- the line ends in these bytes, and is read as far as its end
    module _ (stop : ℕ) (is : Some stop ≡ end_from bytes from) (line : R) (reads : line ≡ fed_by on r (take (stop - from) later)) where
      said_is : ends line ≡ line_at r later
      said_is = ap ends (reads ∙ ap (fed_by on r) (line_is bytes from stop is))

      steps : most * from + most ≤ most * (stop + 1)
      steps =
          let more : most * (from + 1) ≤ most * (stop + 1) =
          mul-le-mul_left most (omega (arith, end_after bytes from stop is)) in
          let spread : most * (from + 1) ≡ most * from + most * 1 = mul-add most from 1 in
          omega arith

      pub going_room : at + most ≤ length out
      going_room =
          let inside : stop + 1 ≤ length bytes = omega (arith, end_inside bytes from stop is) in
          omega (arith, steps, mul-le-mul_left most inside, g.room, g.enough, g.size)

      module _ (z : Y) (does : z ≡ act y (ends line)) (words : List ℕ) (says : words ≡ say y (ends line)) (n : ℕ) (new : List ℕ)
          (w : Put words most at out n new) (start : R) (begins : start ≡ fresh) where
        fits : at + length words ≤ length out
        fits = omega (arith, going_room, w.few)

        front : length (take at out ++ words) ≡ n
        front = length-append (take at out) words ∙ omega (arith, length-take-le at out (omega (arith, fits)), w.place)

        new_is : new ≡ (take at out ++ words) ++ drop (at + length words) out
        new_is = w.output ∙ put_fits words at out fits

        did : Ended y r later
        did = line_ended later y r (ends_is bytes from stop is)

        -- what is to come, in the words of the turn
        abbrev to_come : List ℕ
        to_come = drop (stop + 1) bytes

        here : z ≡ act y (line_at r later)
        here = does ∙ ap (act y) said_is

        rest : behind later ≡ to_come
        rest = sym (end_behind bytes from stop is)

        later_text : text y r later ≡ words ++ text z start to_come
        later_text = did.0 ∙ cc (here, rest, says, said_is, begins)

        later_held : held y r later ≡ held z start to_come
        later_held = did.1 ∙ cc (here, rest, begins)

        later_read : read y r later ≡ read z start to_come
        later_read = did.2 ∙ cc (here, rest, begins)

        pub going_more : Going most bytes old y₀ r₀ new z start n (stop + 1)
        going_more =
            record {
              size = ap length w.output ∙ length_put words at out ∙ g.size;
              tail =
                  ap (drop n) new_is ∙ drop_at (take at out ++ words) (drop (at + length words) out) n front
                  ∙ sym (drop-drop (length words) at out)
                  ∙ ap (drop (length words)) g.tail ∙ drop-drop (length words) at old ∙ ap (λ (k : ℕ). drop k old) (sym w.place);
              text =
                  g.text ∙ ap (λ (l : List ℕ). take at out ++ l) later_text ∙ sym (append_assoc (take at out) words (text z start to_come))
                  ∙ ap (λ (l : List ℕ). l ++ text z start to_come)
                  (sym (ap (take n) new_is ∙ take_at (take at out ++ words) (drop (at + length words) out) n front));
              held = g.held ∙ later_held;
              read = g.read ∙ later_read;
              room = omega (arith, steps, g.room, w.place, w.few);
              within = omega (arith, end_inside bytes from stop is);
              enough = g.enough;
            }

        pub going_less : length bytes - (stop + 1) < length bytes - from
        going_less = omega (arith, end_after bytes from stop is, end_inside bytes from stop is)

    -- ---- the line goes on behind these bytes: all of the piece was printed
    pub record Done (line : R) : Type 0 where
      pub held : y ≡ held_after fresh on ends act say y₀ r₀ bytes
      pub read : line ≡ read_after fresh on ends act say y₀ r₀ bytes
      pub written : at ≡ length (text_after fresh on ends act say y₀ r₀ bytes)
      pub output : out ≡ onto (text_after fresh on ends act say y₀ r₀ bytes) old
      pub counts : Counts at out

    pub going_done : None ≡ end_from bytes from → (line : R) → line ≡ fed_by on r (take (length bytes - from) later) → Done line
    going_done is line reads =
        let left : Open y r later = line_open later y r (open_is bytes from is) in
        let within : at ≤ length out = omega (arith, g.room, mul-le-mul_left most g.within, g.enough, g.size) in
        let said : text y₀ r₀ bytes ≡ take at out =
        g.text ∙ ap (λ (l : List ℕ). take at out ++ l) left.0 ∙ append-nil (take at out) in
        let count : at ≡ length (text y₀ r₀ bytes) = sym (ap length said ∙ length-take-le at out within) in
        record {
          held = sym (g.held ∙ left.1);
          read = reads ∙ ap (fed_by on r) (line_whole bytes from) ∙ sym (g.read ∙ left.2);
          written = count;
          output =
              sym (take-append-drop at out) ∙ ap₂ (λ (a b : List ℕ). a ++ b) (sym said) (g.tail ∙ ap (λ (n : ℕ). drop n old) count);
          counts = (within, sym (length-take-le at out within));
        }
