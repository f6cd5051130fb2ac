-- Lines read at once: the digits of a number one by one, three such numbers as a line, and the turn of `list_lines` that takes it.
use Prim.Native.Nat.{ℕ, suc, ◌+◌, ◌-◌, ◌*◌, ◌^◌, ◌≤◌, ◌<◌}
use mathlib.Core.Bool.{Bool, true}
use mathlib.Core.Path.{◌≡◌, sym, ap, subst, ◌∙◌}
use mathlib.Core.List.{List, [], ◌∷◌}
use native.Mathlib.Nat.{pow-suc, pow-le-pow_right}
use native.Mathlib.Numerals.{add-one}
use native.Mathlib.Omega.{arith}
use lib.ListN.{length, get_or, take, drop}
use lib.Seq.{drop-cons}
use borrow.Author.Tests.{ne_eqb}
use Rattle.std.proofs.lemmas.Grind.{common_steps}
use Rattle.event_lines.specs.declared.Reading.{Reading}
use Rattle.event_lines.specs.Ends.{end_from}
use Rattle.event_lines.specs.Steps.{start, read_on, fed, line_end}
use Rattle.event_lines.proofs.Events.{on_digit, on_space, next_some}
use Rattle.event_lines.proofs.Ends.{end_found, end_more, end_after, end_inside}
use Rattle.console.specs.Outputs.{Put}
use Rattle.event_list.specs.Lines.{three_of}
use Rattle.event_list.proofs.Lines.{Going, turn_room, turn_more}
use Rattle.event_list.specs.Wholes.{under, Digits, Numbered, WholeLine}

-- ---- one byte of the line
module _ (bytes : List ℕ) (i : ℕ) (within : i < length bytes) where
  abbrev byte : ℕ
  byte = get_or bytes i 0

  one_fed : (r : Reading) (more : ℕ) → fed r (take (suc more) (drop i bytes)) ≡ fed (read_on r byte) (take more (drop (i + 1) bytes))
  one_fed r more = rw (add-one, drop-cons bytes i 0 within)

  -- the space behind the first number, and behind the second
  first_space : byte ≡ 32 → (d v more : ℕ) → 0 < d
      → fed (under 0 d v 0 0) (take (suc more) (drop i bytes)) ≡ fed (under 1 0 0 v 0) (take more (drop (i + 1) bytes))
  first_space e d v more h =
      one_fed (under 0 d v 0 0) more
      ∙ ap (λ (r : Reading). fed r (take more (drop (i + 1) bytes)))
      (on_space 0 d v 0 0 byte e ∙ next_some 0 d v 0 0 (λ z. omega arith))

  second_space : byte ≡ 32 → (d v f more : ℕ) → 0 < d
      → fed (under 1 d v f 0) (take (suc more) (drop i bytes)) ≡ fed (under 2 0 0 f v) (take more (drop (i + 1) bytes))
  second_space e d v f more h =
      one_fed (under 1 d v f 0) more
      ∙ ap (λ (r : Reading). fed r (take more (drop (i + 1) bytes)))
      (on_space 1 d v f 0 byte e ∙ next_some 1 d v f 0 (λ z. omega arith))

-- the newline behind the third
line_says : (d v f s : ℕ) → 0 < d → line_end (under 2 d v f s) ≡ 0 ∷ f ∷ s ∷ v ∷ []
unfolding line_end
line_says d v f s h = simp (ne_eqb d 0 (λ z. omega arith))

-- ---- the loop over the digits
-- fewer than nine digits: one more fits a 32-bit number
pub digits_small : (bytes : List ℕ) (from value i : ℕ) → Digits bytes from value i → i < from + 9 → value < 100000000
digits_small bytes from value i d few =
    let most : 10 ^ (i - from) ≤ 10 ^ 8 = pow-le-pow_right {n = 10} (omega arith) {i = i - from} {j = 8} (omega (arith, d.after)) in
    omega (arith, d.small)

pub digits_more : (bytes : List ℕ) (from value i : ℕ) → Digits bytes from value i → i < length bytes → i < from + 9
    → 48 ≤ get_or bytes i 0 → get_or bytes i 0 ≤ 57 → Digits bytes from (value * 10 + (get_or bytes i 0 - 48)) (i + 1)
digits_more bytes from value i d h few low high =
    let count : suc (i - from) ≡ i + 1 - from = omega (arith, d.after) in
    let grows : 10 ^ (i + 1 - from) ≡ 10 ^ (i - from) * 10 = ap (λ (x : ℕ). 10 ^ x) (sym count) ∙ pow-suc 10 (i - from) in
    record {
      after = omega (arith, d.after);
      within = omega arith;
      few = omega arith;
      small = omega (arith, d.small);
      ends = d.ends ∙ end_more bytes i h (λ e. omega arith);
      feeds = λ p f s more.
          let size : i + 1 - from + more ≡ i - from + suc more = omega (arith, d.after) in
          let next : i - from + 1 ≡ i + 1 - from = omega (arith, d.after) in
          ap (λ (n : ℕ). fed (under p 0 0 f s) (take n (drop from bytes))) size
          ∙ d.feeds p f s (suc more)
          ∙ one_fed bytes i h (under p (i - from) value f s) more
          ∙ ap (λ (r : Reading). fed r (take more (drop (i + 1) bytes)))
          (on_digit p (i - from) value f s (get_or bytes i 0) low high (omega (arith, d.after)) (digits_small bytes from value i d few)
          ∙ ap (λ (n : ℕ). under p n (value * 10 + (get_or bytes i 0 - 48)) f s) next);
    }

-- a digit more as the code reads it: in a part of the bytes, of nine at most
module _ (bytes : List ℕ) (from value i most : ℕ) (few : most ≤ 9) (d : Digits bytes from value (from + i))
    (h : i < length (take most (take (length bytes - from) (drop from bytes)))) where
  abbrev front : List ℕ
  front = take most (take (length bytes - from) (drop from bytes))

  here : get_or front i 0 ≡ get_or bytes (from + i) 0
  here = grind (arith, common_steps)

  within : (i < most) × (from + i < length bytes)
  within = (grind (arith, common_steps), grind (arith, common_steps))

  pub next_small : value < 100000000
  next_small = digits_small bytes from value (from + i) d (omega (arith, within.0))

  pub next_digit : 48 ≤ get_or front i 0 → get_or front i 0 ≤ 57
      → Digits bytes from (value * 10 + (get_or front i 0 - 48)) (from + (i + 1))
  next_digit low high =
      let more : Digits bytes from (value * 10 + (get_or bytes (from + i) 0 - 48)) (from + i + 1) =
      digits_more bytes from value (from + i) d within.1 (omega (arith, within.0)) (omega (arith, here)) (omega (arith, here)) in
      let place : from + i + 1 ≡ from + (i + 1) = omega arith in
      rw (here, ← place) more

-- ---- three numbers as a line
module _ (bytes : List ℕ) (from v₁ m₁ v₂ m₂ v₃ m₃ : ℕ)
    (a : Numbered bytes from 32 v₁ m₁) (b : Numbered bytes m₁ 32 v₂ m₂) (c : Numbered bytes m₂ 10 v₃ m₃) where
  -- each number begins behind the byte that closes the one before
  second : Digits bytes (a.stop + 1) v₂ b.stop
  second = subst (λ (n : ℕ). Digits bytes n v₂ b.stop) a.behind b.digits

  third : Digits bytes (b.stop + 1) v₃ c.stop
  third = subst (λ (n : ℕ). Digits bytes n v₃ c.stop) b.behind c.digits

  abbrev size₃ : ℕ
  size₃ = c.stop - (b.stop + 1)

  abbrev size₂ : ℕ
  size₂ = b.stop - (a.stop + 1)

  abbrev rest : ℕ
  rest = size₂ + suc (size₃ + 0)

  size : c.stop - from ≡ a.stop - from + suc rest
  size = omega (arith, a.some, a.behind, b.some, b.behind, c.some)

  reads : fed start (take (c.stop - from) (drop from bytes)) ≡ under 2 size₃ v₃ v₁ v₂
  reads =
      ap (λ (n : ℕ). fed start (take n (drop from bytes))) size
      ∙ a.digits.feeds 0 0 0 (suc rest)
      ∙ first_space bytes a.stop a.inside a.byte (a.stop - from) v₁ rest (omega (arith, a.some))
      ∙ second.feeds 1 v₁ 0 (suc (size₃ + 0))
      ∙ second_space bytes b.stop b.inside b.byte size₂ v₂ v₁ (size₃ + 0) (omega (arith, a.behind, b.some))
      ∙ third.feeds 2 v₁ v₂ 0

  no_newline : (i : ℕ) → get_or bytes i 0 ≡ 32 → get_or bytes i 0 ≡ 10 → ⊥
  no_newline i e z = omega arith

  ends : end_from bytes from ≡ end_from bytes c.stop
  ends =
      a.digits.ends ∙ end_more bytes a.stop a.inside (no_newline a.stop a.byte)
      ∙ second.ends ∙ end_more bytes b.stop b.inside (no_newline b.stop b.byte) ∙ third.ends

  pub whole : (fresh : Bool) → fresh ≡ true → WholeLine fresh bytes from v₁ v₂ v₃ m₃
  whole fresh begins =
      record {
        begins = begins;
        stop = c.stop;
        behind = c.behind;
        ended = end_found bytes c.stop c.inside c.byte ∙ sym ends;
        says = ap line_end reads ∙ line_says size₃ v₃ v₁ v₂ (omega (arith, b.behind, c.some));
      }

-- ---- the turn that takes it
module _ (bytes old : List ℕ) (r₀ : Reading) (out : List ℕ) (r : Reading) (at from : ℕ) (g : Going bytes old r₀ out r at from)
    (fresh : Bool) (begun : fresh ≡ true → r ≡ start) (kind a b next : ℕ) (w : WholeLine fresh bytes from kind a b next) where
  abbrev line : Reading
  line = fed start (take (w.stop - from) (drop from bytes))

  read : line ≡ fed r (take (w.stop - from) (drop from bytes))
  read = ap (λ (x : Reading). fed x (take (w.stop - from) (drop from bytes))) (sym (begun w.begins))

  pub whole_room : at + 3 ≤ length out
  whole_room = turn_room bytes old r₀ out r at from g w.stop w.ended line read

  pub whole_more : (n : ℕ) (new : List ℕ) → Put (kind ∷ a ∷ b ∷ []) 3 at out n new → Going bytes old r₀ new r n next
  whole_more n new put =
      subst (λ (k : ℕ). Going bytes old r₀ new r n k) (sym w.behind)
      (turn_more bytes old r₀ out r at from g w.stop w.ended line read n new
      (subst (λ (said : List ℕ). Put (three_of said) 3 at out n new) (sym w.says) put) r (begun w.begins))

  pub whole_less : length bytes - next < length bytes - from
  whole_less = omega (arith, w.behind, end_after bytes from w.stop w.ended, end_inside bytes from w.stop w.ended)
