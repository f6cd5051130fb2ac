-- A letter is refused with a number when, and only when, the list of numbers says so: 11 first, then the field in the order
-- 1, 2, 3, then bytes after it; to write 11, 3, 10. And each answer of the code is the only one that is allowed.
use Rattle.std.specs.Prelude.{if◌then◌else◌}
use Prim.Native.Nat.{ℕ, ◌<◌}
use mathlib.Core.Bool.{Bool, true, false, not}
use mathlib.Core.Path.{◌≡◌, refl, sym, ap, ◌∙◌, subst}
use mathlib.Core.List.{List}
use native.Mathlib.Omega.{arith}
use lib.Dec.{ltb, eqb}
use lib.ListN.{length, get_or}
use borrow.Author.Tests.{lt-ltb, ltb-true}
use Rattle.fields.specs.Fields.{Field, short, field, wide, first_field, is_field, is_empty}
use Rattle.fields.specs.Output.{denied, writes, fitting}
use Rattle.net.specs.declared.Net.{Net}
use Rattle.net.specs.declared.Body.{Body}
use Rattle.net.specs.declared.Body.TheVariants.{Request, Reply, Notice}
use Rattle.net.specs.declared.Letter.{Letter}
use Rattle.net.specs.Network.{Network}
use Rattle.net.specs.Values.{network_of}
use Rattle.sheet_rules.specs.Values.{net_holds}
use Rattle.net.specs.Letters.{letter_holds}
use Rattle.letters.specs.declared.LetterError.{LetterError}
use Rattle.letters.specs.declared.LetterError.TheVariants as error
use Rattle.letters.specs.declared.WriteError.{WriteError}
use Rattle.letters.specs.declared.WriteError.TheVariants as wrote
use Rattle.std.specs.Prelude.{Result, Ok, Err}
use Rattle.letters.specs.Letters.{Letters, refused, letter, Form, unknown, says, form_of, sender_of, values_hold, judged}
use Rattle.letters.specs.Letters.{letter_from, read_letter, write_letter, request_tag, reply_tag, notice_tag}
use Rattle.letters.specs.Values.{reading, letters_of, writing, wrote_numbers}

-- ---- reading: the list of numbers
-- the field, and its fault
pub data Fault (net : Network) : Field → ℕ → Type 0 where
  -- the bytes end inside it, or there are none
  cut_off : Fault net short 1
  -- another tag, or another length than the tag's
  unfit : {t : ℕ} {v rest : List ℕ} → is_field request_tag 2 t v ≡ false → is_field reply_tag 4 t v ≡ false → is_field notice_tag 5 t v ≡ false
      → Fault net (field t v rest) 2
  -- no such link, side or subject, or counter 0
  no_value : {t : ℕ} {v rest : List ℕ} (b : Body) → form_of t v ≡ says b → values_hold net (get_or v 0 0) (get_or v 1 0) b ≡ false
      → Fault net (field t v rest) 3
  -- a good field, and bytes after it
  trailing : {t : ℕ} {v rest : List ℕ} (b : Body) → form_of t v ≡ says b → values_hold net (get_or v 0 0) (get_or v 1 0) b ≡ true
      → is_empty rest ≡ false → Fault net (field t v rest) 2

pub data Refused (net : Net) (bytes : List ℕ) : ℕ → Type 0 where
  bad_network : net_holds net ≡ false → Refused net bytes 11
  at_field : {k : ℕ} → net_holds net ≡ true → Fault (network_of net) (first_field bytes) k → Refused net bytes k

-- ---- the field
unknown_only : (t : ℕ) (v rest : List ℕ) (net : Network) → form_of t v ≡ unknown → Fault net (field t v rest) 2
unfolding form_of
unknown_only t v rest net e =
    go Request (Reply (wide (get_or v 2 0) (get_or v 3 0))) (Notice (get_or v 2 0) (wide (get_or v 3 0) (get_or v 4 0))) (is_field request_tag 2 t v)
    (is_field reply_tag 4 t v) (is_field notice_tag 5 t v) refl refl refl e
  where
    go : (x y z : Body) (a b c : Bool) → is_field request_tag 2 t v ≡ a → is_field reply_tag 4 t v ≡ b → is_field notice_tag 5 t v ≡ c
        → (if a then says x else (if b then says y else (if c then says z else unknown))) ≡ unknown → Fault net (field t v rest) 2
    go x y z true b c p q r e = let n : ◌≡◌ {A = ℕ} 0 1 = cc in absurd (omega arith)
    go x y z false true c p q r e = let n : ◌≡◌ {A = ℕ} 0 1 = cc in absurd (omega arith)
    go x y z false false true p q r e = let n : ◌≡◌ {A = ℕ} 0 1 = cc in absurd (omega arith)
    go x y z false false false p q r e = unfit p q r

unknown_when : (t : ℕ) (v : List ℕ) → is_field request_tag 2 t v ≡ false → is_field reply_tag 4 t v ≡ false → is_field notice_tag 5 t v ≡ false
    → form_of t v ≡ unknown
unfolding form_of
unknown_when t v p q r = rw (p, q, r)

module _ (net : Network) where
  field_only : (f : Field) (k : ℕ) → letter_from net f ≡ refused k → Fault net f k
  unfolding judged
  field_only short k e = let n : 1 ≡ k = cc in subst (Fault net short) n cut_off
  field_only (field t v rest) k e = formed (form_of t v) refl e
    where
      formed : (f : Form) → form_of t v ≡ f → judged net (get_or v 0 0) (get_or v 1 0) f rest ≡ refused k → Fault net (field t v rest) k
      formed unknown g q = let n : 2 ≡ k = cc in subst (Fault net (field t v rest)) n (unknown_only t v rest net g)
      formed (says b) g q = tested (values_hold net (get_or v 0 0) (get_or v 1 0) b) (is_empty rest) refl refl q
        where
          tested : (x y : Bool) → values_hold net (get_or v 0 0) (get_or v 1 0) b ≡ x → is_empty rest ≡ y
              → (if not x then refused 3 else (if not y then refused 2 else letter
              (record { link = get_or v 0 0; sender = sender_of net (get_or v 0 0) (get_or v 1 0); body = b }))) ≡ refused k
              → Fault net (field t v rest) k
          tested false y h m q = let n : 3 ≡ k = cc in subst (Fault net (field t v rest)) n (no_value b g h)
          tested true false h m q = let n : 2 ≡ k = cc in subst (Fault net (field t v rest)) n (trailing b g h m)
          tested true true h m q = let n : ◌≡◌ {A = ℕ} 0 1 = cc in absurd (omega arith)

  field_when : (f : Field) (k : ℕ) → Fault net f k → letter_from net f ≡ refused k
  unfolding judged
  field_when f k cut_off = refl
  field_when f k (unfit {t} {v} {rest} p q r) = ap (λ (x : Form). judged net (get_or v 0 0) (get_or v 1 0) x rest) (unknown_when t v p q r)
  field_when f k (no_value {t} {v} {rest} b g h) = ap (λ (x : Form). judged net (get_or v 0 0) (get_or v 1 0) x rest) g ∙ rw h
  field_when f k (trailing {t} {v} {rest} b g h m) = ap (λ (x : Form). judged net (get_or v 0 0) (get_or v 1 0) x rest) g ∙ rw (h, m)

-- ---- reading
pub refused_only : (net : Net) (bytes : List ℕ) (k : ℕ) → reading net bytes ≡ refused k → Refused net bytes k
unfolding reading read_letter
refused_only net bytes k e = go (net_holds net) refl e
  where
    go : (b : Bool) → net_holds net ≡ b → (if not b then refused 11 else letter_from (network_of net) (first_field bytes)) ≡ refused k
        → Refused net bytes k
    go false p q = let n : 11 ≡ k = cc in subst (Refused net bytes) n (bad_network p)
    go true p q = at_field p (field_only (network_of net) (first_field bytes) k q)

pub refused_when : (net : Net) (bytes : List ℕ) (k : ℕ) → Refused net bytes k → reading net bytes ≡ refused k
unfolding reading read_letter
refused_when net bytes k (bad_network p) = rw p
refused_when net bytes k (at_field p f) = rw p (field_when (network_of net) (first_field bytes) k f)

-- ---- writing
pub data Denied (net : Net) (x : Letter) (old : List ℕ) : ℕ → Type 0 where
  bad_network : net_holds net ≡ false → Denied net x old 11
  -- no such link or subject, a sender that is no end of the link, or counter 0
  no_letter_lem : net_holds net ≡ true → letter_holds (network_of net) x ≡ false → Denied net x old 3
  too_short : net_holds net ≡ true → letter_holds (network_of net) x ≡ true → length old < length (write_letter (network_of net) x)
      → Denied net x old 10

pub denied_only : (net : Net) (x : Letter) (old : List ℕ) (k : ℕ) → writing net x old ≡ denied k → Denied net x old k
unfolding writing fitting
denied_only net x old k e = go (net_holds net) (letter_holds (network_of net) x) (ltb (length old) (length new)) refl refl refl e
  where
    new : List ℕ
    new = write_letter (network_of net) x

    go : (a b c : Bool) → net_holds net ≡ a → letter_holds (network_of net) x ≡ b → ltb (length old) (length new) ≡ c
        → (if not a then denied 11 else (if not b then denied 3 else (if c then denied 10 else writes new))) ≡ denied k → Denied net x old k
    go false b c p q r e = let n : 11 ≡ k = cc in subst (Denied net x old) n (bad_network p)
    go true false c p q r e = let n : 3 ≡ k = cc in subst (Denied net x old) n (no_letter_lem p q)
    go true true true p q r e = let n : 10 ≡ k = cc in subst (Denied net x old) n (too_short p q (ltb-true (length old) (length new) r))
    go true true false p q r e = let n : ◌≡◌ {A = ℕ} 0 1 = cc in absurd (omega arith)

pub denied_when : (net : Net) (x : Letter) (old : List ℕ) (k : ℕ) → Denied net x old k → writing net x old ≡ denied k
unfolding writing fitting
denied_when net x old k (bad_network p) = rw p
denied_when net x old k (no_letter_lem p q) = rw (p, q)
denied_when net x old k (too_short p q r) = rw (p, q, lt-ltb (length old) (length (write_letter (network_of net) x)) r)

-- ---- two answers that are allowed for one input are equal
pub one_answer : (a b : Result Letter LetterError) → letters_of a ≡ letters_of b → a ≡ b
one_answer a b e = sym (is a) ∙ ap back e ∙ is b
  where
    back : Letters → Result Letter LetterError
    back (letter x) = Ok x
    back (refused k) =
        if eqb k 1 then Err error.Short else (if eqb k 2 then Err error.Malformed
        else (if eqb k 3 then Err error.OutOfRange else Err error.BadNetwork))

    is : (x : Result Letter LetterError) → back (letters_of x) ≡ x
    is (Ok x) = refl
    is (Err error.Short) = refl
    is (Err error.Malformed) = refl
    is (Err error.OutOfRange) = refl
    is (Err error.BadNetwork) = refl

pub one_wrote : (a b : Result ℕ WriteError) → wrote_numbers a ≡ wrote_numbers b → a ≡ b
one_wrote a b e = sym (is a) ∙ ap back e ∙ is b
  where
    back : List ℕ → Result ℕ WriteError
    back l =
        if eqb (get_or l 0 0) 0 then Ok (get_or l 1 0)
        else (if eqb (get_or l 0 0) 3 then Err wrote.OutOfRange
        else (if eqb (get_or l 0 0) 10 then Err wrote.OutputShort else Err wrote.BadNetwork))

    is : (x : Result ℕ WriteError) → back (wrote_numbers x) ≡ x
    is (Ok n) = refl
    is (Err wrote.OutOfRange) = refl
    is (Err wrote.OutputShort) = refl
    is (Err wrote.BadNetwork) = refl
