-- Sheets and letters written to lent output: each number when, and only when, its reason stands, a refusal touches no byte, what was
-- written reads back from the output's first bytes, and each meaning has one writing. For every answer that the promises allow.
use Rattle.std.specs.Prelude.{Result, Ok}
use Prim.Native.Nat.{ℕ, ◌≤◌, ◌<◌}
use mathlib.Core.Bool.{Bool, true, false, not}
use mathlib.Core.Path.{◌≡◌, refl, sym, ap, ◌∙◌, subst, subst⁻¹}
use mathlib.Core.Logic.{◌↔◌}
use mathlib.Core.List.{List, [], ◌∷◌}
use native.Mathlib.Decide.{dec_lt}
use native.Mathlib.Omega.{arith}
use lib.Dec.{T}
use lib.ListN.{length, get_or, take, drop}
use lib.Seq.{take_at, drop_at}
use borrow.Author.Tests.{le-ltb}
use Rattle.lists.proofs.Tests.{T_is, T_not_is, is_T}
use Rattle.fields.specs.Fields.{are_bytes, onto}
use Rattle.fields.specs.Output.{Writing, denied, writes, fitting, writing_numbers, writing_output}
use Rattle.net.specs.declared.Letter.{Letter}
use Rattle.net.specs.declared.Net.{Net}
use Rattle.net.specs.Letters.{letter_holds}
use Rattle.net.specs.Values.{network_of}
use Rattle.state.specs.State.{Ends64}
use Rattle.sheet.specs.declared.SheetError.{SheetError}
use Rattle.sheet.specs.declared.WriteError as SheetWrite
use Rattle.sheet.specs.Sheet.{sheet, read_sheet, write_sheet}
use Rattle.sheet.specs.Values as SheetValues
use Rattle.sheet.specs.Values.{Says}
use Rattle.sheet.proofs.Laws as SheetLaws
use Rattle.sheet.proofs.ValueLaws.{value_read, read_value}
use Rattle.sheet.proofs.Refusals as SheetRefusals
use Rattle.letters.specs.declared.LetterError.{LetterError}
use Rattle.letters.specs.declared.WriteError as LetterWrite
use Rattle.letters.specs.Letters.{write_letter}
use Rattle.letters.specs.Values as LetterValues
use Rattle.letters.specs.Values.{reading, letters_of}
use Rattle.letters.proofs.Laws.{written_read, read_written, read_travels}
use Rattle.letters.proofs.Refusals as LetterRefusals
use Rattle.demands.specs.Given.{net_holds, GoodNet}
use Rattle.demands.specs.SheetReasons as S
use Rattle.demands.specs.SheetReasons.{SheetWritten}
use Rattle.demands.specs.LetterReasons as L
use Rattle.demands.specs.LetterReasons.{GoodLetter, LetterWritten}
use Rattle.demands.proofs.Sheets.{good_sheet}

-- ---- what was written to an output, sheet or letter
module _ (old out : List ℕ) where
  refused_stays : (w : Writing) → out ≡ writing_output w old → (get_or (writing_numbers w) 0 0 ≡ 0 → ⊥) → out ≡ old
  refused_stays (denied k) e h = e
  refused_stays (writes new) e h = absurd (h refl)

  -- the first n bytes are the writing, and the others the old ones
  pub first_bytes : (new : List ℕ) (n : ℕ) → out ≡ onto new old → n ≡ length new → (take n out ≡ new) × (drop n out ≡ drop n old)
  first_bytes new n e l = (
    ap (take n) e ∙ take_at new (drop (length new) old) n (sym l),
    ap (drop n) e ∙ drop_at new (drop (length new) old) n (sym l) ∙ ap (λ (k : ℕ). drop k old) (sym l),
  )

  written_bytes : (w : Writing) (new : List ℕ) (n : ℕ) → w ≡ writes new → 0 ∷ n ∷ [] ≡ writing_numbers w → out ≡ writing_output w old
      → (take n out ≡ new) × (drop n out ≡ drop n old)
  written_bytes w new n e p q =
      let r : 0 ∷ n ∷ [] ≡ 0 ∷ length new ∷ [] = p ∙ ap writing_numbers e in
      let l : n ≡ length new = ap (λ (x : List ℕ). get_or x 1 0) r in
      first_bytes new n (q ∙ ap (λ (x : Writing). writing_output x old) e) l

-- ---- a sheet
module _ (net : Net) (old : List ℕ) where
  abbrev sheet_bytes : List ℕ
  sheet_bytes = write_sheet (network_of net)

  abbrev sheet_number : ℕ
  sheet_number = get_or (writing_numbers (SheetValues.writing net old)) 0 0

  sheet_writes : GoodNet net → length sheet_bytes ≤ length old → SheetValues.writing net old ≡ writes sheet_bytes
  unfolding SheetValues.writing fitting
  sheet_writes g h = let a = T_is (net_holds net) g in let l = le-ltb (length old) (length sheet_bytes) h in simp (a, l)

  why_sheet : {n : ℕ} → SheetWritten net old n → sheet_number ≡ n
  why_sheet (S.eleven p) =
      ap (λ (w : Writing). get_or (writing_numbers w) 0 0) (SheetRefusals.denied_when net old 11 (SheetRefusals.bad_network (T_not_is _ p)))
  why_sheet (S.ten g h) =
      ap (λ (w : Writing). get_or (writing_numbers w) 0 0) (SheetRefusals.denied_when net old 10 (SheetRefusals.too_short (T_is _ g) h))
  why_sheet (S.taken g h) = ap (λ (w : Writing). get_or (writing_numbers w) 0 0) (sheet_writes g h)

  sheet_why : SheetWritten net old sheet_number
  sheet_why = go (net_holds net) refl (dec_lt (length old) (length sheet_bytes))
    where
      is : {n : ℕ} → SheetWritten net old n → SheetWritten net old sheet_number
      is x = subst⁻¹ (SheetWritten net old) (why_sheet x) x

      go : (b : Bool) → net_holds net ≡ b → Dec (length old < length sheet_bytes) → SheetWritten net old sheet_number
      go false p d = is (S.eleven (subst⁻¹ (λ (b : Bool). T (not b)) p tt))
      go true p (yes h) = is (S.ten (is_T _ p) h)
      go true p (no h) = is (S.taken (is_T _ p) (omega arith))

  module _ (r : Result ℕ SheetWrite.WriteError) (p : SheetValues.wrote_numbers r ≡ writing_numbers (SheetValues.writing net old)) where
    -- EACH NUMBER WHEN, AND ONLY WHEN, ITS REASON STANDS
    pub sheet_write_numbers : (n : ℕ) → (S.wrote_number r ≡ n) ↔ SheetWritten net old n
    sheet_write_numbers n =
        let e : S.wrote_number r ≡ sheet_number = ap (λ (l : List ℕ). get_or l 0 0) p in
        ((λ q. subst (SheetWritten net old) (sym e ∙ q) sheet_why), (λ w. e ∙ why_sheet w))

    taken_as : {n : ℕ} → SheetWritten net old n → n ≡ 0 → GoodNet net × (SheetValues.writing net old ≡ writes sheet_bytes)
    taken_as (S.eleven x) z = absurd (omega arith)
    taken_as (S.ten g h) z = absurd (omega arith)
    taken_as (S.taken g h) z = (g, sheet_writes g h)

    module _ (out : List ℕ) (o : out ≡ writing_output (SheetValues.writing net old) old) where
      -- a refusal touches no byte
      pub sheet_write_keeps : (S.wrote_number r ≡ 0 → ⊥) → out ≡ old
      sheet_write_keeps h = refused_stays old out (SheetValues.writing net old) o (λ z. h (ap (λ (l : List ℕ). get_or l 0 0) p ∙ z))

      module _ (n : ℕ) (b : r ≡ Ok n) where
        accepted : GoodNet net × (SheetValues.writing net old ≡ writes sheet_bytes)
        accepted = taken_as ((sheet_write_numbers 0).0 (ap S.wrote_number b)) refl

        sheet_parts : (take n out ≡ sheet_bytes) × (drop n out ≡ drop n old)
        sheet_parts =
            written_bytes old out (SheetValues.writing net old) sheet_bytes n accepted.1 (sym (ap SheetValues.wrote_numbers b) ∙ p) o

        -- WHAT IS WRITTEN, and the old tail
        pub sheet_bytes_lem : take n out ≡ sheet_bytes
        sheet_bytes_lem = sheet_parts.0

        pub sheet_tail : drop n out ≡ drop n old
        sheet_tail = sheet_parts.1

        -- READ BACK: the first n bytes of the output read to the network that was given
        pub sheet_back : Ends64 net → (q : Result Net SheetError) → Says q (read_sheet (take n out)) → q ≡ Ok net
        sheet_back d q w =
            value_read q net accepted.0 d.low d.high (subst (λ (l : List ℕ). Says q (read_sheet l)) sheet_parts.0 w)

-- TAKEN: the network of the answer is a good one, and the bytes are its sheet
pub sheet_taken : (bytes : List ℕ) → T (are_bytes bytes) → (net : Net) → Says (Ok net) (read_sheet bytes)
    → GoodNet net × (bytes ≡ write_sheet (network_of net))
sheet_taken bytes b net p =
    let m = good_sheet bytes b (Ok net) p refl in
    let k = read_value (Ok net) bytes m.0 p m.1 in
    (k.1, SheetLaws.one_writing bytes m.0 b m.1 ∙ ap write_sheet (sym k.0))

-- ONE WRITING: sheets that are taken and mean the same network are the same bytes
pub sheet_once : (xs ys : List ℕ) → T (are_bytes xs) → T (are_bytes ys) → (net other : Net) → Says (Ok net) (read_sheet xs)
    → Says (Ok other) (read_sheet ys) → network_of net ≡ network_of other → xs ≡ ys
sheet_once xs ys a b net other v w e =
    let m = good_sheet xs a (Ok net) v refl in
    let k = good_sheet ys b (Ok other) w refl in
    let same : m.0 ≡ k.0 = sym (read_value (Ok net) xs m.0 v m.1).0 ∙ e ∙ (read_value (Ok other) ys k.0 w k.1).0 in
    SheetLaws.same_bytes xs ys k.0 a b (m.1 ∙ ap sheet same) k.1

-- ---- a letter
module _ (net : Net) (x : Letter) (old : List ℕ) where
  abbrev letter_bytes : List ℕ
  letter_bytes = write_letter (network_of net) x

  abbrev letter_number : ℕ
  letter_number = get_or (writing_numbers (LetterValues.writing net x old)) 0 0

  letter_writes : GoodNet net → GoodLetter net x → length letter_bytes ≤ length old → LetterValues.writing net x old ≡ writes letter_bytes
  unfolding LetterValues.writing fitting
  letter_writes g t h =
      let a = T_is (net_holds net) g in
      let b = T_is (letter_holds (network_of net) x) t in
      let l = le-ltb (length old) (length letter_bytes) h in
      simp (a, b, l)

  why_letter : {n : ℕ} → LetterWritten net x old n → letter_number ≡ n
  why_letter (L.eleven p) =
      ap (λ (w : Writing). get_or (writing_numbers w) 0 0)
      (LetterRefusals.denied_when net x old 11 (LetterRefusals.bad_network (T_not_is _ p)))
  why_letter (L.three g b) =
      ap (λ (w : Writing). get_or (writing_numbers w) 0 0)
      (LetterRefusals.denied_when net x old 3 (LetterRefusals.no_letter_lem (T_is _ g) (T_not_is _ b)))
  why_letter (L.ten g t h) =
      ap (λ (w : Writing). get_or (writing_numbers w) 0 0)
      (LetterRefusals.denied_when net x old 10 (LetterRefusals.too_short (T_is _ g) (T_is _ t) h))
  why_letter (L.taken g t h) = ap (λ (w : Writing). get_or (writing_numbers w) 0 0) (letter_writes g t h)

  letter_why : LetterWritten net x old letter_number
  letter_why = go (net_holds net) (letter_holds (network_of net) x) refl refl (dec_lt (length old) (length letter_bytes))
    where
      is : {n : ℕ} → LetterWritten net x old n → LetterWritten net x old letter_number
      is w = subst⁻¹ (LetterWritten net x old) (why_letter w) w

      go : (a b : Bool) → net_holds net ≡ a → letter_holds (network_of net) x ≡ b → Dec (length old < length letter_bytes)
          → LetterWritten net x old letter_number
      go false b p q d = is (L.eleven (subst⁻¹ (λ (b : Bool). T (not b)) p tt))
      go true false p q d = is (L.three (is_T _ p) (subst⁻¹ (λ (b : Bool). T (not b)) q tt))
      go true true p q (yes h) = is (L.ten (is_T _ p) (is_T _ q) h)
      go true true p q (no h) = is (L.taken (is_T _ p) (is_T _ q) (omega arith))

  module _ (r : Result ℕ LetterWrite.WriteError) (p : LetterValues.wrote_numbers r ≡ writing_numbers (LetterValues.writing net x old)) where
    -- EACH NUMBER WHEN, AND ONLY WHEN, ITS REASON STANDS
    pub letter_write_numbers : (n : ℕ) → (L.wrote_number r ≡ n) ↔ LetterWritten net x old n
    letter_write_numbers n =
        let e : L.wrote_number r ≡ letter_number = ap (λ (l : List ℕ). get_or l 0 0) p in
        ((λ q. subst (LetterWritten net x old) (sym e ∙ q) letter_why), (λ w. e ∙ why_letter w))

    letter_as : {n : ℕ} → LetterWritten net x old n → n ≡ 0
        → GoodNet net × (GoodLetter net x × (LetterValues.writing net x old ≡ writes letter_bytes))
    letter_as (L.eleven a) z = absurd (omega arith)
    letter_as (L.three g a) z = absurd (omega arith)
    letter_as (L.ten g t h) z = absurd (omega arith)
    letter_as (L.taken g t h) z = (g, (t, letter_writes g t h))

    module _ (out : List ℕ) (o : out ≡ writing_output (LetterValues.writing net x old) old) where
      -- a refusal touches no byte
      pub letter_write_keeps : (L.wrote_number r ≡ 0 → ⊥) → out ≡ old
      letter_write_keeps h = refused_stays old out (LetterValues.writing net x old) o (λ z. h (ap (λ (l : List ℕ). get_or l 0 0) p ∙ z))

      module _ (n : ℕ) (b : r ≡ Ok n) where
        letter_accepted : GoodNet net × (GoodLetter net x × (LetterValues.writing net x old ≡ writes letter_bytes))
        letter_accepted = letter_as ((letter_write_numbers 0).0 (ap L.wrote_number b)) refl

        letter_parts : (take n out ≡ letter_bytes) × (drop n out ≡ drop n old)
        letter_parts =
            written_bytes old out (LetterValues.writing net x old) letter_bytes n letter_accepted.1.1
            (sym (ap LetterValues.wrote_numbers b) ∙ p) o

        -- WHAT IS WRITTEN, and the old tail
        pub letter_bytes_lem : take n out ≡ letter_bytes
        letter_bytes_lem = letter_parts.0

        pub letter_tail : drop n out ≡ drop n old
        letter_tail = letter_parts.1

        -- READ BACK: the first n bytes of the output read to the letter that was given
        pub letter_back : (q : Result Letter LetterError) → letters_of q ≡ reading net (take n out) → q ≡ Ok x
        letter_back q w =
            LetterRefusals.one_answer q (Ok x)
            (w ∙ ap (reading net) letter_parts.0 ∙ written_read net x letter_accepted.0 letter_accepted.1.0)

-- TAKEN: it is a letter of that network, and the bytes are its writing
pub letter_taken : (net : Net) (bytes : List ℕ) → T (are_bytes bytes) → (x : Letter) → letters_of (Ok x) ≡ reading net bytes
    → GoodLetter net x × (bytes ≡ write_letter (network_of net) x)
letter_taken net bytes b x p = (read_travels net x bytes (sym p), read_written net x bytes b (sym p))

-- ONE WRITING: against one network, bytes that read to the same letter are the same bytes
pub letter_once : (net : Net) (xs ys : List ℕ) → T (are_bytes xs) → T (are_bytes ys) → (x : Letter)
    → letters_of (Ok x) ≡ reading net xs → letters_of (Ok x) ≡ reading net ys → xs ≡ ys
letter_once net xs ys a b x p q = read_written net x xs a (sym p) ∙ sym (read_written net x ys b (sym q))
