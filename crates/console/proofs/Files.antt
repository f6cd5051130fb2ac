-- The file of a sheet: one that is too long, and one that is read.
use Rattle.std.specs.Prelude.{if◌then◌else◌, Result, Err}
use Prim.Native.Nat.{ℕ, ◌≤◌, ◌<◌}
use mathlib.Core.Bool.{Bool}
use mathlib.Core.Path.{◌≡◌, refl, sym, ap, ◌∙◌}
use mathlib.Core.List.{List}
use native.Mathlib.Decide.{dec_le}
use native.Mathlib.Omega.{arith}
use lib.Dec.{ltb}
use lib.ListN.{length, take}
use lib.Seq.{take_all, length-take-le}
use borrow.Author.Tests.{lt-ltb, le-ltb}
use Rattle.net.specs.declared.Net.{Net}
use Rattle.sheet.specs.declared.SheetError.{SheetError}
use Rattle.sheet.specs.declared.SheetError.TheVariants.{Malformed}
use Rattle.sheet.specs.Sheet.{refused, read_sheet}
use Rattle.sheet.specs.Values.{Says}
use Rattle.console.specs.Sheets.{file_sheet, opened_by, opened_in}

-- ---- the sheet's file
module _ (file : List ℕ) where
  pub file_long : 4096 < length file → opened_in (Err Malformed) ≡ opened_by (file_sheet file)
  unfolding file_sheet
  file_long h = simp (lt-ltb 4096 (length file) h) refl

  pub file_read : (r : Result Net SheetError) → length file ≤ 4096 → Says r (read_sheet file) → opened_in r ≡ opened_by (file_sheet file)
  unfolding file_sheet
  file_read r h s = simp (le-ltb 4096 (length file) h) (λ i. record { number = s.number i; net = s.net i })

  above : (n : ℕ) → 4096 < n → (length file ≤ 4096 → ⊥) → 4096 < length (take n file)
  above n h l = go (dec_le n (length file))
    where
      go : Dec (n ≤ length file) → 4096 < length (take n file)
      go (yes m) = omega (arith, length-take-le n file m)
      go (no m) = omega (arith, ap length (take_all n file (omega arith)))

  -- only whether a file is above 4,096 bytes counts of those beyond: to read no more than 4,097 changes nothing
  pub file_cut : (n : ℕ) → 4096 < n → file_sheet (take n file) ≡ file_sheet file
  unfolding file_sheet
  file_cut n h = go (dec_le (length file) 4096)
    where
      go : Dec (length file ≤ 4096) → (if ltb 4096 (length (take n file)) then refused 2 else read_sheet (take n file))
          ≡ (if ltb 4096 (length file) then refused 2 else read_sheet file)
      go (yes l) = ap (λ (f : List ℕ). if ltb 4096 (length f) then refused 2 else read_sheet f) (take_all n file (omega arith))
      go (no l) =
          let m : 4096 < length (take n file) = above n h l in
          ap (λ (b : Bool). if b then refused 2 else read_sheet (take n file)) (lt-ltb 4096 (length (take n file)) m)
          ∙ sym (ap (λ (b : Bool). if b then refused 2 else read_sheet file) (lt-ltb 4096 (length file) (omega arith)))
