-- A sheet written back into a room that is long enough for every one of them.
use Prim.Native.Nat.{ℕ, ◌≤◌, ◌<◌}
use mathlib.Core.Path.{◌≡◌, refl, sym, ap, ◌∙◌, subst}
use Rattle.std.specs.Prelude.{Result, Ok, Err}
use Rattle.std.specs.Result.{result_unwrap_or}
use mathlib.Core.List.{List, ◌++◌}
use native.Mathlib.Omega.{arith}
use lib.Dec.{T}
use lib.ListN.{length, get_or, length-append}
use Rattle.lists.proofs.Tests.{T_is}
use Rattle.fields.specs.Output.{writing_numbers, writing_output}
use Rattle.fields.proofs.Seen.{length_field}
use Rattle.net.specs.declared.Net.{Net}
use Rattle.net.specs.Network.{Network}
use Rattle.net.specs.Values.{network_of}
use Rattle.sheet_rules.specs.Values.{net_holds}
use Rattle.sheet_rules.proofs.Rules.{rules_of}
use Rattle.sheet_rules.proofs.Good.{sheet_good, stations_are, links_are}
use Rattle.sheet.specs.Sheet.{Sheet, refused, sheet, write_sheet}
use Rattle.sheet.specs.declared.SheetError.{SheetError}
use Rattle.sheet.specs.declared.SheetError.TheVariants.{Short, Malformed, OutOfRange, OutOfOrder, TooManyLinks}
use Rattle.sheet.specs.declared.WriteError.{WriteError}
use Rattle.sheet.specs.Values.{error_number, sheet_number, sheet_net, value_of, wrote_numbers}
use Rattle.sheet.specs.Values as SheetValues
use Rattle.sheet.proofs.Output.{links_length}
use Rattle.sheet.proofs.ValueLaws.{value_means, value_holds}
use Rattle.text.specs.Text.{digits}
use Rattle.console.specs.Sheets.{Opened, file_sheet, opened_by, opened_in, refusal_text}
use Rattle.console.proofs.Faults.{refusal_counts}
use Rattle.console.proofs.Puts.{refusal_few}
use Rattle.console.proofs.Goods.{file_holds}
use Rattle.text.specs.Parts.{newline}
use Rattle.wire_program.proofs.Rooms.{Back, back}
use Rattle.text.proofs.Parts.{text_length, field_length}
use Rattle.wire_program.specs.Line.{sheet_word, sheet_text, sheet_most}

sheet_length : (net : Net) → T (net_holds net) → length (write_sheet (network_of net)) ≤ 327
unfolding write_sheet
sheet_length net t =
    let few : length (network_of net).links ≤ 64 = (rules_of (network_of net) (sheet_good net t)).few_links in
    simp (length-append, length_field, links_length) (omega arith)

pub sheet_back : (net : Net) (old room numbers : List ℕ) (n : ℕ) → T (net_holds net) → 327 ≡ length old
    → numbers ≡ writing_numbers (SheetValues.writing net old)
    → room ≡ writing_output (SheetValues.writing net old) old → n ≡ get_or numbers 1 0 → Back (write_sheet (network_of net)) old room n
unfolding SheetValues.writing
sheet_back net old room numbers n t s p q e =
    let good = T_is (net_holds net) t in
    back (write_sheet (network_of net)) old room numbers n (omega (arith, sheet_length net t)) (p ∙ simp good) (q ∙ simp good) e

pub wrote_size : (r : Result ℕ WriteError) → result_unwrap_or r 0 ≡ get_or (wrote_numbers r) 1 0
wrote_size (Ok n) = refl
wrote_size (Err e) = refl

-- the numbers that the sheet's line has
pub stations_said : (net : Net) → T (net_holds net) → net.stations ≡ (network_of net).stations
stations_said net t = sym (stations_are net t)

pub links_said : (net : Net) → T (net_holds net) → net.links ≡ length (network_of net).links
links_said net t = sym (links_are net t)

-- what the file gave
file_good : (file : List ℕ) (net : Network) → file_sheet file ≡ sheet net → T (net_holds (value_of net)) × (network_of (value_of net) ≡ net)
file_good file net e = let h = file_holds file net e in (value_holds net h, value_means net h)

module _ (file : List ℕ) where
  -- a network
  module _ (net : Net) (is : opened_in (Ok net) ≡ opened_by (file_sheet file)) where
    pub opened_good : T (net_holds net) × (sheet_text (sheet (network_of net)) ≡ sheet_text (file_sheet file))
    opened_good = go (file_sheet file) refl
      where
        go : (s : Sheet) → file_sheet file ≡ s → T (net_holds net) × (sheet_text (sheet (network_of net)) ≡ sheet_text (file_sheet file))
        go (refused k) e =
            absurd (refusal_counts file k e (sym (ap (λ (x : Opened). x.number) is ∙ ap sheet_number e)))
        go (sheet was) e =
            let v : net ≡ value_of was = ap (λ (x : Opened). x.net) is ∙ ap sheet_net e in
            let good = file_good file was e in (
              subst (λ (x : Net). T (net_holds x)) (sym v) good.0,
              ap sheet_text (ap sheet (ap network_of v ∙ good.1) ∙ sym e),
            )

  -- a refusal
  module _ (error : SheetError) (is : opened_in (Err error) ≡ opened_by (file_sheet file)) where
    pub opened_refused : sheet_word ++ refusal_text (error_number error) ≡ sheet_text (file_sheet file)
    unfolding sheet_text refusal_text
    opened_refused = go (file_sheet file) refl
      where
        go : (s : Sheet) → file_sheet file ≡ s → sheet_word ++ digits (error_number error) ++ newline ≡ sheet_text (file_sheet file)
        go (refused k) e =
            ap (λ (n : ℕ). sheet_word ++ digits n ++ newline) (ap (λ (x : Opened). x.number) is ∙ ap sheet_number e) ∙ sym (ap sheet_text e)
        go (sheet was) e = absurd (never error (ap (λ (x : Opened). x.number) is ∙ ap sheet_number e))
          where
            never : (x : SheetError) → error_number x ≡ 0 → ⊥
            never Short p = omega arith
            never Malformed p = omega arith
            never OutOfRange p = omega arith
            never OutOfOrder p = omega arith
            never TooManyLinks p = omega arith

-- ---- how long the line is
pub sheet_few : (net : Net) → T (net_holds net) → length (sheet_text (sheet (network_of net))) ≤ sheet_most
unfolding sheet_text
sheet_few net t =
    let rules = rules_of (network_of net) (sheet_good net t) in
    simp length-append (omega (
      arith,
      field_length (network_of net).stations (omega (arith, rules.few_stations)),
      field_length (length (network_of net).links) (omega (arith, rules.few_links)),
      text_length (write_sheet (network_of net)),
      sheet_length net t,
    ))

pub refused_few : (n : ℕ) → n < 256 → length (sheet_word ++ refusal_text n) ≤ sheet_most
refused_few n h = simp length-append (omega (arith, refusal_few n h))
