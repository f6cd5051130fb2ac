-- THE WIRE PROGRAM: whatever the pieces that standard input comes in, its calls print, in all, exactly what specs/Wire.antt says of the
-- file and of the whole input.
use Rattle.std.specs.Prelude.{if◌then◌else◌}
use Prim.Native.Nat.{ℕ}
use mathlib.Core.Bool.{Bool}
use mathlib.Core.Path.{◌≡◌, refl, sym, ap, ap₂, ◌∙◌}
use mathlib.Core.List.{List, [], ◌∷◌, ◌++◌, map, append-nil}
use lib.Dec.{T}
use borrow.Author.Tests.{ne_eqb}
use Rattle.lists.specs.Places.{collect}
use Rattle.lists.proofs.Tests.{T_is}
use Rattle.hex_lines.specs.Hex.{HexText, malformed, octets, hex_line}
use Rattle.hex_lines.specs.HexSteps.{hex_start, read_hex}
use Rattle.event_lines.specs.Split.{lines_of}
use Rattle.hex_lines.proofs.Split.{hex_lines}
use Rattle.net.specs.declared.Net.{Net}
use Rattle.net.specs.Network.{Network}
use Rattle.sheet_rules.specs.Rules.{sheet_holds}
use Rattle.sheet_rules.specs.Values.{net_holds}
use Rattle.sheet.specs.Sheet.{Sheet, refused, sheet}
use Rattle.sheet.specs.Values.{value_of}
use Rattle.sheet.proofs.ValueLaws.{value_means, value_holds}
use Rattle.letters.specs.Letters.{read_letter}
use Rattle.letters.specs.Values.{reading}
use Rattle.hex_lines.specs.HexBegun.{is_hex_begun}
use Rattle.console.specs.Sheets.{file_sheet, opened_by}
use Rattle.console.specs.Feeding.{whole_text}
use Rattle.console.specs.Feeding as Feeding
use Rattle.console.proofs.Lines.{joined, whole_text_lem}
use Rattle.console.proofs.Faults.{refusal_counts}
use Rattle.console.proofs.Goods.{file_holds}
use Rattle.hex_lines.proofs.HexBegun.{hex_not_first, hex_begins}
use Rattle.wire_program.specs.Line.{sheet_text}
use Rattle.wire_program.specs.LetterLineLine.{read_text}
use Rattle.wire_program.specs.Wire.{line_text, output_by, wire_program}
use Rattle.wire_program.specs.Passing.{said_by, acted, spoken}
use Rattle.wire_program.specs.Calls.{opened_text, calls_text}

-- ---- lines against a good network
module _ (net : Network) (t : T (sheet_holds net)) where
  abbrev v : Net
  v = value_of net

  read_same : (bytes : List ℕ) → reading v bytes ≡ read_letter net bytes
  unfolding reading
  read_same bytes = simp (T_is (net_holds v) (value_holds net t), value_means net t)

  line_same : (said : HexText) → spoken v said ≡ line_text net said
  line_same malformed = refl
  line_same (octets bytes) = ap₂ read_text (value_means net t) (read_same bytes)

  lines_same : (said : List HexText) → Feeding.printed hex_start read_hex said_by acted spoken v said ≡ collect (line_text net) said
  unfolding Feeding.printed
  lines_same [] = refl
  lines_same (x ∷ said) = ap₂ (λ (a b : List ℕ). a ++ b) (line_same x) (lines_same said)

  letters_print : (pieces : List (List ℕ))
      → whole_text hex_start read_hex said_by acted spoken is_hex_begun v pieces ≡ collect (line_text net)
      (map hex_line (lines_of (joined pieces)))
  letters_print pieces =
      whole_text_lem hex_start read_hex said_by acted spoken is_hex_begun hex_not_first hex_begins hex_line hex_lines v pieces
      ∙ lines_same (map hex_line (lines_of (joined pieces)))

pub wire_program_lem : (file : List ℕ) (pieces : List (List ℕ)) → calls_text file pieces ≡ wire_program file (joined pieces)
unfolding calls_text wire_program
wire_program_lem file pieces = go (file_sheet file) refl
  where
    go : (s : Sheet) → file_sheet file ≡ s → sheet_text (file_sheet file) ++ opened_text (opened_by (file_sheet file)) pieces ≡ output_by
        (file_sheet file) (map hex_line (lines_of (joined pieces)))
    go (refused k) e =
        ap (λ (x : Sheet). sheet_text x ++ opened_text (opened_by x) pieces) e
        ∙ ap (λ (b : Bool). sheet_text (refused k) ++ (if b then whole_text hex_start read_hex said_by acted spoken is_hex_begun
        (opened_by (refused k)).net pieces else [])) (ne_eqb k 0 (refusal_counts file k e))
        ∙ append-nil (sheet_text (refused k)) ∙ sym (ap (λ (x : Sheet). output_by x (map hex_line (lines_of (joined pieces)))) e)
    go (sheet net) e =
        ap (λ (x : Sheet). sheet_text x ++ opened_text (opened_by x) pieces) e
        ∙ ap (λ (l : List ℕ). sheet_text (sheet net) ++ l) (letters_print net (file_holds file net e) pieces)
        ∙ sym (ap (λ (x : Sheet). output_by x (map hex_line (lines_of (joined pieces)))) e)
