-- THE BACKLOG PROGRAM: whatever the pieces that standard input comes in, its calls print, in all, exactly what one call over all the lines
-- of the input comes to.
use Rattle.std.specs.Prelude.{if◌then◌else◌}
use Prim.Native.Nat.{ℕ}
use mathlib.Core.Bool.{Bool}
use mathlib.Core.Path.{◌≡◌, refl, sym, ap, ◌∙◌}
use mathlib.Core.List.{List, [], ◌∷◌, ◌++◌, map}
use lib.Dec.{T}
use borrow.Author.Tests.{ne_eqb}
use Rattle.event_lines.specs.Events.{event_line}
use Rattle.event_lines.specs.Split.{lines_of}
use Rattle.event_lines.specs.Begun.{is_begun}
use Rattle.event_lines.specs.Steps.{start, read_on, line_end}
use Rattle.event_lines.proofs.Split.{event_lines}
use Rattle.event_lines.proofs.Begun.{not_first, byte_begins}
use Rattle.net.specs.declared.Net.{Net}
use Rattle.net.specs.Network.{Network}
use Rattle.sheet_rules.specs.Rules.{sheet_holds}
use Rattle.sheet.specs.Sheet.{Sheet, refused, sheet}
use Rattle.sheet.specs.Values.{value_of}
use Rattle.world.specs.World.{fresh}
use Rattle.state.specs.declared.State.{State}
use Rattle.state.specs.declared.Begun.{Begun}
use Rattle.state.specs.State.{state_of}
use Rattle.state.proofs.LaidOut.{laid_sized, laid_holds}
use Rattle.step_rules.proofs.Bridge.{Good}
use Rattle.backlog_rules.specs.declared.Taken.{Taken}
use Rattle.backlog_rules.specs.Backlog.{calls}
use Rattle.backlog_rules.proofs.Laws.{at_the_end, good_state}
use Rattle.console.specs.Sheets.{file_sheet, opened_by, refusal_text}
use Rattle.console.specs.Feeding.{printed, whole_text}
use Rattle.console.proofs.Lines.{joined, whole_text_lem}
use Rattle.console.proofs.Faults.{refusal_counts}
use Rattle.console.proofs.Goods.{file_holds}
use Rattle.event_list.specs.Lines.{three_of, passes, lists}
use Rattle.event_program.specs.Events.{no_tally}
use Rattle.event_program.proofs.Program.{first_begun, first_carried}
use Rattle.backlog_program.specs.Backlog.{taken_text, numbers_of, output_by, backlog_program}
use Rattle.backlog_program.specs.Runs.{first_ran}
use Rattle.backlog_program.specs.Calls.{whole_ran, ran_text, opened_text, calls_text}
use Rattle.backlog_program.proofs.Standing.{ran_of, Stands, stands_whole}

-- the lines' numbers, one line after the other
lines_numbers : (said : List (List ℕ)) → printed start read_on line_end passes lists tt said ≡ numbers_of said
unfolding printed passes lists
lines_numbers [] = refl
lines_numbers (x ∷ said) = ap (λ (l : List ℕ). three_of x ++ l) (lines_numbers said)

-- whatever the pieces, the list in all is that of the whole input
whole_numbers : (pieces : List (List ℕ))
    → whole_text start read_on line_end passes lists is_begun tt pieces ≡ numbers_of (map event_line (lines_of (joined pieces)))
whole_numbers pieces =
    whole_text_lem start read_on line_end passes lists is_begun not_first byte_begins event_line event_lines tt pieces
    ∙ lines_numbers (map event_line (lines_of (joined pieces)))

-- a good sheet: the first state, and the run from it
module _ (net : Network) (t : T (sheet_holds net)) where
  abbrev v : Net
  v = value_of net

  abbrev s : State
  s = state_of v (fresh net)

  first_good : Good s
  first_good =
      let c = first_carried net t in
      record {
        sized = laid_sized v (fresh net) c.good c.net c.formed c.ends;
        holds = laid_holds v (fresh net) c.good c.net c.formed;
      }

  -- no event taken yet
  first_is : first_ran v ≡ ran_of (calls s no_tally []) start
  first_is =
      ap (λ (b : Begun). record { answer = b.answer; taken = 0; reading = start; tally = no_tally; state = b.state }) (first_begun net t)
      ∙ ap (λ (y : Taken). ran_of y start) (sym (at_the_end s no_tally))

  first_stands : Stands s no_tally first_good [] start (first_ran v)
  first_stands = record { line = start; same = first_is; reading = λ z. refl; whole = record { count = 0; size = refl } }

  run_prints : (pieces : List (List ℕ)) → ran_text (whole_ran (first_ran v) pieces) ≡ output_by (sheet net)
      (map event_line (lines_of (joined pieces)))
  run_prints pieces =
      let said = map event_line (lines_of (joined pieces)) in
      stands_whole s no_tally first_good pieces (first_ran v) first_stands
      ∙ ap taken_text (ap (calls s no_tally) (whole_numbers pieces) ∙ sym (good_state s no_tally (numbers_of said) first_good.holds))

pub backlog_program_lem : (file : List ℕ) (pieces : List (List ℕ)) → calls_text file pieces ≡ backlog_program file (joined pieces)
unfolding calls_text backlog_program
backlog_program_lem file pieces = go (file_sheet file) refl
  where
    go : (s : Sheet) → file_sheet file ≡ s → opened_text (opened_by (file_sheet file)) pieces ≡ output_by (file_sheet file)
        (map event_line (lines_of (joined pieces)))
    go (refused k) e =
        ap (λ (x : Sheet). opened_text (opened_by x) pieces) e
        ∙ ap (λ (b : Bool). if b then ran_text (whole_ran (first_ran (opened_by (refused k)).net) pieces) else refusal_text k)
        (ne_eqb k 0 (refusal_counts file k e))
        ∙ sym (ap (λ (x : Sheet). output_by x (map event_line (lines_of (joined pieces)))) e)
    go (sheet net) e =
        ap (λ (x : Sheet). opened_text (opened_by x) pieces) e ∙ run_prints net (file_holds file net e) pieces
        ∙ sym (ap (λ (x : Sheet). output_by x (map event_line (lines_of (joined pieces)))) e)
