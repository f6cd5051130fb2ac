-- THE EVENT PROGRAM: whatever the pieces that standard input comes in, its calls print, in all, exactly what document 01 says of the file
-- and of the whole input.
use Rattle.std.specs.Prelude.{if◌then◌else◌}
use Prim.Native.Nat.{ℕ}
use mathlib.Core.Bool.{Bool}
use mathlib.Core.Path.{◌≡◌, refl, sym, ap, ap₂, ◌∙◌}
use mathlib.Core.List.{List, ◌++◌, map}
use native.Mathlib.Omega.{arith}
use lib.Dec.{T}
use borrow.Author.Tests.{ne_eqb}
use Rattle.lists.proofs.Tests.{T_is}
use Rattle.event_lines.specs.Events.{event_line}
use Rattle.event_lines.specs.Split.{lines_of}
use Rattle.event_lines.specs.Steps.{start, read_on, line_end}
use Rattle.event_lines.proofs.Split.{event_lines}
use Rattle.net.specs.declared.Net.{Net}
use Rattle.net.specs.Network.{Network}
use Rattle.sheet_rules.specs.Rules.{sheet_holds}
use Rattle.net.specs.Values.{network_of}
use Rattle.sheet_rules.specs.Values.{net_holds}
use Rattle.sheet.specs.Sheet.{Sheet, refused, sheet}
use Rattle.sheet.specs.Values.{value_of}
use Rattle.sheet.proofs.ValueLaws.{value_means, value_holds, low_long, high_long}
use Rattle.world.specs.World.{fresh}
use Rattle.world.proofs.Keeps.{fresh_formed}
use Rattle.state.specs.State.{state_of, Ends64}
use Rattle.state.specs.declared.Begun.{Begun}
use Rattle.state.proofs.LaidOut.{laid_sized, laid_holds}
use Rattle.step_rules.proofs.Bridge.{Good}
use Rattle.state.specs.Beginning.{begun_of}
use Rattle.tally.proofs.Sums.{Fits}
use Rattle.event_lines.specs.Begun.{is_begun}
use Rattle.console.specs.Sheets.{file_sheet, opened_by, refusal_text}
use Rattle.console.proofs.Lines.{joined, whole_text_lem, whole_held_lem}
use Rattle.console.proofs.Faults.{refusal_counts}
use Rattle.console.proofs.Goods.{file_holds}
use Rattle.event_lines.proofs.Begun.{not_first, byte_begins}
use Rattle.event_program.specs.Stations.{stations_text}
use Rattle.event_program.specs.Events.{no_tally, begins, done_all, output_by, event_program}
use Rattle.event_program.specs.declared.Ran.{Ran}
use Rattle.event_program.specs.Runs.{ran_as, first_ran}
use Rattle.event_program.specs.Calls.{run_text, opened_text, calls_text}
use Rattle.event_program.proofs.Desk.{Desk, desk_of, acted, spoken}
use Rattle.event_program.proofs.Pieces.{whole_same}
use Rattle.event_program.proofs.Worlds.{Carried, lines_print, lines_end, end_prints}

no_fits : Fits no_tally
no_fits = record { settled = omega arith; raised = omega arith; dropped = omega arith }

-- the value of a network has its room of 64 links
value_ends : (net : Network) → T (sheet_holds net) → Ends64 (value_of net)
value_ends net t = record { low = low_long net t; high = high_long net t }

-- a good sheet: the first state, and the run from it
module _ (net : Network) (t : T (sheet_holds net)) where
  abbrev v : Net
  v = value_of net

  good_begun : Begun
  good_begun = record { answer = 0; state = state_of v (fresh (network_of v)) }

  begun_is : begun_of v ≡ good_begun
  unfolding begun_of good_begun
  begun_is = simp (T_is (net_holds v) (value_holds net t))

  pub first_begun : begun_of v ≡ record { answer = 0; state = state_of v (fresh net) }
  unfolding good_begun
  first_begun = begun_is ∙ ap (λ (n : Network). record { answer = 0; state = state_of v (fresh n) }) (value_means net t)

  -- what the program holds before its first line
  abbrev first : Ran
  first = ran_as 0 0 start no_tally (state_of v (fresh net))

  pub first_is : first_ran v ≡ first
  first_is = ap (λ (b : Begun). ran_as b.answer 0 start no_tally b.state) first_begun

  fresh_net : (fresh net).net ≡ net
  unfolding fresh
  fresh_net = refl

  pub first_carried : Carried v (fresh net)
  first_carried =
      record { good = value_holds net t; ends = value_ends net t; net = value_means net t ∙ sym fresh_net; formed = fresh_formed net t }

  pub first_good : Good (state_of v (fresh net))
  first_good =
      let c = first_carried in
      record {
        sized = laid_sized v (fresh net) c.good c.net c.formed c.ends;
        holds = laid_holds v (fresh net) c.good c.net c.formed;
      }

  run_prints : (pieces : List (List ℕ)) → run_text (first_ran v) pieces ≡ output_by (sheet net) (map event_line (lines_of (joined pieces)))
  run_prints pieces =
      let y = desk_of (state_of v (fresh net)) no_tally in
      let said = map event_line (lines_of (joined pieces)) in
      let ends = lines_end v (fresh net) no_tally first_carried no_fits said in
      ap (λ (n : Ran). run_text n pieces) first_is ∙ whole_same pieces first first_good refl
      ∙ ap₂ (λ (a b : List ℕ). a ++ b)
      (whole_text_lem start read_on line_end acted spoken is_begun not_first byte_begins event_line event_lines y pieces
      ∙ lines_print v (fresh net) no_tally first_carried no_fits said)
      (ap (λ (d : Desk). stations_text d.state)
      (whole_held_lem start read_on line_end acted spoken is_begun not_first byte_begins event_line
      event_lines y pieces)
      ∙ ap stations_text ends.state ∙ end_prints v (done_all (begins net) said).world ends.carried)

pub event_program_lem : (file : List ℕ) (pieces : List (List ℕ)) → calls_text file pieces ≡ event_program file (joined pieces)
unfolding calls_text event_program
event_program_lem file pieces = go (file_sheet file) refl
  where
    go : (s : Sheet) → file_sheet file ≡ s → opened_text (opened_by (file_sheet file)) pieces ≡ output_by (file_sheet file)
        (map event_line (lines_of (joined pieces)))
    go (refused k) e =
        ap (λ (x : Sheet). opened_text (opened_by x) pieces) e
        ∙ ap (λ (b : Bool). if b then run_text (first_ran (opened_by (refused k)).net) pieces else refusal_text k)
        (ne_eqb k 0 (refusal_counts file k e))
        ∙ sym (ap (λ (x : Sheet). output_by x (map event_line (lines_of (joined pieces)))) e)
    go (sheet net) e =
        ap (λ (x : Sheet). opened_text (opened_by x) pieces) e ∙ run_prints net (file_holds file net e) pieces
        ∙ sym (ap (λ (x : Sheet). output_by x (map event_line (lines_of (joined pieces)))) e)
