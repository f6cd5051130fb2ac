-- Between two pieces of the input: the calls, beside the program line by line. They agree in what is held, in the reading of the line under
-- way and in what is printed, as long as the state is well formed, and it stays so.
use Rattle.std.specs.Prelude.{if◌then◌else◌}
use Prim.Native.Nat.{ℕ}
use mathlib.Core.Bool.{Bool}
use mathlib.Core.Path.{◌≡◌, refl, sym, ap, ap₂, ◌∙◌, subst⁻¹}
use mathlib.Core.List.{List, [], ◌∷◌, ◌++◌}
use Rattle.lists.proofs.Tests.{T_is}
use Rattle.fields.specs.Output.{Writing, denied, writes}
use Rattle.event_lines.specs.declared.Reading.{Reading}
use Rattle.event_lines.specs.Begun.{is_begun}
use Rattle.event_lines.specs.Steps.{start, read_on, line_end}
use Rattle.event_list.specs.Lines.{numbers_in}
use Rattle.state.specs.State.{state_holds}
use Rattle.step_rules.proofs.Bridge.{Good}
use Rattle.backlog_rules.specs.Answers.{turns}
use Rattle.backlog_rules.proofs.Tracing.{last_good}
use Rattle.console.specs.Feeding as Feeding
use Rattle.console.specs.Feeding.{closing_by}
use Rattle.event_program.specs.declared.Ran.{Ran}
use Rattle.event_program.specs.Stations.{stations_text}
use Rattle.event_program.specs.Runs.{ran_by}
use Rattle.event_program.specs.Calls.{traced, ran_after, printed_by, pieces_ran, pieces_text, last_piece, run_text}
use Rattle.event_program.proofs.Desk.{Desk, desk_of, acted, spoken, desk_after, read_at, texts, same_lines}

abbrev pub desk_in : Ran → Desk
desk_in n = desk_of n.state n.tally

-- ---- one piece
pub record Piece (n : Ran) (bytes : List ℕ) : Type 0 where
  pub good : Good (ran_after n bytes).state
  pub desk : desk_in (ran_after n bytes) ≡ desk_after (desk_in n) n.reading bytes
  pub read : (ran_after n bytes).reading ≡ read_at (desk_in n) n.reading bytes
  pub text : printed_by (traced n bytes) ≡ texts (desk_in n) n.reading bytes

module _ (n : Ran) (g : Good n.state) (bytes : List ℕ) where
  is_traced : traced n bytes ≡ writes (turns n.state n.tally (numbers_in n.reading bytes))
  unfolding traced
  is_traced =
      ap (λ (b : Bool). if b then writes (turns n.state n.tally (numbers_in n.reading bytes)) else denied 11)
      (T_is (state_holds n.state) g.holds)

  is_ran : ran_after n bytes ≡ ran_by (writes (turns n.state n.tally (numbers_in n.reading bytes))) n.state n.tally
      n.reading bytes
  unfolding ran_after
  is_ran = ap (λ (w : Writing). ran_by w n.state n.tally n.reading bytes) is_traced

  pub piece : Piece n bytes
  piece =
      let w = same_lines bytes n.state n.tally n.reading in
      record {
        good = subst⁻¹ (λ (x : Ran). Good x.state) is_ran (last_good (numbers_in n.reading bytes) n.state g);
        desk = ap desk_in is_ran ∙ sym w.desk;
        read = ap (λ (x : Ran). x.reading) is_ran ∙ sym w.read;
        text = ap printed_by is_traced ∙ sym w.text;
      }

-- ---- any number of pieces
pub record Pieces (n : Ran) (pieces : List (List ℕ)) : Type 0 where
  pub good : Good (pieces_ran n pieces).state
  pub desk : desk_in (pieces_ran n pieces) ≡ Feeding.pieces_held start read_on line_end acted spoken (desk_in n) n.reading pieces
  pub read : (pieces_ran n pieces).reading ≡ Feeding.pieces_read start read_on line_end acted spoken (desk_in n) n.reading pieces
  pub text : pieces_text n pieces ≡ Feeding.pieces_text start read_on line_end acted spoken (desk_in n) n.reading pieces

pub pieces_same : (ps : List (List ℕ)) (n : Ran) → Good n.state → Pieces n ps
unfolding pieces_ran pieces_text Feeding.pieces_held Feeding.pieces_read Feeding.pieces_text
pieces_same [] n g = record { good = g; desk = refl; read = refl; text = refl }
pieces_same (p ∷ ps) n g =
    let w = piece n g p in
    let v = pieces_same ps (ran_after n p) w.good in
    record {
      good = v.good;
      desk = v.desk ∙ ap₂ (λ (d : Desk) (r : Reading). Feeding.pieces_held start read_on line_end acted spoken d r ps) w.desk w.read;
      read = v.read ∙ ap₂ (λ (d : Desk) (r : Reading). Feeding.pieces_read start read_on line_end acted spoken d r ps) w.desk w.read;
      text =
          ap₂ (λ (x y : List ℕ). x ++ y) w.text (v.text
          ∙ ap₂ (λ (d : Desk) (r : Reading). Feeding.pieces_text start read_on line_end acted spoken d r ps) w.desk w.read);
    }

-- ---- the whole input: what the calls print is what the lines print, and behind it the stations as they stand
abbrev whole_text : Desk → List (List ℕ) → List ℕ
whole_text = Feeding.whole_text start read_on line_end acted spoken is_begun

abbrev whole_held : Desk → List (List ℕ) → Desk
whole_held = Feeding.whole_held start read_on line_end acted spoken is_begun

pub whole_same : (ps : List (List ℕ)) (n : Ran) → Good n.state → n.reading ≡ start
    → run_text n ps ≡ whole_text (desk_in n) ps ++ stations_text (whole_held (desk_in n) ps).state
unfolding run_text Feeding.whole_text Feeding.whole_held
whole_same ps n g e =
    let v = pieces_same ps n g in
    let last = pieces_ran n ps in
    let w = piece last v.good (last_piece last) in
    let d : desk_in last ≡ Feeding.pieces_held start read_on line_end acted spoken (desk_in n) start ps =
    v.desk ∙ ap (λ (r : Reading). Feeding.pieces_held start read_on line_end acted spoken (desk_in n) r ps) e in
    let r : last.reading ≡ Feeding.pieces_read start read_on line_end acted spoken (desk_in n) start ps =
    v.read ∙ ap (λ (r : Reading). Feeding.pieces_read start read_on line_end acted spoken (desk_in n) r ps) e in
    let t : pieces_text n ps ≡ Feeding.pieces_text start read_on line_end acted spoken (desk_in n) start ps =
    v.text ∙ ap (λ (r : Reading). Feeding.pieces_text start read_on line_end acted spoken (desk_in n) r ps) e in
    ap₂ (λ (x y : List ℕ). x ++ y)
    (ap₂ (λ (x y : List ℕ). x ++ y) t
    (w.text ∙ ap₂ (λ (x : Desk) (y : Reading). texts x y (closing_by (is_begun y))) d r))
    (ap (λ (x : Desk). stations_text x.state)
    (w.desk ∙ ap₂ (λ (x : Desk) (y : Reading). desk_after x y (closing_by (is_begun y))) d r))
