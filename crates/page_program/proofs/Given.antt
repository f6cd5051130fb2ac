-- What was asked of a state gives the part of that very state.
use Prim.Native.Nat.{ℕ, ◌<◌}
use mathlib.Core.Bool.{Bool, true, false}
use mathlib.Core.Path.{◌≡◌, refl, sym, ap, ap₂, ◌∙◌, subst}
use mathlib.Core.List.{List}
use native.Mathlib.Omega.{arith}
use lib.Dec.{T}
use borrow.Author.Tests.{lt-ltb}
use Rattle.net.proofs.ValueLaws.{stations_few}
use Rattle.station.specs.Holding.{is_waiting}
use Rattle.state.specs.declared.State.{State}
use Rattle.state.specs.State.{station_in}
use Rattle.sets.specs.Rooms.{in_room}
use Rattle.report.proofs.Refusals.{Why, none, eleven, six, seven, number_why, stations_are}
use Rattle.report.specs.Answers.{Asked, asked_of}
use Rattle.report.proofs.WordShown.{answer_number}
use Rattle.report.specs.ReportsAnswers.{output_of}
use Rattle.page_part.specs.Parts.{is_there, part_text, part_writing}
use Rattle.page_program.specs.Page.{report_room, station_part}

-- a station's place is its number
place_there : (i : ℕ) → i < 32 → i ≡ in_room i
place_there i h = simp (lt-ltb i 32 h)

module _ (s : State) (i : ℕ) where
  few_there : {n : ℕ} → Why s i n → is_there n ≡ true → i < 32
  few_there (none k) e = omega (arith, k.station, stations_are s k.good, stations_few s.net)
  few_there (eleven x) e = absurd (subst T (sym e) tt)
  few_there (six g h) e = absurd (subst T (sym e) tt)
  few_there (seven g h x) e = omega (arith, h, stations_are s g, stations_few s.net)

  module _ (old : List ℕ) (asked : Asked) (seen : List ℕ) (place : ℕ) (w : Bool) (pa : asked ≡ asked_of s i)
      (ps : seen ≡ output_of s i report_room)
      (pp : place ≡ in_room i) (pw : w ≡ is_waiting (station_in s place).condition) where
    abbrev given : List ℕ
    given = part_text asked.answer s.net i asked.reached.ones asked.reached.lowest w seen

    same_text : is_there (asked_of s i).answer ≡ true → given ≡ station_part s i
    unfolding station_part
    same_text e =
        let here : place ≡ i = pp ∙ sym (place_there i (few_there (number_why s i) (ap is_there (sym (answer_number s i)) ∙ e))) in
        ap₂ (λ (x : Asked) (y : List ℕ). part_text x.answer s.net i x.reached.ones x.reached.lowest w y) pa ps
        ∙ ap (λ (v : Bool). part_text (asked_of s i).answer s.net i (asked_of s i).reached.ones (asked_of s i).reached.lowest v
        (output_of s i report_room))
        (pw ∙ ap (λ (j : ℕ). is_waiting (station_in s j).condition) here)

    by_there : (b : Bool) → is_there (asked_of s i).answer ≡ b
        → part_writing asked.answer given old ≡ part_writing (asked_of s i).answer (station_part s i) old
    by_there true e = ap₂ (λ (x : Asked) (y : List ℕ). part_writing x.answer y old) pa (same_text e)
    by_there false e = ap (λ (x : Asked). part_writing x.answer given old) pa ∙ simp e

    pub station_given : part_writing asked.answer given old ≡ part_writing (asked_of s i).answer (station_part s i) old
    station_given = by_there (is_there (asked_of s i).answer) refl
