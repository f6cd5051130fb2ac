-- That the report by the table that the call reads is the report in the world, or that its number refuses it.
use Prim.Native.Nat.{ℕ, ◌<◌}
use mathlib.Core.Bool.{Bool}
use mathlib.Core.Path.{◌≡◌, refl, sym, ap, ap₂, ◌∙◌}
use mathlib.Core.List.{List}
use borrow.Author.Tests.{eq-eqb, ne_eqb}
use lib.Dec.{T}
use Rattle.net.specs.Network.{Network}
use Rattle.lists.specs.Words.{in_word}
use Rattle.reach.specs.Reach.{works_in, report}
use Rattle.reach.specs.Values.{table_of, working_of}
use Rattle.reach.proofs.Working.{working_is}
use Rattle.world.specs.World.{World, holding_at, report_at}
use Rattle.state.specs.declared.State.{State}
use Rattle.state.specs.State.{station_in, world_of, state_holds, Sized}
use Rattle.sets.specs.Rooms.{in_room}
use Rattle.report.specs.Asking.{number_of, refusal_number}
use Rattle.report.proofs.AskingKnown.{world_net, me_is, table_is, Read, holds, number_is, is_good, there, refuses}
use Rattle.report.specs.declared.Refusal.{Refusal}
use Rattle.report.specs.ReportsAnswers.{answer_of, output_of}
use Rattle.fields.specs.Output.{Writing, denied, fitting, fitting_unless, writing_number, writing_output}
use Rattle.report.specs.Steps.{report_in}

-- ---- a well-formed state
module _ (s : State) (z : Sized s) (t : T (state_holds s)) (a me : ℕ) (pe : me ≡ in_room a) (h : a < s.net.stations) where
  abbrev w : World
  w = world_of s

  pub report_is : report_in s.net (works_in (table_of s.net (station_in s me).counters)) me ≡ report_at w a
  unfolding report_in report_at
  report_is =
      ap₂ (λ (n : Network) (l : List ℕ). report n (works_in l) me) (sym (world_net s z t)) (sym (table_is s z t a me pe h))
      ∙ ap (λ (k : ℕ). report w.net (works_in (holding_at w a).table) k) (me_is s z t a me pe h)

module _ {s : State} {a : ℕ} {good : Bool} {me : ℕ} (old : List ℕ) where
  -- where no number refuses, what is written is what the world's words say
  module _ (r : Read s a good me 0) (working : ℕ) (we : working ≡ working_of s.net.links (station_in s me).counters) where
    abbrev new : List ℕ
    new = report_in s.net (in_word working) me

    same : fitting new old ≡ fitting_unless (number_of s a) (report_at (world_of s) a) old
    same =
        let b = eq-eqb (number_of s a) 0 (sym (number_is r)) in
        ap (λ (l : List ℕ). fitting l old)
        (ap (λ (works : ℕ → Bool). report_in s.net works me) (working_is s.net (station_in s me).counters working we)
        ∙ report_is s (r.sized (is_good r refl)) (holds r (is_good r refl)) a me r.place (there r refl))
        ∙ simp b

    pub answer_seen : (n : ℕ) → n ≡ writing_number (fitting new old) → n ≡ answer_of s a old
    unfolding answer_of
    answer_seen n e = e ∙ ap writing_number same

    pub output_seen : (out : List ℕ) → out ≡ writing_output (fitting new old) old → out ≡ output_of s a old
    unfolding output_of
    output_seen out e = e ∙ ap (λ (w : Writing). writing_output w old) same

  -- where one does
  module _ (e : Refusal) (r : Read s a good me (refusal_number e)) where
    refused : denied (refusal_number e) ≡ fitting_unless (number_of s a) (report_at (world_of s) a) old
    refused = let b = ne_eqb (number_of s a) 0 (λ z. refuses e (number_is r ∙ z)) in ap denied (number_is r) ∙ simp b

    pub answer_refused : refusal_number e ≡ answer_of s a old
    unfolding answer_of
    answer_refused = ap writing_number refused

    pub output_refused : old ≡ output_of s a old
    unfolding output_of
    output_refused = ap (λ (w : Writing). writing_output w old) refused
