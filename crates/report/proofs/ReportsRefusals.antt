-- Each number that says no to the report, when and only when document 01's list says, in the words of the state that is asked; so
-- a report is given exactly if none of the list's reasons stands. For every state, station and lent output.
use Prim.Native.Nat.{ℕ, ◌+◌, ◌≤◌, ◌<◌}
use mathlib.Core.Path.{◌≡◌, sym, ap, ◌∙◌, subst⁻¹}
use mathlib.Core.Logic.{◌↔◌}
use mathlib.Core.List.{List, ◌++◌}
use native.Mathlib.Decide.{dec_lt, ℕ_discrete}
use native.Mathlib.Omega.{arith}
use borrow.Author.Tests.{eq-eqb, ne_eqb, lt-ltb, le-ltb}
use lib.Dec.{T}
use lib.ListN.{length, drop}
use Rattle.fields.specs.Output.{fitting, fitting_unless}
use Rattle.net.specs.Network.{Network}
use Rattle.world.specs.World.{report_at}
use Rattle.world.proofs.Reports as R
use Rattle.state.specs.declared.State.{State}
use Rattle.state.specs.State.{world_of, state_holds}
use Rattle.report.specs.Asking.{number_of}
use Rattle.report.proofs.Refusals.{Asks, net_is, stations_are, links_are, Why, none, number_why, why_number, asks}
use Rattle.report.specs.ReportsAnswers.{answer_of, output_of}
use Rattle.report.proofs.Output.{denied_keeps}

-- how many bytes a report has
abbrev pub size : State → ℕ
size s = s.net.stations + s.net.links

module _ (s : State) (t : T (state_holds s)) where
  pub report_size_lem : (a : ℕ) → length (report_at (world_of s) a) ≡ size s
  report_size_lem a =
      R.report_length (world_of s) a ∙ ap (λ (n : Network). n.stations + length n.links) (net_is s)
      ∙ omega (arith, stations_are s t, links_are s t)

-- ---- 11, 6 and 7, which the reach has too, and 10
module _ (s : State) (a : ℕ) (old : List ℕ) where
  pub data ReportWhy : ℕ → Type 0 where
    given : Asks s a → size s ≤ length old → ReportWhy 0
    refused : {n : ℕ} → Why s a n → (n ≡ 0 → ⊥) → ReportWhy n
    ten : Asks s a → length old < size s → ReportWhy 10

  abbrev new : List ℕ
  new = report_at (world_of s) a

  pub why_report : {n : ℕ} → ReportWhy n → answer_of s a old ≡ n
  unfolding answer_of fitting
  why_report (given k h) =
      let b = eq-eqb (number_of s a) 0 (why_number s a (none k)) in
      let l = le-ltb (length old) (length new) (omega (arith, report_size_lem s k.good a)) in
      simp (b, l)
  why_report (refused x p) =
      let e = why_number s a x in
      let b = ne_eqb (number_of s a) 0 (λ q. p (sym e ∙ q)) in
      simp b e
  why_report (ten k h) =
      let b = eq-eqb (number_of s a) 0 (why_number s a (none k)) in
      let l = lt-ltb (length old) (length new) (omega (arith, report_size_lem s k.good a)) in
      simp (b, l)

  pub report_why : ReportWhy (answer_of s a old)
  report_why = go (ℕ_discrete (number_of s a) 0) (dec_lt (length old) (size s))
    where
      is : {n : ℕ} → ReportWhy n → ReportWhy (answer_of s a old)
      is x = subst⁻¹ ReportWhy (why_report x) x

      go : Dec (number_of s a ≡ 0) → Dec (length old < size s) → ReportWhy (answer_of s a old)
      go (yes p) (yes l) = is (ten (asks s a p) l)
      go (yes p) (no l) = is (given (asks s a p) (omega arith))
      go (no p) d = is (refused (number_why s a) p)

  -- THE REPORT IS GIVEN EXACTLY IF the state is well formed, the station is there and live, and the output has room for it
  pub accepted_when : (answer_of s a old ≡ 0) ↔ (Asks s a × (size s ≤ length old))
  accepted_when = ((λ q. go report_why q), (λ p. why_report (given p.0 p.1)))
    where
      go : {n : ℕ} → ReportWhy n → n ≡ 0 → Asks s a × (size s ≤ length old)
      go (given k h) e = (k, h)
      go (refused x p) e = absurd (p e)
      go (ten k h) e = absurd (omega arith)

  -- a refusal touches no byte
  pub refused_keeps : (answer_of s a old ≡ 0 → ⊥) → output_of s a old ≡ old
  unfolding answer_of output_of
  refused_keeps h = denied_keeps (fitting_unless (number_of s a) new old) old h

  -- where it is given, its bytes stand over the front
  pub written_is : Asks s a → size s ≤ length old → output_of s a old ≡ new ++ drop (length new) old
  unfolding output_of fitting
  written_is k h =
      let b = eq-eqb (number_of s a) 0 (why_number s a (none k)) in
      let l = le-ltb (length old) (length new) (omega (arith, report_size_lem s k.good a)) in
      simp (b, l)
