-- A malformed line: there is no kind 0, so that it is refused as 6, and what was taken are the lines before it.
use Prim.Native.Nat.{ℕ}
use mathlib.Core.Path.{◌≡◌, refl, ap, ◌∙◌}
use mathlib.Core.List.{List, [], ◌∷◌, ◌++◌}
use native.Mathlib.Omega.{arith}
use Rattle.lists.proofs.Places.{collect_append}
use Rattle.tally.specs.declared.Tally.{Tally}
use Rattle.station.specs.Events.{due_of}
use Rattle.world.specs.World.{exists, comes, refusal}
use Rattle.state.specs.declared.State.{State}
use Rattle.state.specs.State.{world_of}
use Rattle.step_rules.specs.Step.{event, stepped_of}
use Rattle.step_rules.proofs.Bridge.{Good, is_step}
use Rattle.backlog_rules.specs.Backlog.{stopping, and_before, backlog_of}
use Rattle.backlog_rules.proofs.Laws.{good_state, one_refused}
use Rattle.backlog_rules.proofs.Joining.{joined, backlog_good}
use Rattle.event_list.specs.Lines.{three_of}
use Rattle.backlog_program.specs.Backlog.{numbers_of}

-- a line that says 6 alone (crate `event_lines`, event_line)
abbrev malformed : List ℕ
malformed = 6 ∷ []

module _ (s : State) (t : Tally) (g : Good s) where
  no_kind : refusal (world_of s) (event 0 0 0) ≡ 6
  unfolding refusal comes exists due_of
  no_kind = refl

  malformed_refused : (es : List ℕ) → backlog_of s t (three_of malformed ++ es) ≡ stopping 6 t s
  malformed_refused es =
      let r = stepped_of s 0 0 0 in
      let six : r.answer ≡ 6 = (is_step s 0 0 0 g).number ∙ no_kind in
      good_state s t (three_of malformed ++ es) g.holds ∙ one_refused s t 0 0 0 es r refl (λ z. omega arith)
      ∙ ap (λ (n : ℕ). stopping n t s) six

-- MALFORMED: where all lines before it are taken, the call stops at it with 6; it counts and changes nothing, and no line behind it does
pub malformed_stops : (s : State) (t : Tally) → Good s → (lines others : List (List ℕ)) → (backlog_of s t (numbers_of lines)).answer ≡ 0
    → let r = backlog_of s t (numbers_of lines) in
    backlog_of s t (numbers_of (lines ++ malformed ∷ others)) ≡ and_before r.taken (stopping 6 r.tally r.state)
malformed_stops s t g lines others z =
    let r = backlog_of s t (numbers_of lines) in
    ap (backlog_of s t) (collect_append three_of lines (malformed ∷ others))
    ∙ joined s t (numbers_of lines) (numbers_of (malformed ∷ others)) g.sized z
    ∙ ap (and_before r.taken) (malformed_refused r.state r.tally (backlog_good s t g (numbers_of lines)) (numbers_of others))
