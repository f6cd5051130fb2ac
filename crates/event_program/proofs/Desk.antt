-- The event program line by line: what is held between two lines, what a line does to it and what is printed for it. A run with answers
-- over the lines that end in some bytes does and prints the same.
use Prim.Native.Nat.{ℕ}
use mathlib.Core.Path.{◌≡◌, sym, ap, ◌∙◌}
use mathlib.Core.List.{List, [], ◌∷◌, ◌++◌}
use native.Mathlib.Decide.{ℕ_discrete}
use lib.ListN.{get_or}
use Rattle.tally.specs.declared.Tally.{Tally}
use Rattle.event_lines.specs.declared.Reading.{Reading}
use Rattle.event_lines.specs.Steps.{start, read_on, line_end}
use Rattle.event_list.specs.Lines.{numbers_in, line_after}
use Rattle.event_list.proofs.Whole.{at_end, at_newline, at_other, no_bytes, newline, other_byte}
use Rattle.state.specs.declared.State.{State}
use Rattle.step_rules.specs.declared.Stepped.{Stepped}
use Rattle.step_rules.specs.Step.{stepped_of}
use Rattle.step_rules.specs.Counting.{tallied_by}
use Rattle.backlog_rules.specs.Answers.{turns, last_state, last_tally}
use Rattle.console.specs.Feeding.{held_after, read_after, text_after}
use Rattle.event_program.specs.Events.{answer_text}
use Rattle.event_program.specs.Runs.{answers_text}

-- what is held between two lines
pub record Desk : Type 0 where
  pub state : State
  pub tally : Tally

abbrev pub desk_of : State → Tally → Desk
desk_of s t = record { state = s; tally = t }

-- the step of the event that a line's numbers name
abbrev pub step_by : State → List ℕ → Stepped
step_by s said = stepped_of s (get_or said 1 0) (get_or said 2 0) (get_or said 3 0)

-- what a line does, and what is printed for it
unfoldable pub acted : Desk → List ℕ → Desk
acted d said =
    let x = step_by d.state said in
    record { state = x.state; tally = tallied_by x d.tally }

unfoldable pub spoken : Desk → List ℕ → List ℕ
spoken d said = answer_text (step_by d.state said).answer (acted d said).state.flying (acted d said).tally.settled

-- after some bytes, from a desk and the reading of a line under way
abbrev pub desk_after : Desk → Reading → List ℕ → Desk
desk_after = held_after start read_on line_end acted spoken

abbrev pub read_at : Desk → Reading → List ℕ → Reading
read_at = read_after start read_on line_end acted spoken

abbrev pub texts : Desk → Reading → List ℕ → List ℕ
texts = text_after start read_on line_end acted spoken

-- ---- the run over the lines' numbers is the lines one after the other
abbrev last_desk : State → Tally → List ℕ → Desk
last_desk s t numbers = desk_of (last_state s numbers) (last_tally s t numbers)

pub record SameLines (s : State) (t : Tally) (r : Reading) (bytes : List ℕ) : Type 0 where
  pub desk : desk_after (desk_of s t) r bytes ≡ last_desk s t (numbers_in r bytes)
  pub read : read_at (desk_of s t) r bytes ≡ line_after r bytes
  pub text : texts (desk_of s t) r bytes ≡ answers_text (turns s t (numbers_in r bytes))

module _ (s : State) (t : Tally) (r : Reading) where
  none : SameLines s t r []
  unfolding turns last_state last_tally answers_text
  none =
      let w = at_end acted spoken (desk_of s t) r in
      record {
        desk = w.0 ∙ sym (ap (last_desk s t) (no_bytes r).0);
        read = w.1 ∙ sym (no_bytes r).1;
        text = w.2 ∙ sym (ap (λ (l : List ℕ). answers_text (turns s t l)) (no_bytes r).0);
      }

  -- the line ends: its step stands first in the run
  ends : (b : ℕ) (bytes : List ℕ) → b ≡ 10
      → SameLines (acted (desk_of s t) (line_end r)).state (acted (desk_of s t) (line_end r)).tally start bytes
      → SameLines s t r (b ∷ bytes)
  unfolding turns last_state last_tally answers_text acted spoken
  ends b bytes h v =
      let w = at_newline acted spoken (desk_of s t) r b bytes h in
      let l = newline r b bytes h in
      record {
        desk = w.0 ∙ v.desk ∙ sym (ap (last_desk s t) l.0);
        read = w.1 ∙ v.read ∙ sym l.1;
        text =
            w.2 ∙ ap (λ (x : List ℕ). spoken (desk_of s t) (line_end r) ++ x) v.text
            ∙ sym (ap (λ (x : List ℕ). answers_text (turns s t x)) l.0);
      }

  goes_on : (b : ℕ) (bytes : List ℕ) → (b ≡ 10 → ⊥) → SameLines s t (read_on r b) bytes → SameLines s t r (b ∷ bytes)
  goes_on b bytes h v =
      let w = at_other acted spoken (desk_of s t) r b bytes h in
      let l = other_byte r b bytes h in
      record {
        desk = w.0 ∙ v.desk ∙ sym (ap (last_desk s t) l.0);
        read = w.1 ∙ v.read ∙ sym l.1;
        text = w.2 ∙ v.text ∙ sym (ap (λ (x : List ℕ). answers_text (turns s t x)) l.0);
      }

pub same_lines : (bytes : List ℕ) (s : State) (t : Tally) (r : Reading) → SameLines s t r bytes
same_lines [] s t r = none s t r
same_lines (b ∷ bytes) s t r =
    let d = acted (desk_of s t) (line_end r) in
    go (ℕ_discrete b 10) (same_lines bytes d.state d.tally start) (same_lines bytes s t (read_on r b))
  where
    go : Dec (b ≡ 10) → SameLines (acted (desk_of s t) (line_end r)).state (acted (desk_of s t) (line_end r)).tally start bytes
        → SameLines s t (read_on r b) bytes → SameLines s t r (b ∷ bytes)
    go (yes h) w v = ends s t r b bytes h w
    go (no h) w v = goes_on s t r b bytes h v
