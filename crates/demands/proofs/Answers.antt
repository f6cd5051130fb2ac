-- ONE ANSWER for each of the eleven calls: part of the demands (Demands.antt), which hands it on.
use Rattle.std.specs.Prelude.{if◌then◌else◌, eqb, Result, Ok, Err}
use Prim.Native.Nat.{ℕ}
use mathlib.Core.Path.{◌≡◌, refl, sym, ap, ◌∙◌}
use mathlib.Core.List.{List}
use Rattle.tally.specs.declared.Tally.{Tally}
use Rattle.net.specs.declared.Letter.{Letter}
use Rattle.net.specs.declared.Net.{Net}
use Rattle.sheet.specs.Sheet.{read_sheet}
use Rattle.sheet.proofs.ValueLaws as SheetOne
use Rattle.letters.proofs.Refusals as LetterOne
use Rattle.reach.specs.declared.Reached.{Reached}
use Rattle.report.specs.declared.Refusal.{Refusal}
use Rattle.report.specs.declared.Refusal.TheVariants.{BadState, NoStation, NotLive, OutputShort}
use Rattle.report.specs.Asking.{number_in}
use Rattle.report.specs.Answers.{Asked, asked_in}
use Rattle.world.specs.World.{Event}
use Rattle.state.specs.declared.State.{State}
use Rattle.demands.specs.Calls.{ReadsSheet, WritesSheet, ReadsLetter, WritesLetter, Begins, Steps, StepsCounted}
use Rattle.demands.specs.Calls.{TakesBacklog, RunsAnswered, AsksReach, AsksReport}

-- ---- what the reach and the report answer is told by its number, and on 0 by the reach
abbrev refusal_at : ℕ → Refusal
refusal_at n = if eqb n 11 then BadState else (if eqb n 6 then NoStation else (if eqb n 7 then NotLive else OutputShort))

one_reach : (r q : Result Reached Refusal) → asked_in r ≡ asked_in q → r ≡ q
one_reach r q e = sym (is r) ∙ ap back e ∙ is q
  where
    back : Asked → Result Reached Refusal
    back x = if eqb x.answer 0 then Ok x.reached else Err (refusal_at x.answer)

    is : (x : Result Reached Refusal) → back (asked_in x) ≡ x
    is (Ok x) = refl
    is (Err BadState) = refl
    is (Err NoStation) = refl
    is (Err NotLive) = refl
    is (Err OutputShort) = refl

one_report : (r q : Result (Unit {0}) Refusal) → number_in r ≡ number_in q → r ≡ q
one_report r q e = sym (is r) ∙ ap back e ∙ is q
  where
    back : ℕ → Result (Unit {0}) Refusal
    back n = if eqb n 0 then Ok tt else Err (refusal_at n)

    is : (x : Result (Unit {0}) Refusal) → back (number_in x) ≡ x
    is (Ok x) = refl
    is (Err BadState) = refl
    is (Err NoStation) = refl
    is (Err NotLive) = refl
    is (Err OutputShort) = refl

-- ONE ANSWER. Document 01: "Prove that two answers allowed for one input are equal."
pub record OneAnswer : Type 0 where
  pub reads_sheet : (bytes : List ℕ) (c d : ReadsSheet bytes) → c.answer ≡ d.answer
  pub writes_sheet : (net : Net) (old : List ℕ) (c d : WritesSheet net old) → (c.answer ≡ d.answer) × (c.output ≡ d.output)
  pub reads_letter : (net : Net) (bytes : List ℕ) (c d : ReadsLetter net bytes) → c.answer ≡ d.answer
  pub writes_letter : (net : Net) (x : Letter) (old : List ℕ) (c d : WritesLetter net x old)
      → (c.answer ≡ d.answer) × (c.output ≡ d.output)
  pub begins : (net : Net) (c d : Begins net) → c.answer ≡ d.answer
  pub steps : (s : State) (e : Event) (c d : Steps s e) → c.answer ≡ d.answer
  pub steps_counted : (before : Tally) (s : State) (e : Event) (c d : StepsCounted before s e)
      → (c.answer ≡ d.answer) × (c.tally ≡ d.tally)
  pub takes_backlog : (before : Tally) (s : State) (events : List ℕ) (c d : TakesBacklog before s events)
      → (c.answer ≡ d.answer) × (c.tally ≡ d.tally)
  pub runs_answered : (before : Tally) (s : State) (events old : List ℕ) (c d : RunsAnswered before s events old)
      → (c.answer ≡ d.answer) × ((c.tally ≡ d.tally) × (c.trace ≡ d.trace))
  pub asks_reach : (s : State) (a : ℕ) (c d : AsksReach s a) → c.answer ≡ d.answer
  pub asks_report : (s : State) (a : ℕ) (old : List ℕ) (c d : AsksReport s a old) → (c.answer ≡ d.answer) × (c.output ≡ d.output)

pub one_answer : OneAnswer
one_answer =
    record {
      reads_sheet = λ bytes c d. SheetOne.one_answer c.answer d.answer (read_sheet bytes) c.promise d.promise;
      writes_sheet = λ net old c d.
          (SheetOne.one_wrote c.answer d.answer (c.promise ∙ sym d.promise), c.promise_output ∙ sym d.promise_output);
      reads_letter = λ net bytes c d. LetterOne.one_answer c.answer d.answer (c.promise ∙ sym d.promise);
      writes_letter = λ net x old c d.
          (LetterOne.one_wrote c.answer d.answer (c.promise ∙ sym d.promise), c.promise_output ∙ sym d.promise_output);
      begins = λ net c d. c.promise ∙ sym d.promise;
      steps = λ s e c d. c.promise ∙ sym d.promise;
      steps_counted = λ t s e c d. (c.promise ∙ sym d.promise, c.promise_tally ∙ sym d.promise_tally);
      takes_backlog = λ t s events c d. (c.promise ∙ sym d.promise, c.promise_tally ∙ sym d.promise_tally);
      runs_answered = λ t s events old c d. (
        c.promise ∙ sym d.promise,
        (c.promise_tally ∙ sym d.promise_tally, c.promise_trace ∙ sym d.promise_trace),
      );
      asks_reach = λ s a c d. one_reach c.answer d.answer (c.promise ∙ sym d.promise);
      asks_report = λ s a old c d.
          (one_report c.answer d.answer (c.promise ∙ sym d.promise), c.promise_output ∙ sym d.promise_output);
    }
