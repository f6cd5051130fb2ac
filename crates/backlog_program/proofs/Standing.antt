-- Between two pieces of the input: where the code stands, beside the calls over the whole list so far, from one state and tally. They agree
-- in all but the reading of the line under way, once an answer was not 0: the code then reads no further.
use Prim.Native.Nat.{ℕ, ◌+◌}
use mathlib.Core.Path.{◌≡◌, refl, sym, ap, ◌∙◌, subst, subst⁻¹}
use mathlib.Core.List.{List, [], ◌∷◌, ◌++◌, append_assoc, append-nil}
use native.Mathlib.Decide.{ℕ_discrete}
use native.Mathlib.Omega.{arith}
use lib.ListN.{length-append}
use borrow.Author.Tests.{eq-eqb, ne_eqb}
use Rattle.tally.specs.declared.Tally.{Tally}
use Rattle.tally.specs.Sums.{added}
use Rattle.tally.proofs.Sums.{added_twice}
use Rattle.event_lines.specs.declared.Reading.{Reading}
use Rattle.event_lines.specs.Begun.{is_begun}
use Rattle.event_lines.specs.Steps.{start, read_on, line_end}
use Rattle.state.specs.declared.State.{State}
use Rattle.step_rules.proofs.Bridge.{Good}
use Rattle.backlog_rules.specs.declared.Taken.{Taken}
use Rattle.backlog_rules.specs.Backlog.{calls, backlog_of}
use Rattle.backlog_rules.proofs.Laws.{good_state}
use Rattle.backlog_rules.proofs.Joining.{then_calls, calls_joined, calls_good, stopped_whole}
use Rattle.console.specs.Feeding.{closing_by, pieces_read, pieces_text, whole_text}
use Rattle.event_list.specs.Lines.{passes, lists, numbers_in, line_after}
use Rattle.event_list.proofs.Whole.{Threes, whole_events}
use Rattle.backlog_program.specs.declared.Ran.{Ran}
use Rattle.backlog_program.specs.Backlog.{taken_text}
use Rattle.backlog_program.specs.Runs.{ran_on}
use Rattle.backlog_program.specs.Calls.{ran_after, pieces_ran, whole_ran, ran_text}

-- the count has 64 bits
abbrev pub ran_of : Taken → Reading → Ran
ran_of y r = record { answer = y.answer; taken = added 0 y.taken; reading = r; tally = y.tally; state = y.state }

-- the numbers of any number of pieces, and the reading behind them
abbrev numbers_all : Reading → List (List ℕ) → List ℕ
numbers_all r pieces = pieces_text start read_on line_end passes lists tt r pieces

abbrev line_all : Reading → List (List ℕ) → Reading
line_all r pieces = pieces_read start read_on line_end passes lists tt r pieces

-- ---- one piece
ran_stays : (n : Ran) (bytes : List ℕ) → (n.answer ≡ 0 → ⊥) → ran_after n bytes ≡ n
unfolding ran_after
ran_stays n bytes h = simp (ne_eqb n.answer 0 h)

ran_goes : (n : Ran) (bytes : List ℕ) → n.answer ≡ 0
    → ran_after n bytes ≡ ran_on n (line_after n.reading bytes) (backlog_of n.state n.tally (numbers_in n.reading bytes))
unfolding ran_after
ran_goes n bytes z = simp (eq-eqb n.answer 0 z)

module _ (s : State) (t : Tally) (g : Good s) where
  -- xs: the numbers of all lines so far, r: how far the next one is read
  pub record Stands (xs : List ℕ) (r : Reading) (n : Ran) : Type 0 where
    pub line : Reading
    pub same : n ≡ ran_of (calls s t xs) line
    pub reading : (calls s t xs).answer ≡ 0 → line ≡ r
    pub whole : Threes xs

  -- some bytes more; only where the answer is 0 it matters which
  module _ (xs : List ℕ) (r : Reading) (n : Ran) (a : Stands xs r n) (bytes given : List ℕ)
      (alike : (calls s t xs).answer ≡ 0 → given ≡ bytes) where
    abbrev y : Taken
    y = calls s t xs

    abbrev more : List ℕ
    more = numbers_in r bytes

    threes : Threes (xs ++ more)
    threes =
        let w = whole_events bytes r in
        record { count = a.whole.count + w.count; size = length-append xs more ∙ omega (arith, a.whole.size, w.size) }

    -- the call over the numbers of this piece goes on from what the calls so far left
    goes_on : y.answer ≡ 0 → ran_after n given ≡ ran_of (calls s t (xs ++ more)) (line_after r bytes)
    goes_on z =
        let here : n ≡ ran_of y r = a.same ∙ ap (ran_of y) (a.reading z) in
        let x = calls y.state y.tally more in
        let sums : ran_on (ran_of y r) (line_after r bytes) x ≡ ran_of (then_calls y more) (line_after r bytes) =
        λ i. record {
          answer = x.answer;
          taken = added_twice 0 y.taken x.taken i;
          reading = line_after r bytes;
          tally = x.tally;
          state = x.state;
        } in
        (λ i. ran_after (here i) (alike z i))
        ∙ ran_goes (ran_of y r) bytes z
        ∙ ap (ran_on (ran_of y r) (line_after r bytes)) (good_state y.state y.tally more (calls_good s t xs g).holds)
        ∙ sums
        ∙ ap (λ (u : Taken). ran_of u (line_after r bytes)) (sym (calls_joined s t xs more z))

    -- or nothing is taken any more
    stays : (y.answer ≡ 0 → ⊥) → calls s t (xs ++ more) ≡ y
    stays h = stopped_whole s t xs more a.whole.count a.whole.size h

    stands_more : Stands (xs ++ more) (line_after r bytes) (ran_after n given)
    stands_more = go (ℕ_discrete y.answer 0)
      where
        go : Dec (y.answer ≡ 0) → Stands (xs ++ more) (line_after r bytes) (ran_after n given)
        go (yes z) = record { line = line_after r bytes; same = goes_on z; reading = λ e. refl; whole = threes }
        go (no h) =
            record {
              line = a.line;
              same =
                  ran_stays n given (λ z. h (sym (ap (λ (m : Ran). m.answer) a.same) ∙ z)) ∙ a.same
                  ∙ ap (λ (u : Taken). ran_of u a.line) (sym (stays h));
              reading = λ z. absurd (h (ap (λ (u : Taken). u.answer) (sym (stays h)) ∙ z));
              whole = threes;
            }

  -- ---- any number of pieces
  stands_all : (pieces : List (List ℕ)) (xs : List ℕ) (r : Reading) (n : Ran) → Stands xs r n
      → Stands (xs ++ numbers_all r pieces) (line_all r pieces) (pieces_ran n pieces)
  unfolding pieces_text pieces_read pieces_ran
  stands_all [] xs r n a = subst⁻¹ (λ (l : List ℕ). Stands l r n) (append-nil xs) a
  stands_all (p ∷ pieces) xs r n a =
      subst (λ (l : List ℕ). Stands l (line_all (line_after r p) pieces) (pieces_ran (ran_after n p) pieces))
      (append_assoc xs (numbers_in r p) (numbers_all (line_after r p) pieces))
      (stands_all pieces (xs ++ numbers_in r p) (line_after r p) (ran_after n p) (stands_more xs r n a p p (λ z. refl)))

  -- ---- the whole input: at its end a line that is begun ends too
  pub stands_whole : (pieces : List (List ℕ)) (n : Ran) → Stands [] start n
      → ran_text (whole_ran n pieces) ≡ taken_text (calls s t (whole_text start read_on line_end passes lists is_begun tt pieces))
  unfolding whole_text whole_ran
  stands_whole pieces n a =
      let all = stands_all pieces [] start n a in
      let last : Reading → List ℕ = λ q. closing_by (is_begun q) in
      ap ran_text (stands_more (numbers_all start pieces) (line_all start pieces) (pieces_ran n pieces) all (last (line_all start pieces))
      (last (pieces_ran n pieces).reading) (λ z. ap last (ap (λ (m : Ran). m.reading) all.same ∙ all.reading z))).same
