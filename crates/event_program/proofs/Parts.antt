-- What each way out of `run_lines` gives; and the loop of `put_answers`.
use Rattle.std.specs.Prelude.{if◌then◌else◌, Result, Ok, Err}
use Prim.Native.Nat.{ℕ, zero, suc, ◌+◌, ◌*◌, ◌/◌, ◌≤◌, ◌<◌}
use mathlib.Core.Bool.{Bool, true, false}
use mathlib.Core.Path.{◌≡◌, refl, sym, ap, ap₂, ◌∙◌, subst, subst⁻¹}
use Rattle.std.specs.Simd.{first_chunks}
use mathlib.Core.List.{List, [], ◌∷◌, ◌++◌, append_assoc, append-nil}
use native.Mathlib.Decide.{dec_le}
use native.Mathlib.Omega.{arith}
use lib.ListN.{length, get_or, take, drop, length-append, length-drop, take-append-drop}
use lib.Seq.{take_at, drop_at, drop-drop, length-take-le}
use borrow.Author.Tests.{le-ltb, lt-ltb}
use Rattle.tally.specs.declared.Tally.{Tally}
use Rattle.fields.specs.Fields.{onto}
use Rattle.fields.specs.Output.{Writing, denied, writes, with_room, fitting, writing_output}
use Rattle.text.proofs.Puts.{put_fits, length_put}
use Rattle.event_lines.specs.declared.Reading.{Reading}
use Rattle.event_list.specs.declared.Listed.{Listed}
use Rattle.event_list.specs.declared.ListShort.{ListShort}
use Rattle.event_list.specs.Lines.{numbers_in, line_after, listing, listed_by}
use Rattle.event_list.proofs.Whole.{whole_events}
use Rattle.state.specs.declared.State.{State}
use Rattle.state.specs.State.{state_holds}
use Rattle.backlog_rules.specs.declared.Answered.{Answered}
use Rattle.backlog_rules.specs.Answers.{turns, tracing, answered_by}
use Rattle.backlog_rules.proofs.Threes.{three}
use Rattle.backlog_rules.proofs.Tracing.{turns_long}
use Rattle.console.specs.Outputs.{Counts, Put, wrote_by}
use Rattle.event_program.specs.declared.Ran.{Ran}
use Rattle.event_program.specs.Events.{answer_text}
use Rattle.event_program.specs.Runs.{running, ran_as, ran_by, answers_text, answers_most}

-- the trace of a piece's lines is as long as their numbers
pub trace_size_lem : (s : State) (t : Tally) (r : Reading) (bytes : List ℕ)
    → length (turns s t (numbers_in r bytes)) ≡ length (numbers_in r bytes)
trace_size_lem s t r bytes =
    let w = whole_events bytes r in
    turns_long (numbers_in r bytes) s t w.count (omega (arith, w.size)) (omega (arith, w.size)) ∙ sym w.size

-- ---- the ways out of `run_lines`
pub data Ways (s : State) (t : Tally) (es old : List ℕ) : Writing → Type 0 where
  eleven : Ways s t es old (denied 11)
  ten : Ways s t es old (denied 10)
  whole : length (turns s t es) ≤ length old → Ways s t es old (writes (turns s t es))

pub ways : (s : State) (t : Tally) (es old : List ℕ) → Ways s t es old (tracing s t es old)
unfolding tracing fitting
ways s t es old = go (state_holds s) (dec_le (length (turns s t es)) (length old))
  where
    go : (b : Bool) → Dec (length (turns s t es) ≤ length old)
        → Ways s t es old (if b then with_room (length (turns s t es)) (turns s t es) old else denied 11)
    go false d = eleven
    go true (yes h) = simp (le-ltb (length old) (length (turns s t es)) h) (whole h)
    go true (no h) = simp (lt-ltb (length old) (length (turns s t es)) (omega arith)) ten

counts_none : (xs : List ℕ) → Counts 0 xs
counts_none xs = (omega arith, refl)

module _ (s : State) (t : Tally) (r : Reading) (bytes list trace : List ℕ) where
  -- what it promises
  abbrev RanLines : Ran → List ℕ → List ℕ → Type 0
  RanLines n list' trace' =
      (n ≡ ran_by (running s t r bytes list trace) s t r bytes)
      × ((list' ≡ writing_output (listing r bytes list) list)
      × ((trace' ≡ writing_output (running s t r bytes list trace) trace) × Counts n.size trace'))

  module _ (list' : List ℕ) (filled : list' ≡ writing_output (listing r bytes list) list) where
    abbrev Says : Bool → Result Listed ListShort → Type 0
    Says short l = l ≡ listed_by (if short then denied 10 else writes (numbers_in r bytes)) r bytes

    -- the list is too short
    pub ran_unlisted : (x : ListShort) (k : ℕ) → Err x ≡ listed_by (listing r bytes list) r bytes → k ≡ 10
        → RanLines (ran_as k 0 r t s) list' trace
    unfolding listing running
    ran_unlisted x k said e = go (dec_le (3 * length bytes) (length list))
      where
        go : Dec (3 * length bytes ≤ length list) → RanLines (ran_as k 0 r t s) list' trace
        go (yes h) =
            let w : Says false (Err x) = subst (λ (b : Bool). Says b (Err x)) (le-ltb (length list) (3 * length bytes) h) said in cc
        go (no h) =
            let short = lt-ltb (length list) (3 * length bytes) (omega arith) in
            (ap (λ (n : ℕ). ran_as n 0 r t s) e ∙ sym (simp short), (filled, (sym (simp short), counts_none trace)))

    module _ (l : Listed) (said : Ok l ≡ listed_by (listing r bytes list) r bytes) where
      roomy : 3 * length bytes ≤ length list
      unfolding listing
      roomy = go (dec_le (3 * length bytes) (length list))
        where
          go : Dec (3 * length bytes ≤ length list) → 3 * length bytes ≤ length list
          go (yes h) = h
          go (no h) =
              let w : Says true (Ok l) =
              subst (λ (b : Bool). Says b (Ok l)) (lt-ltb (length list) (3 * length bytes) (omega arith)) said in cc

      is_listed : (l ≡ record { size = length (numbers_in r bytes); reading = line_after r bytes })
          × (list' ≡ onto (numbers_in r bytes) list)
      unfolding listing
      is_listed =
          let e = le-ltb (length list) (3 * length bytes) roomy in
          let w : Says false (Ok l) = subst (λ (b : Bool). Says b (Ok l)) e said in (
            cc,
            filled ∙ ap (λ (b : Bool). writing_output (if b then denied 10 else writes (numbers_in r bytes)) list) e,
          )

      is_running : running s t r bytes list trace ≡ tracing s t (numbers_in r bytes) trace
      unfolding running
      is_running =
          ap (λ (b : Bool). if b then denied 10 else tracing s t (numbers_in r bytes) trace) (le-ltb (length list) (3 * length bytes) roomy)

      size_is : l.size ≡ length (numbers_in r bytes)
      size_is = ap (λ (x : Listed). x.size) is_listed.0

      front : take l.size list' ≡ numbers_in r bytes
      front =
          let numbers = numbers_in r bytes in
          ap (take l.size) is_listed.1 ∙ take_at numbers (drop (length numbers) list) l.size (sym size_is)

      module _ (d : Answered) (trace' : List ℕ)
          (did : (d ≡ answered_by (tracing s t (take l.size list') trace) s t (take l.size list'))
          × (trace' ≡ writing_output (tracing s t (take l.size list') trace) trace)) where
        done : (d ≡ answered_by (tracing s t (numbers_in r bytes) trace) s t (numbers_in r bytes))
            × (trace' ≡ writing_output (tracing s t (numbers_in r bytes) trace) trace)
        done = (
          did.0 ∙ ap (λ (es : List ℕ). answered_by (tracing s t es trace) s t es) front,
          did.1 ∙ ap (λ (es : List ℕ). writing_output (tracing s t es trace) trace) front,
        )

        abbrev RanBy : Writing → Ran → Type 0
        RanBy w n =
            (n ≡ ran_by w s t r bytes)
            × ((list' ≡ writing_output (listing r bytes list) list) × ((trace' ≡ writing_output w trace) × Counts n.size trace'))

        -- where the call refuses, or does all
        pub ran_refused : (d.answer ≡ 0 → ⊥) → RanLines (ran_as d.answer 0 r d.tally d.state) list' trace'
        ran_refused q =
            subst⁻¹ (λ (w : Writing). RanBy w (ran_as d.answer 0 r d.tally d.state)) is_running
            (go (ways s t (numbers_in r bytes) trace) done.0 done.1)
          where
            go : {w : Writing} → Ways s t (numbers_in r bytes) trace w → d ≡ answered_by w s t (numbers_in r bytes)
                → trace' ≡ writing_output w trace → RanBy w (ran_as d.answer 0 r d.tally d.state)
            go eleven e o = (ap (λ (x : Answered). ran_as x.answer 0 r x.tally x.state) e, (filled, (o, counts_none trace')))
            go ten e o = (ap (λ (x : Answered). ran_as x.answer 0 r x.tally x.state) e, (filled, (o, counts_none trace')))
            go (whole h) e o = absurd (q (ap (λ (x : Answered). x.answer) e))

        pub ran_all : d.answer ≡ 0 → RanLines (ran_as 0 l.size l.reading d.tally d.state) list' trace'
        ran_all q =
            subst⁻¹ (λ (w : Writing). RanBy w (ran_as 0 l.size l.reading d.tally d.state)) is_running
            (go (ways s t (numbers_in r bytes) trace) done.0 done.1)
          where
            size : l.size ≡ length (turns s t (numbers_in r bytes))
            size = size_is ∙ sym (trace_size_lem s t r bytes)

            go : {w : Writing} → Ways s t (numbers_in r bytes) trace w → d ≡ answered_by w s t (numbers_in r bytes)
                → trace' ≡ writing_output w trace → RanBy w (ran_as 0 l.size l.reading d.tally d.state)
            go eleven e o = absurd (omega (arith, q, ap (λ (x : Answered). x.answer) e))
            go ten e o = absurd (omega (arith, q, ap (λ (x : Answered). x.answer) e))
            go (whole h) e o =
                let text = turns s t (numbers_in r bytes) in
                let within : l.size ≤ length trace' =
                omega (arith, size, ap length o ∙ length-append text (drop (length text) trace)) in (
                  (λ i. ran_as 0 (size i) (ap (λ (x : Listed). x.reading) is_listed.0 i) (e i).tally (e i).state),
                  (filled, (o, (within, sym (length-take-le l.size trace' within)))),
                )

-- ---- the numbers of event i, of a trace that is taken three at a time
event_at : (n i : ℕ) (trace : List ℕ) → i < n → get_or (first_chunks 3 n trace) i [] ≡ take 3 (drop (3 * i) trace)
event_at zero i trace h = elim h [ ]
event_at (suc n) zero trace h = refl
event_at (suc n) (suc i) trace h =
    event_at n i (drop 3 trace) (omega arith) ∙ ap (take 3) (drop-drop (3 * i) 3 trace ∙ ap (λ (k : ℕ). drop k trace) (omega arith))

event_is : (n i : ℕ) (trace : List ℕ) → i < n → 3 * n ≤ length trace
    → get_or (first_chunks 3 n trace) i [] ≡ get_or trace (3 * i) 0 ∷ get_or trace (3 * i + 1) 0 ∷ get_or trace (3 * i + 2) 0 ∷ []
event_is n i trace h l = event_at n i trace h ∙ ap (take 3) (three trace i (omega arith))

abbrev pub three_text : List ℕ → List ℕ
three_text event = answer_text (get_or event 0 0) (get_or event 1 0) (get_or event 2 0)

-- ---- the loop of `put_answers`: after i events
pub record Printing (trace old : List ℕ) (i at : ℕ) (out : List ℕ) : Type 0 where
  pub text : answers_text trace ≡ take at out ++ answers_text (drop (3 * i) trace)
  pub tail : drop at out ≡ drop at old
  pub size : length out ≡ length old
  pub few : at ≤ 63 * i

pub printing_begins : (trace old : List ℕ) → Printing trace old 0 0 old
printing_begins trace old = record { text = refl; tail = refl; size = refl; few = omega arith }

module _ (trace old : List ℕ) (i at : ℕ) (out : List ℕ) (p : Printing trace old i at out) (room : 21 * length trace ≤ length old) where
  pub printing_more : i < length trace / 3 → (n : ℕ) (new : List ℕ)
      → Put (three_text (get_or (first_chunks 3 (length trace / 3) trace) i [])) 63 at out n new → Printing trace old (i + 1) n new
  unfolding answers_text
  printing_more e n new put =
      let words = answer_text (get_or trace (3 * i) 0) (get_or trace (3 * i + 1) 0) (get_or trace (3 * i + 2) 0) in
      let h : 3 * i + 3 ≤ length trace = omega arith in
      let w : Put words 63 at out n new =
      subst (λ (l : List ℕ). Put (three_text l) 63 at out n new) (event_is (length trace / 3) i trace e (omega arith)) put in
      let later = drop (3 * (i + 1)) trace in
      let fits : at + length words ≤ length out = omega (arith, p.few, p.size, w.few) in
      let is : new ≡ (take at out ++ words) ++ drop (at + length words) out = w.output ∙ put_fits words at out fits in
      let front : length (take at out ++ words) ≡ n =
      length-append (take at out) words ∙ omega (arith, length-take-le at out (omega (arith, fits)), w.place) in
      record {
        text =
            p.text ∙ ap (λ (l : List ℕ). take at out ++ answers_text l) (three trace i h)
            ∙ sym (append_assoc (take at out) words (answers_text later))
            ∙ ap (λ (l : List ℕ). l ++ answers_text later)
            (sym (ap (take n) is ∙ take_at (take at out ++ words) (drop (at + length words) out) n front));
        tail =
            ap (drop n) is ∙ drop_at (take at out ++ words) (drop (at + length words) out) n front
            ∙ sym (drop-drop (length words) at out) ∙ ap (drop (length words)) p.tail ∙ drop-drop (length words) at old
            ∙ ap (λ (k : ℕ). drop k old) (sym w.place);
        size = ap length w.output ∙ length_put words at out ∙ p.size;
        few = omega (arith, w.place, w.few, p.few);
      }

  -- fewer than three numbers are no event
  no_more : (l : List ℕ) → length l < 3 → answers_text l ≡ []
  unfolding answers_text
  no_more [] h = refl
  no_more (x ∷ []) h = refl
  no_more (x ∷ y ∷ []) h = refl
  no_more (x ∷ y ∷ z ∷ l) h = absurd (never h)
    where
      never : length (x ∷ y ∷ z ∷ l) < 3 → ⊥
      never h = omega arith

  pub printing_done : i ≡ length trace / 3
      → (Ok at ≡ wrote_by (with_room (answers_most trace) (answers_text trace) old))
      × ((out ≡ writing_output (with_room (answers_most trace) (answers_text trace) old) old) × Counts at out)
  printing_done e =
      let none : answers_text (drop (3 * i) trace) ≡ [] = no_more (drop (3 * i) trace) (omega (arith, length-drop (3 * i) trace)) in
      let all : answers_text trace ≡ take at out = p.text ∙ ap (λ (l : List ℕ). take at out ++ l) none ∙ append-nil (take at out) in
      let within : at ≤ length out = omega (arith, p.few, p.size) in
      let count : at ≡ length (answers_text trace) = sym (ap length all ∙ length-take-le at out within) in
      simp (le-ltb (length old) (21 * length trace) room) (
        ap Ok count,
        (
          sym (take-append-drop at out) ∙ ap₂ (λ (x y : List ℕ). x ++ y) (sym all) (p.tail ∙ ap (λ (k : ℕ). drop k old) count),
          (within, sym (length-take-le at out within)),
        ),
      )
