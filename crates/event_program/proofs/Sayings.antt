-- What is printed for a line, in other words of document 01: a malformed line, and the notices settled so far.
use Rattle.std.specs.Prelude.{if◌then◌else◌}
use Prim.Native.Nat.{ℕ, ◌-◌, ◌*◌, ◌≤◌}
use mathlib.Core.Bool.{Bool}
use mathlib.Core.Path.{◌≡◌, refl, sym, ap, ap₂, ◌∙◌}
use mathlib.Core.List.{List, [], ◌∷◌, ◌++◌, map, append_assoc}
use native.Mathlib.Omega.{arith}
use lib.ListN.{length, take, drop, take-append-drop}
use lib.Seq.{length-take-le}
use borrow.Author.Tests.{le-ltb}
use Rattle.fields.specs.Output.{denied, writes, with_room, fitting}
use Rattle.tally.specs.declared.Tally.{Tally}
use Rattle.tally.specs.Sums.{added}
use Rattle.event_list.specs.Lines.{numbers_in}
use Rattle.event_list.proofs.Whole.{numbers_few}
use Rattle.state.specs.State.{state_holds}
use Rattle.backlog_rules.specs.Answers.{turns, tracing}
use Rattle.station.specs.Events.{due_of}
use Rattle.world.specs.World.{World, exists, comes, refusal}
use Rattle.world.specs.History.{run, ever_settled}
use Rattle.world.proofs.Steps.{is_refused, step_refuses}
use Rattle.laws.specs.Tallied.{accepted_counts, tally_by, tally_after}
use Rattle.tally.proofs.Sums.{Fits}
use Rattle.laws.proofs.Tallies.{tally_is_history}
use Rattle.event_program.specs.Events.{Standing, event_by, answer_text, done, printed_for, done_all}
use Rattle.event_program.specs.declared.Ran.{Ran}
use Rattle.event_program.specs.Runs.{running, answers_text, answers_most}
use Rattle.event_program.specs.Calls.{traced}
use Rattle.event_program.proofs.Parts.{trace_size_lem}

-- ---- a malformed line names no event
no_kind : (w : World) → refusal w (event_by (6 ∷ [])) ≡ 6
unfolding refusal exists comes due_of
no_kind w = refl

none_taken : (w : World) → refusal w (event_by (6 ∷ [])) ≡ 0 → ⊥
none_taken w z = omega (arith, no_kind w)

-- it changes nothing, and prints 6 with the two standing numbers
pub malformed_stays : (st : Standing) → done st (event_by (6 ∷ [])) ≡ st
unfolding done
malformed_stays st =
    let o = none_taken st.world in
    let e = event_by (6 ∷ []) in
    λ i. record {
      world = step_refuses st.world e o i;
      tally = ap (λ (x : Bool). tally_by x st.tally (accepted_counts st.world e)) (is_refused st.world e o) i;
    }

pub malformed : (st : Standing) → printed_for st (event_by (6 ∷ [])) ≡ answer_text 6 (length st.world.letters) st.tally.settled
unfolding printed_for
malformed st =
    ap₂ (λ (n : ℕ) (x : Standing). answer_text n (length x.world.letters) x.tally.settled)
    (no_kind st.world) (malformed_stays st)

-- ---- lines are a history
pub world_after : (said : List (List ℕ)) (st : Standing) → (done_all st said).world ≡ run st.world (map event_by said)
unfolding done_all run done
world_after [] st = refl
world_after (x ∷ said) st = world_after said (done st (event_by x))

pub tally_after_lem : (said : List (List ℕ)) (st : Standing) → (done_all st said).tally ≡ tally_after st.tally st.world (map event_by said)
unfolding done_all tally_after done
tally_after_lem [] st = refl
tally_after_lem (x ∷ said) st = tally_after_lem said (done st (event_by x))

-- THE SETTLED NUMBER is the history's count of notices taken off by events 7 and 8, and stays at its largest value once there
pub settled_so_far : (said : List (List ℕ)) (st : Standing) → Fits st.tally
    → (done_all st said).tally.settled ≡ added st.tally.settled (ever_settled st.world (map event_by said))
settled_so_far said st f =
    ap (λ (t : Tally). t.settled) (tally_after_lem said st ∙ tally_is_history st.tally st.world (map event_by said) f)

-- ---- three places of list and of trace for each byte of a piece, and 21 bytes of output for each number that is printed at a time, are
-- enough: 10 is never said. `events` lends 49,152 places for at most 16,384 bytes, and 64,512 bytes for at most 3,072 numbers; `page`
-- 24,576 places for at most 8,192 bytes
pub room_enough : (n : Ran) (bytes list trace : List ℕ) → 3 * length bytes ≤ length list → 3 * length bytes ≤ length trace
    → running n.state n.tally n.reading bytes list trace ≡ traced n bytes
unfolding running tracing fitting traced
room_enough n bytes list trace h e =
    let numbers = numbers_in n.reading bytes in
    let few : length numbers ≤ 3 * length bytes = numbers_few bytes n.reading in
    let all = turns n.state n.tally numbers in
    ap (λ (b : Bool). if b then denied 10 else (if state_holds n.state then with_room (length all) all trace else denied 11))
    (le-ltb (length list) (3 * length bytes) h)
    ∙ ap (λ (b : Bool). if state_holds n.state then (if b then denied 10 else writes all) else denied 11)
    (le-ltb (length trace) (length all) (omega (arith, few, trace_size_lem n.state n.tally n.reading bytes)))

pub output_enough : (trace out : List ℕ) → 21 * length trace ≤ length out
    → with_room (answers_most trace) (answers_text trace) out ≡ writes (answers_text trace)
output_enough trace out h = simp (le-ltb (length out) (21 * length trace) h)

-- so for a piece of at most 8,192 bytes 24,576 places of list and of trace, and 516,096 bytes of output for all of its numbers
pub room_suffices : (n : Ran) (bytes list trace : List ℕ) → length bytes ≤ 8192 → length list ≡ 24576 → length trace ≡ 24576
    → running n.state n.tally n.reading bytes list trace ≡ traced n bytes
room_suffices n bytes list trace h e f = room_enough n bytes list trace (omega arith) (omega arith)

pub output_suffices : (trace out : List ℕ) → length trace ≤ 24576 → length out ≡ 516096
    → with_room (answers_most trace) (answers_text trace) out ≡ writes (answers_text trace)
output_suffices trace out h e = output_enough trace out (omega arith)

-- ---- PRINTED IN PARTS of whole events, a trace gives what it gives as a whole
pub answers_joined : (n : ℕ) (xs ys : List ℕ) → length xs ≡ 3 * n → answers_text (xs ++ ys) ≡ answers_text xs ++ answers_text ys
unfolding answers_text
answers_joined n [] ys h = refl
answers_joined n (x ∷ []) ys h = absurd (omega arith)
answers_joined n (x ∷ y ∷ []) ys h = absurd (omega arith)
answers_joined n (x ∷ y ∷ z ∷ xs) ys h =
    ap (λ (l : List ℕ). answer_text x y z ++ l) (answers_joined (n - 1) xs ys (omega arith))
    ∙ sym (append_assoc (answer_text x y z) (answers_text xs) (answers_text ys))

-- n events of it, and then the rest
pub answers_part : (n : ℕ) (trace : List ℕ) → 3 * n ≤ length trace
    → answers_text trace ≡ answers_text (take (3 * n) trace) ++ answers_text (drop (3 * n) trace)
answers_part n trace h =
    ap answers_text (sym (take-append-drop (3 * n) trace))
    ∙ answers_joined n (take (3 * n) trace) (drop (3 * n) trace) (length-take-le (3 * n) trace h)
