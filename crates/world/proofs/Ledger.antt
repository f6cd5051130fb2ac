-- Conservation: in any run from a freshly read sheet, letters ever sent, counted from the events, equal those delivered, lost
-- and in flight. Also how counts over a history add up.
use Rattle.std.specs.Prelude.{if◌then◌else◌}
use Prim.Native.Nat.{ℕ, ◌+◌}
use mathlib.Core.Bool.{Bool, true, false}
use mathlib.Core.Path.{◌≡◌, refl, ap}
use mathlib.Core.List.{List, [], ◌∷◌, ◌++◌}
use native.Mathlib.Omega.{arith}
use lib.ListN.{length, length-append}
use Rattle.lists.specs.Words.{bit}
use Rattle.lists.proofs.Counts.{sum_append}
use Rattle.tally.specs.declared.Tally.{Tally}
use Rattle.net.specs.Network.{Network}
use Rattle.station.specs.Events.{kind_of, delivers, loses, is_notice}
use Rattle.world.specs.World.{World, Event, done, left, after, refusal, accepted, next, notices_of, settled, fresh}
use Rattle.world.specs.History.{run, total, ever_sent, ever_delivered, ever_lost, ever_settled}
use Rattle.world.proofs.Steps.{accepted_zero, taken}
use Rattle.world.proofs.There.{left_one, left_notices}

-- ---- one accepted event: what was in flight and what it sends is what it delivers or loses and what is in flight then
pub one_conserved : (w : World) (e : Event) → refusal w e ≡ 0
    → length w.letters + length (done w e).sent
    ≡ bit (delivers (kind_of e.kind)) + bit (loses (kind_of e.kind)) + length (after w e).letters
unfolding after
one_conserved w e q = omega (arith, left_one w e (taken w e q).exists, length-append (left w e) (done w e).sent)

-- ---- a history
pub conserved : (w : World) (es : List Event)
    → length w.letters + ever_sent w es ≡ ever_delivered w es + ever_lost w es + length (run w es).letters
unfolding run total
conserved w [] = omega arith
conserved w (e ∷ es) = go (accepted w e) refl (conserved (next w e) es)
  where
    go : (b : Bool) → accepted w e ≡ b → length (next w e).letters + ever_sent (next w e) es ≡ ever_delivered (next w e) es + ever_lost
        (next w e) es + length (run (next w e) es).letters
        → length w.letters + ever_sent w (e ∷ es) ≡ ever_delivered w (e ∷ es) + ever_lost w (e ∷ es) + length (run (next w e) es).letters
    go true q ih = rw q (omega (arith, one_conserved w e (accepted_zero w e q), rw q at ih))
    go false q ih = rw q (omega (arith, rw q at ih))

-- IN ANY RUN FROM A FRESHLY READ SHEET, LETTERS EVER SENT, COUNTED FROM THE EVENTS, EQUAL THOSE DELIVERED, LOST AND IN FLIGHT.
pub letters_conserved : (net : Network) (es : List Event)
    → ever_sent (fresh net) es ≡ ever_delivered (fresh net) es + ever_lost (fresh net) es + length (run (fresh net) es).letters
unfolding fresh
letters_conserved net es = omega (arith, conserved (fresh net) es)

-- ---- the same of notices alone: those settled are those that leave
pub one_settled : (w : World) (e : Event) → refusal w e ≡ 0
    → notices_of w.letters + notices_of (done w e).sent ≡ settled w e + notices_of (after w e).letters
unfolding after
one_settled w e q =
    let t = taken w e q in
    omega (
      arith,
      left_notices w e t.exists,
      ap (λ (c : Tally). c.settled) t.counts,
      sum_append (λ x. bit (is_notice x.body)) (left w e) (done w e).sent,
    )

-- NOTICES EVER SENT AND THOSE IN FLIGHT AT THE START ARE THOSE SETTLED AND THOSE IN FLIGHT AT THE END: the count of settled
-- notices is of events in the history, and no other number would do.
pub notices_conserved : (w : World) (es : List Event)
    → notices_of w.letters + total (λ u e. notices_of (done u e).sent) w es ≡ ever_settled w es + notices_of (run w es).letters
unfolding run total
notices_conserved w [] = omega arith
notices_conserved w (e ∷ es) = go (accepted w e) refl (notices_conserved (next w e) es)
  where
    f : World → Event → ℕ
    f u e = notices_of (done u e).sent

    go : (b : Bool) → accepted w e ≡ b → notices_of (next w e).letters + total f (next w e) es ≡ ever_settled (next w e) es + notices_of
        (run (next w e) es).letters
        → notices_of w.letters + total f w (e ∷ es) ≡ ever_settled w (e ∷ es) + notices_of (run (next w e) es).letters
    go true q ih = rw q (omega (arith, one_settled w e (accepted_zero w e q), rw q at ih))
    go false q ih = rw q (omega (arith, rw q at ih))

-- ---- counts add up: a history in two parts, and one event more at its end (what the tally does)
pub run_append : (w : World) (es fs : List Event) → run w (es ++ fs) ≡ run (run w es) fs
unfolding run
run_append w [] fs = refl
run_append w (e ∷ es) fs = run_append (next w e) es fs

pub total_append : (f : World → Event → ℕ) (w : World) (es fs : List Event) → total f w (es ++ fs) ≡ total f w es + total f (run w es) fs
unfolding run total
total_append f w [] fs = omega arith
total_append f w (e ∷ es) fs = omega (arith, total_append f (next w e) es fs)

pub total_one : (f : World → Event → ℕ) (w : World) (es : List Event) (e : Event)
    → total f w (es ++ (e ∷ [])) ≡ total f w es + (if accepted (run w es) e then f (run w es) e else 0)
unfolding total
total_one f w es e = omega (arith, total_append f w es (e ∷ []))

pub run_one : (w : World) (es : List Event) (e : Event) → run w (es ++ (e ∷ [])) ≡ next (run w es) e
unfolding run
run_one w es e = run_append w es (e ∷ [])
