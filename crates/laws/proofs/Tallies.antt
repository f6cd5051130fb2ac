-- The tally after a history has the history's three counts added to it, each staying at its largest value.
use Rattle.std.specs.Prelude.{if◌then◌else◌}
use Prim.Native.Nat.{ℕ, ◌+◌}
use mathlib.Core.Bool.{Bool, true, false}
use mathlib.Core.Path.{◌≡◌, refl, sym, ap, ◌∙◌}
use mathlib.Core.List.{List, [], ◌∷◌}
use native.Mathlib.Omega.{arith}
use Rattle.tally.specs.declared.Tally.{Tally}
use Rattle.tally.specs.Sums.{tallied}
use Rattle.tally.proofs.Plain.{no_counts, plus}
use Rattle.tally.proofs.Sums.{Fits, tallied_fits, nothing_more, tallied_twice}
use Rattle.station.specs.Events.{counting}
use Rattle.world.specs.World.{World, Event, accepted, next}
use Rattle.world.specs.History.{total}
use Rattle.laws.specs.Tallied.{accepted_counts, ever_counted, tally_by, tally_after}

by_fits : (b : Bool) (t n : Tally) → Fits t → Fits (tally_by b t n)
by_fits true t n f = tallied_fits t n
by_fits false t n f = f

-- what counts of an event by whether it is accepted
abbrev taken : Bool → Tally → Tally
taken b n = counting (if b then n.settled else 0) (if b then n.raised else 0) (if b then n.dropped else 0)

-- the same, count by count
pub taken_is : (b : Bool) (n : Tally) → taken b n ≡ (if b then n else counting 0 0 0)
taken_is true n = refl
taken_is false n = refl

none_and : (m : Tally) → m ≡ plus no_counts m
none_and m = λ i. record { settled = more m.settled i; raised = more m.raised i; dropped = more m.dropped i }
  where
    more : (k : ℕ) → k ≡ 0 + k
    more k = omega arith

-- one event, with what the rest adds
by_then : (b : Bool) (t n m : Tally) → tallied (tally_by b t n) m ≡ tallied t (plus (taken b n) m)
by_then true t n m = tallied_twice t n m
by_then false t n m = ap (tallied t) (none_and m)

-- THE TALLY AFTER A HISTORY: what it was, with the notices settled, the counters raised and the letters dropped in that history.
pub tally_is_history : (t : Tally) (w : World) (es : List Event) → Fits t → tally_after t w es ≡ tallied t (ever_counted w es)
unfolding tally_after total
tally_is_history t w [] f = sym (nothing_more t f)
tally_is_history t w (e ∷ es) f =
    tally_is_history (tally_by (accepted w e) t (accepted_counts w e)) (next w e) es (by_fits (accepted w e) t (accepted_counts w e) f)
    ∙ by_then (accepted w e) t (accepted_counts w e) (ever_counted (next w e) es)
