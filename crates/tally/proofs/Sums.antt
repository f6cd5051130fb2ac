-- Laws of counts that stay at their largest value.
use Prim.Native.Nat.{ℕ, ◌+◌, ◌≤◌, ◌<◌, ◌^◌}
use mathlib.Core.Path.{◌≡◌}
use native.Mathlib.Omega.{arith}
use Rattle.tally.specs.declared.Tally.{Tally}
use Rattle.tally.specs.Sums.{largest, added, tallied}
use Rattle.tally.proofs.Plain.{no_counts, plus}

-- no count passes the largest value
pub added_fits : (count n : ℕ) → added count n ≤ largest
added_fits count n = omega arith

-- once there, it stays
pub added_stays : (n : ℕ) → added largest n ≡ largest
added_stays n = omega arith

-- below it, it is the sum
pub added_sum : (count n : ℕ) → count + n ≤ largest → added count n ≡ count + n
added_sum count n h = omega arith

-- what two steps add, one after the other, can be added at once
pub added_twice : (count m n : ℕ) → added (added count m) n ≡ added count (m + n)
added_twice count m n = omega arith

-- ---- the three together: counts of 64 bits, as a tally's type says
pub record Fits (t : Tally) : Type 0 where
  pub settled : t.settled ≤ largest
  pub raised : t.raised ≤ largest
  pub dropped : t.dropped ≤ largest

pub below_fits : (t : Tally) → t.settled < 2 ^ 64 → t.raised < 2 ^ 64 → t.dropped < 2 ^ 64 → Fits t
below_fits t s r d = record { settled = omega arith; raised = omega arith; dropped = omega arith }

pub tallied_fits : (t n : Tally) → Fits (tallied t n)
tallied_fits t n =
    record {
      settled = added_fits t.settled n.settled;
      raised = added_fits t.raised n.raised;
      dropped = added_fits t.dropped n.dropped;
    }

-- nothing counted leaves it as it is
pub nothing_more : (t : Tally) → Fits t → tallied t no_counts ≡ t
nothing_more t f =
    λ i. record {
      settled = same t.settled f.settled i;
      raised = same t.raised f.raised i;
      dropped = same t.dropped f.dropped i;
    }
  where
    same : (c : ℕ) → c ≤ largest → added c 0 ≡ c
    same c h = omega arith

pub tallied_twice : (t n m : Tally) → tallied (tallied t n) m ≡ tallied t (plus n m)
tallied_twice t n m =
    λ i. record {
      settled = added_twice t.settled n.settled m.settled i;
      raised = added_twice t.raised n.raised m.raised i;
      dropped = added_twice t.dropped n.dropped m.dropped i;
    }
