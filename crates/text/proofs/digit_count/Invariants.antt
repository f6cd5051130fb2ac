use Prim.Native.Nat.{◌-◌, ◌≤◌}
use Rattle.text.proofs.Spelled.{Counted}
use Rattle.text.proofs.digit_count.Given as goal

abbrev pub invariant-loop-count : goal.invariant-loop-count
invariant-loop-count l = (l.count ≤ 20) × Counted l.n l.top l.count

abbrev pub decreases-loop-count : goal.decreases-loop-count
decreases-loop-count l = 20 - l.count
