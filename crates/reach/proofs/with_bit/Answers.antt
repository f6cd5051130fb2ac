use native.Mathlib.Nat.{one-mul, mod-eq_of_lt}
use lib.Pow.{pow-lt}
use Rattle.lists.proofs.Words.{put_fits}
use Rattle.reach.proofs.with_bit.Goals as goal

pub overflow_add-result : goal.overflow_add-result
overflow_add-result c =
    rw (one-mul, mod-eq_of_lt (pow-lt {i = c.args.t} {j = 32} c.requires.0))
    (record { fits = put_fits _ _ 32 c.requires.0 c.ranges.w.fits c.requires.1 })
