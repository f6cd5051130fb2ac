use Rattle.std.proofs.Common.{◌≡◌, ℕ, List, get_or, ltb, take, length, ◌<◌, arith}
use Rattle.std.proofs.lemmas.Grind.{common_steps}
use Rattle.sets.proofs.WordLaws.{upto_none, upto_more}
use Rattle.station_table.proofs.known_links.Goals as goal

pub loop-k-init : goal.loop-k-init
loop-k-init c = upto_none _

taken : (xs : List ℕ) (n k : ℕ) → k < length (take n xs) → ltb 1 (get_or (take n xs) k 0) ≡ ltb 1 (get_or xs k 0)
taken xs n k h = grind (arith, common_steps)

pub loop-k-preserved : goal.loop-k-preserved
loop-k-preserved c =
    upto_more (λ j. ltb 1 (get_or c.args.counters j 0)) c.loop-k.k c.loop-k.known _ _ c.loop-k.invariant
    (taken _ _ _ c.loop-k-test.true) c.put-known.ensures
