use Rattle.std.proofs.Common.{◌≡◌, ℕ, List, ◌++◌, take, drop, length, min, replicate, ap, ◌∙◌, arith}
use Rattle.std.proofs.lemmas.List.{length-take}
use Rattle.std.proofs.lemmas.Simd.{splat_is_map}
use Rattle.lists.specs.Lists.{below}
use Rattle.lists.proofs.Numbers.{length_from}
use Rattle.station.specs.Values.{fresh_table}
use Rattle.station_table.proofs.fresh_counters.Goals as goal

-- so many ones over an array of zeros
ones_over : (links u n : ℕ) (xs : List ℕ) → u ≡ links → n ≡ min u 64 → xs ≡ replicate (length (take n (replicate {A = ℕ} 64 0))) 1
    → xs ++ drop n (replicate {A = ℕ} 64 0) ≡ fresh_table (min links 64)
unfolding fresh_table
ones_over links u n xs e f g =
    let size : length (take n (replicate {A = ℕ} 64 0)) ≡ min links 64 = omega (arith, length-take n (replicate {A = ℕ} 64 0)) in
    let many : n ≡ min links 64 = omega arith in
    rw many (ap (λ (l : List ℕ). l ++ drop (min links 64) (replicate {A = ℕ} 64 0))
    (g ∙ ap (λ (m : ℕ). replicate {A = ℕ} m 1) size ∙ splat_is_map (below (min links 64)) (min links 64) 1 (length_from 0 (min links 64))))

pub returns : goal.returns
returns c = ones_over c.args.links _ _ _ c.from.ensures c.min.ensures (c.fill.ensures.after (λ y h. h))
