use Rattle.std.proofs.Common.{rules, w8, Fits, ℕ, get_or, length, ◌≡◌, ◌≤◌, ◌∙◌, true, refl}
use native.Mathlib.Omega.{arith}
use Rattle.text.proofs.Lines.{adds_more}
use Rattle.page_part.specs.Parts.{is_there, part_most}
use Rattle.page_part.proofs.Texts.{still_few}
use Rattle.page_part.proofs.Parts.{part_answer, part_output, part_still, part_live, live_whole, live_few}
use Rattle.console.proofs.Puts.{line_counts}
use Rattle.page_part.proofs.put_part.Goals as goal

pub returns-then-number-ne0 : goal.returns-then-number-ne0
returns-then-number-ne0 c =
    let a = c.args in
    let there : is_there a.number ≡ true = search rules in
    let text = part_still a.number a.net a.s a.ones a.lowest a.waiting a.seen c.if-number-ne0.true in
    let few = still_few a.s a.waiting c.ranges.s.fits in
    record {
      answer = part_answer a.number there c.put_still.ensures text refl (omega (arith, few)) (omega arith);
      output = part_output a.number there c.put_still.ensures text refl (omega (arith, few)) (omega arith) (search rules);
      room = line_counts part_most c.put_still.ensures refl (omega (arith, few)) (omega arith) (search rules);
    }

pub returns : goal.returns
returns c =
    let a = c.args in
    let there : is_there a.number ≡ true = search rules in
    let n = c.min-stations.ensures in
    let m = c.min-m.ensures in
    let seen : 96 ≤ length a.seen = search rules in
    let low : (k : ℕ) → Fits w8 (get_or a.net.low k 0) = search rules in
    let high : (k : ℕ) → Fits w8 (get_or a.net.high k 0) = search rules in
    let lines =
    adds_more (adds_more (adds_more c.put_reach.ensures c.put_lowest.ensures) c.put_stations_seen.ensures) c.put_links_seen.ensures in
    let text = live_whole a.net a.seen _ _ n m seen a.s a.ones a.lowest
    ∙ part_live a.number a.net a.s a.ones a.lowest a.waiting a.seen c.if-number-ne0.false in
    let few = live_few a.net a.seen _ _ n m seen a.s a.ones a.lowest c.ranges.s.fits c.ranges.ones.fits c.ranges.lowest.fits
    (λ k. (low k).fits) (λ k. (high k).fits) in
    record {
      answer = part_answer a.number there lines text refl few (omega arith);
      output = part_output a.number there lines text refl few (omega arith) (search rules);
      room = line_counts part_most lines refl few (omega arith) (search rules);
    }
