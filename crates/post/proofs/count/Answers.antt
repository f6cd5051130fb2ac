use Rattle.std.proofs.Common.{◌≡◌, if◌then◌else◌, arith}
use Rattle.std.proofs.lemmas.Grind.{common_steps}
use Rattle.post.proofs.Counts.{count_made, few, few_notices, one_reply}
use Rattle.post.proofs.count.Goals as goal

pub overflow_mul-notices : goal.overflow_mul-notices
overflow_mul-notices c = omega (arith, few_notices _ _ _ _ c.size.ensures c.size-2.ensures)

pub overflow_add-result : goal.overflow_add-result
overflow_add-result c = omega (arith, few _ _ c.size-3.ensures, few_notices _ _ _ _ c.size.ensures c.size-2.ensures)

pub overflow_add-result-2 : goal.overflow_add-result-2
overflow_add-result-2 c =
    let reply : c.from.result ≡ (if c.args.send.replies then 1 else 0) = grind (arith, common_steps) in
    omega (
      arith,
      one_reply c.args.send.replies _ reply,
      few _ _ c.size-3.ensures,
      few_notices _ _ _ _ c.size.ensures c.size-2.ensures,
    )

pub returns : goal.returns
returns c s told =
    let reply : c.from.result ≡ (if c.args.send.replies then 1 else 0) = grind (arith, common_steps) in
    count_made s told c.args.send _ _ _ _ c.size-3.ensures c.size.ensures c.size-2.ensures reply
