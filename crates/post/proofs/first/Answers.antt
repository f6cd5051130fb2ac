use Rattle.post.proofs.Made.{first_asks, first_tells, first_replies}
use Rattle.std.proofs.Common.{rules}
use Rattle.post.proofs.first.Goals as goal

pub returns-then-post-ne0 : goal.returns-then-post-ne0
returns-then-post-ne0 c =
    let a = c.args in first_asks a.me a.counter a.post _ (search rules) c.if-post-ne0.true c.lowest-link.ensures

pub returns-then-tells : goal.returns-then-tells
returns-then-tells c =
    let a = c.args in
    first_tells a.me a.counter a.post _ _ _ c.if-post-ne0.false
    c.tells.ensures c.if-tells.true c.lowest-link-then-tells.ensures c.lowest.ensures

pub returns : goal.returns
returns c =
    let a = c.args in first_replies a.me a.counter a.post _ c.if-post-ne0.false c.tells.ensures c.if-tells.false
