use Rattle.post.proofs.Made.{rest_asks, rest_tells, rest_tells_last, rest_replies}
use Rattle.std.proofs.Common.{rules}
use Rattle.post.proofs.rest.Goals as goal

pub returns-then-post-ne0 : goal.returns-then-post-ne0
returns-then-post-ne0 c =
    rest_asks c.args.post _ (search rules) c.if-post-ne0.true c.less_lowest.ensures

pub returns-then-less-ne0 : goal.returns-then-less-ne0
returns-then-less-ne0 c =
    rest_tells c.args.post _ _ c.if-post-ne0.false c.tells.ensures c.if-tells.true
    (search rules) c.less_lowest-less.ensures c.if-less-ne0.true

pub returns-then-tells : goal.returns-then-tells
returns-then-tells c =
    rest_tells_last c.args.post _ _ _ c.if-post-ne0.false c.tells.ensures c.if-tells.true
    c.less_lowest-less.ensures c.if-less-ne0.false c.less_lowest-then-tells.ensures

pub returns : goal.returns
returns c =
    rest_replies c.args.post _ c.if-post-ne0.false c.tells.ensures c.if-tells.false
