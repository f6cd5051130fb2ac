use Rattle.fields.proofs.Steps.{head_short, cut_short, cut_whole}
use Rattle.fields.proofs.cut_first.Goals as goal

pub returns-in_default : goal.returns-in_default
returns-in_default c = head_short _ c.in_default.len_below

pub returns-then-after-length : goal.returns-then-after-length
returns-then-after-length c = cut_short _ _ c.in-len3-up.len_at_least c.two_bytes-length.ensures c.if-after-length.true

pub returns : goal.returns
returns c =
    cut_whole _ _ c.in-len3-up.len_at_least c.two_bytes-length.ensures c.if-after-length.false _ _
    c.split_at.ensures.front c.split_at.ensures.back
