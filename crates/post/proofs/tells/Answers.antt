use Rattle.std.proofs.Common.{Bool, ◌&&◌, sym, ap, ap₂, ◌∙◌}
use Rattle.post.specs.Links.{some_in}
use Rattle.post.proofs.LinkLaws.{some_is, some_seen, none_seen}
use Rattle.post.proofs.tells.Goals as goal

pub returns-then-subjects-ne0 : goal.returns-then-subjects-ne0
returns-then-subjects-ne0 c =
    let f = c.ranges in
    ap₂ (λ (x y : Bool). x && y) (sym (some_seen _ f.subjects.fits c.if-subjects-ne0.true)) (some_is _ f.left.fits)

pub returns-else-subjects-ne0 : goal.returns-else-subjects-ne0
returns-else-subjects-ne0 c =
    let none = none_seen _ c.if-subjects-ne0.false in
    some_is _ c.ranges.subjects.fits ∙ none ∙ ap (λ (x : Bool). x && some_in c.args.left) (sym none)
