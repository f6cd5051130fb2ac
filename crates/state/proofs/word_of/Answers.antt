use Rattle.state.proofs.Tested.{word_zero}
use Rattle.state.proofs.word_of.Goals as goal

pub returns : goal.returns
returns c = word_zero c.args.x.link c.args.x.sender c.tag_of.result _ c.tag_of.ensures.0
