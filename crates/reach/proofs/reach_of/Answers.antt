use Rattle.lists.specs.Words.{in_word}
use Rattle.reach.proofs.Numbers.{reached_is}
use Rattle.reach.proofs.reach_of.Goals as goal

pub returns : goal.returns
returns c =
    reached_is c.args.net (in_word c.args.working) c.args.s _ _ _ c.reach_word-word.ensures c.count_ones-ones.ensures
    c.lowest_missing-lowest.ensures
