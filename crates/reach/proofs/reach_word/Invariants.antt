use Rattle.std.proofs.Common.{◌-◌, ◌^◌}
use Rattle.lists.specs.Words.{in_word}
use Rattle.reach.proofs.Search.{Growing, Searching}
use Rattle.reach.proofs.reach_word.Given as goal

abbrev pub invariant-search : goal.invariant-search
invariant-search l = Searching l.net (in_word l.working) l.w l.k

abbrev pub decreases-search : goal.decreases-search
decreases-search l = l.m - l.k

abbrev pub invariant-grow : goal.invariant-grow
invariant-grow l = Growing l.net (in_word l.working) l.s l.w

abbrev pub decreases-grow : goal.decreases-grow
decreases-grow l = 2 ^ 32 - l.w
