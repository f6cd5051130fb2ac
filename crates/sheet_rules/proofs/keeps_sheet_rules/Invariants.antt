use Rattle.std.proofs.Common.{◌≡◌, true}
use Rattle.lists.specs.Lists.{every, below}
use Rattle.sheet_rules.proofs.Tested.{place_holds}
use Rattle.sheet_rules.proofs.keeps_sheet_rules.Given as goal

abbrev pub invariant-loop-k : goal.invariant-loop-k
invariant-loop-k l = every (place_holds l.fn.net) (below l.k) ≡ true
