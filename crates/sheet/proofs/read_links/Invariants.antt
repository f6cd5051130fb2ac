use Rattle.std.proofs.Common.{◌≡◌, ◌-◌}
use Rattle.net.specs.Sizes.{link_room}
use Rattle.sheet.specs.Steps.{links_of}
use Rattle.sheet.proofs.Loop.{Standing}
use Rattle.sheet.proofs.read_links.Given as goal

abbrev pub invariant-loop-ends : goal.invariant-loop-ends
invariant-loop-ends l =
    (l.net.stations ≡ l.n) × Standing (links_of l.n l.fn.bytes) l.n l.net.low l.net.high l.before.0 l.before.1 l.net.links l.rest

abbrev pub decreases-loop-ends : goal.decreases-loop-ends
decreases-loop-ends l = link_room - l.net.links
