use Rattle.std.proofs.Common.{rules, refl, arith}
use Rattle.net.specs.Sizes.{station_room}
use Rattle.run_rooms.specs.Rooms.{no_held, held_in}
use Rattle.run_rooms.proofs.Loops.{fills_none, fills_more, fills_all}
use Rattle.run_rooms.proofs.held_of.Goals as goal

pub loop-i-init : goal.loop-i-init
loop-i-init c = fills_none _ station_room c.default-held.result no_held (search rules)

pub loop-i-preserved : goal.loop-i-preserved
loop-i-preserved c = fills_more c.loop-i.invariant (omega arith) _ refl

pub returns : goal.returns
unfolding held_in
returns c = fills_all c.loop-i.invariant (omega (arith, c.loop-i.invariant.within))
