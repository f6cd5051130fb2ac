use Rattle.std.proofs.Common.{rules, ap, ◌∙◌, arith}
use Rattle.lists.proofs.Fill.{by_places}
use Rattle.net.specs.Sizes.{letter_room}
use Rattle.world.specs.World.{no_letter}
use Rattle.run_rooms.specs.Rooms.{moving_room, moving_in}
use Rattle.lists.specs.Places.{roomed}
use Rattle.run_rooms.proofs.Loops.{laid}
use Rattle.run_rooms.proofs.moving_room.Goals as goal

pub returns : goal.returns
unfolding moving_in
returns c =
    laid moving_room no_letter c.args.letters c.default-room.result _ letter_room (search rules)
    c.copy_from_slice.ensures.after (omega arith)
    ∙ ap (roomed moving_room no_letter) (by_places no_letter letter_room c.args.letters (omega arith))
