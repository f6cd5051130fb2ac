use Rattle.std.proofs.Common.{rules, ◌≡◌, ◌-◌, ap, sym, ◌∙◌, arith, take, drop, length, min}
use Rattle.lists.specs.Places.{roomed}
use Rattle.net.specs.Sizes.{letter_room}
use Rattle.world.specs.World.{no_letter}
use Rattle.run_rooms.specs.Rooms.{moving_room, in_flight}
use Rattle.run_rooms.proofs.Loops.{laid, part_long, part_map}
use Rattle.run_rooms.proofs.gathered.Goals as goal

pub returns : goal.returns
returns c =
    let a = c.args in
    let n = c.used_places.result in
    let flying = take n (drop a.start a.room) in
    let m : min n (length a.room - a.start) ≡ min (min a.many letter_room) (moving_room - a.start) = omega arith in
    laid letter_room no_letter flying c.default-letters.result _ (length c.part-flying.result.now) (search rules)
    (c.copy_from_slice.ensures.after ∙ c.part-flying.ensures.items) (c.part-flying.ensures.size ∙ sym (part_long a.room a.start n))
    ∙ ap (roomed letter_room no_letter) (part_map a.room a.start n no_letter ∙ ap (in_flight a.room a.start) m)
