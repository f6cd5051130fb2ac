use Rattle.std.proofs.Common.{◌*◌, ◌∙◌, sym, refl, arith, take, drop, length}
use Rattle.net.specs.Sizes.{link_room}
use Rattle.run_rooms.specs.Rooms.{table_in}
use Rattle.run_rooms.proofs.Loops.{laid, roomed_map, part_long, part_at}
use Rattle.run_rooms.proofs.table_at.Goals as goal

pub returns : goal.returns
unfolding table_in
returns c =
    let t = c.args.tables.now in
    let first = link_room * c.args.i in
    let own = take link_room (drop first t) in
    let n = part_long t first link_room in
    laid link_room 0 own 0 _ (length c.part-own.result.now) refl (c.copy_from_slice.ensures.after ∙ c.part-own.ensures.items)
    (c.part-own.ensures.size ∙ sym n)
    ∙ roomed_map link_room 0 own _ (omega (arith, n)) (λ j h. part_at t first link_room j 0 h)
