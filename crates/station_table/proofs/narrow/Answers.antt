use Rattle.std.proofs.Common.{min}
use Rattle.net.specs.Sizes.{link_room}
use Rattle.station_table.proofs.Carried.{narrow_is}
use Rattle.station_table.proofs.narrow.Goals as goal

pub returns : goal.returns
returns c =
    let a = c.args in
    narrow_is (min a.links link_room) a.table a.sends a.knows _ _ _
    (cc) c.known_links-known.ensures c.without-unknown.ensures c.without-subjects.ensures
