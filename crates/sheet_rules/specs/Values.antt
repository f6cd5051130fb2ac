-- The sheet rules for a network value. Other rooms use the laws of proofs/Good.antt, never this text.
use Rattle.std.specs.Prelude.{Bool, ◌&&◌, leb, drop}
use Rattle.lists.specs.Lists.{every}
use Rattle.net.specs.declared.Net.{Net}
use Rattle.net.specs.Values.{network_of, link_count, is_zero}
use Rattle.net.specs.Sizes.{station_room, link_room}
use Rattle.sheet_rules.specs.Rules.{sheet_holds}

-- the sheet rules hold, and the unused room is zero
unfoldable pub net_holds : Net → Bool
net_holds net =
    leb net.stations station_room && leb net.links link_room && sheet_holds (network_of net)
    && every is_zero (drop (link_count net) net.low) && every is_zero (drop (link_count net) net.high)
