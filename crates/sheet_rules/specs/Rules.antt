-- The sheet rules: which networks a sheet may give.
use Rattle.std.specs.Prelude.{ℕ, ◌-◌, Bool, ◌&&◌, ◌||◌, eqb, leb, ltb, length}
use Rattle.lists.specs.Lists.{every}
use Rattle.net.specs.Network.{Ends, Network, ends, link_numbers}
use Rattle.net.specs.Sizes.{station_room, link_room}

-- by first, then second end
abbrev pub precedes : Ends → Ends → Bool
precedes x y = ltb x.low y.low || (eqb x.low y.low && ltb x.high y.high)

-- two stations, the lower first: so none from a station to itself
abbrev pub ends_hold : ℕ → Ends → Bool
ends_hold stations e = ltb e.low e.high && ltb e.high stations

-- link k has good ends and comes after the one before it: so there is at most one between two stations
abbrev pub link_holds : Network → ℕ → Bool
link_holds net k = ends_hold net.stations (ends net k) && (eqb k 0 || precedes (ends net (k - 1)) (ends net k))

-- 1 to 32 stations, 0 to 64 links, each of them good. Other rooms use the laws of proofs/Rules.antt, never this text.
unfoldable pub sheet_holds : Network → Bool
sheet_holds net =
    leb 1 net.stations && leb net.stations station_room && leb (length net.links) link_room
    && every (link_holds net) (link_numbers net)
