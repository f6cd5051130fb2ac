-- What `fresh` answers: the state right after reading a sheet, in the world's words.
use Rattle.std.specs.Prelude.{replicate, if◌then◌else◌}
use Rattle.net.specs.declared.Net.{Net}
use Rattle.net.specs.Values.{network_of}
use Rattle.net.specs.Sizes.{station_room, letter_room}
use Rattle.sheet_rules.specs.Values.{net_holds}
use Rattle.station.specs.Values.{blank}
use Rattle.world.specs.World.{no_letter, fresh}
use Rattle.state.specs.declared.State.{State}
use Rattle.state.specs.State.{state_of}
use Rattle.state.specs.declared.Begun.{Begun}

-- ---- right after reading a sheet; for a bad network 11, with room that is zero beside it: no well-formed state
unfoldable pub unread : Net → State
unread net = record { net = net; flying = 0; stations = replicate station_room blank; letters = replicate letter_room no_letter }

unfoldable pub begun_of : Net → Begun
begun_of net =
    if net_holds net then (record { answer = 0; state = state_of net (fresh (network_of net)) })
    else (record { answer = 11; state = unread net })
