-- What a stored case says.
use Rattle.std.specs.Prelude.{ℕ, List, get_or, take, drop}
use Rattle.net.specs.declared.Net.{Net}
use Rattle.net.specs.Sizes.{link_room}

-- the network at the front of a case: stations, links, lower ends, higher ends
abbrev pub case_net : List ℕ → Net
case_net bytes =
    record {
      stations = get_or bytes 0 0;
      links = get_or bytes 1 0;
      low = take link_room (drop 2 bytes);
      high = take link_room (drop 66 bytes);
    }
