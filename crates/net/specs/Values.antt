-- What a network value means, and what a letter may say in one.
-- A value that breaks the rules has a meaning too: stations beyond 32 and links beyond 64 are not there.
use Rattle.std.specs.Prelude.{ℕ, min, Bool, true, ◌&&◌, map, eqb, ltb, get_or}
use Rattle.lists.specs.Lists.{below}
use Rattle.net.specs.declared.Net.{Net}
use Rattle.net.specs.declared.Body.{Body}
use Rattle.net.specs.declared.Body.TheVariants.{Request, Reply, Notice}
use Rattle.net.specs.Network.{Ends, Network}
use Rattle.net.specs.Letters.{is_counter}
use Rattle.net.specs.Sizes.{station_room, link_room}

abbrev pub place_ends : Net → ℕ → Ends
place_ends net k = record { low = get_or net.low k 0; high = get_or net.high k 0 }

abbrev pub link_count : Net → ℕ
link_count net = min net.links link_room

unfoldable pub network_of : Net → Network
network_of net = record { stations = min net.stations station_room; links = map (place_ends net) (below (link_count net)) }

abbrev pub is_zero : ℕ → Bool
is_zero x = eqb x 0

-- what a letter says, in a network of so many links; that this is `body_holds`: proofs/Bodies.antt
abbrev pub body_test : ℕ → Body → Bool
body_test links Request = true
body_test links (Reply c) = is_counter c
body_test links (Notice subject c) = ltb subject links && is_counter c
