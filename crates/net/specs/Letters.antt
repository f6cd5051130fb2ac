-- Letters as values, and which of them may travel in a network.
use Rattle.std.specs.Prelude.{ℕ, Bool, true, ◌&&◌, leb, ltb, length}
use Rattle.net.specs.declared.Body.{Body}
use Rattle.net.specs.declared.Body.TheVariants.{Request, Reply, Notice}
use Rattle.net.specs.declared.Letter.{Letter}
use Rattle.net.specs.Sizes.{largest_counter}
use Rattle.net.specs.Network.{Network, is_end}

-- a counter is 1 to 65,535
abbrev pub is_counter : ℕ → Bool
is_counter c = leb 1 c && leb c largest_counter

abbrev pub body_holds : Network → Body → Bool
body_holds net Request = true
body_holds net (Reply c) = is_counter c
body_holds net (Notice subject c) = ltb subject (length net.links) && is_counter c

-- its link and its subject exist, its sender is an end of its link, its counter is in range
unfoldable pub letter_holds : Network → Letter → Bool
letter_holds net x = ltb x.link (length net.links) && is_end net x.link x.sender && body_holds net x.body
