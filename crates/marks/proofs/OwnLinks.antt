-- A station's own links, as the code reads them off the network.
use Prim.Native.Nat.{ℕ, ◌<◌}
use mathlib.Core.Bool.{Bool, ◌||◌}
use mathlib.Core.Path.{◌≡◌, sym, ap, ◌∙◌}
use lib.Dec.{eqb}
use lib.ListN.{get_or}
use Rattle.lists.proofs.Numbers.{get_or_map_below}
use Rattle.net.specs.declared.Net.{Net}
use Rattle.net.specs.Network.{Ends, is_end}
use Rattle.net.specs.Values.{network_of, link_count}
use Rattle.net.specs.Sizes.{station_room}
use Rattle.net.proofs.ValueLaws.{ends_of}
use Rattle.sets.specs.Sets.{word_by}
use Rattle.marks.specs.Marks.{own_at, own_words}

-- what the code reads off the ends of link k
pub own_read : (net : Net) (s k : ℕ) (b : Bool) → k < link_count net → b ≡ (eqb (get_or net.low k 0) s || eqb (get_or net.high k 0) s)
    → b ≡ is_end (network_of net) k s
own_read net s k b h p = p ∙ ap (λ (x : Ends). eqb x.low s || eqb x.high s) (sym (ends_of net k h))

-- each station's own links stand at its place
pub own_word : (net : Net) (i : ℕ) → i < station_room → get_or (own_words net) i 0 ≡ word_by (own_at net i)
unfolding own_words
own_word net i h = get_or_map_below (λ s. word_by (own_at net s)) station_room i 0 h
