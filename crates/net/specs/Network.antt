-- The network that a sheet gives: stations and links. The crate `sheet_rules` says which networks a sheet may give.
use Rattle.std.specs.Prelude.{ℕ, Bool, ◌&&◌, ◌||◌, List, eqb, length, get_or, if◌then◌else◌}
use Rattle.lists.specs.Lists.{below}

-- a link's two ends
pub record Ends : Type 0 where
  pub low : ℕ
  pub high : ℕ

-- stations are numbered from 0, and so are links
pub record Network : Type 0 where
  pub stations : ℕ
  pub links : List Ends

abbrev pub ends : Network → ℕ → Ends
ends net k = get_or net.links k (record { low = 0; high = 0 })

-- the numbers of the links, rising
abbrev pub link_numbers : Network → List ℕ
link_numbers net = below (length net.links)

-- the link k joins u and t, whichever of them is its lower end
abbrev pub ties : Network → ℕ → ℕ → ℕ → Bool
ties net k u t = (eqb (ends net k).low u && eqb (ends net k).high t) || (eqb (ends net k).low t && eqb (ends net k).high u)

-- s is an end of the link k
abbrev pub is_end : Network → ℕ → ℕ → Bool
is_end net k s = eqb (ends net k).low s || eqb (ends net k).high s

-- the end of k that is not s
abbrev pub other : Network → ℕ → ℕ → ℕ
other net k s = if eqb (ends net k).low s then (ends net k).high else (ends net k).low
