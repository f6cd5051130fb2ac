-- Demand 3 in definitions: a run of notices, and the bound on how many are settled in it.
use Rattle.std.specs.Prelude.{ℕ, ◌+◌, ◌*◌, ◌-◌, max, Bool, true, ◌&&◌, ◌≡◌, List, [], ◌∷◌, ◌++◌, eqb, length, if◌then◌else◌}
use Rattle.lists.specs.Lists.{keep, any, sum_of, below}
use Rattle.lists.specs.Places.{largest_of}
use Rattle.net.specs.declared.Body.{Body}
use Rattle.net.specs.declared.Body.TheVariants.{Request, Reply, Notice}
use Rattle.net.specs.declared.Letter.{Letter}
use Rattle.net.specs.Network.{Network, link_numbers, ties}
use Rattle.station.specs.declared.Kind.{Kind}
use Rattle.station.specs.Holding.{Holding, counter, is_live}
use Rattle.station.specs.Events.{kind_of, takes_letter, is_notice}
use Rattle.world.specs.World.{World, Event, holding_at, letter_at, accepted, next, notices_of}

-- ---- a run made only of accepted deliveries and losses of notices, with no other event in it
abbrev pub takes_notice : Kind → Letter → Bool
takes_notice k x = takes_letter k && is_notice x.body

unfoldable pub only_notices : World → List Event → Bool
only_notices w [] = true
only_notices w (e ∷ es) = (accepted w e && takes_notice (kind_of e.kind) (letter_at w e.a)) && only_notices (next w e) es

-- a moment of a run: ds are its first events
pub record Begins (ds es : List Event) : Type 0 where
  pub rest : List Event
  pub whole : ds ++ rest ≡ es

-- ---- the highest counter for the link k in any table or notice in flight
abbrev pub carried : ℕ → Body → ℕ
carried k Request = 0
carried k (Reply c) = 0
carried k (Notice j c) = if eqb j k then c else 0

unfoldable pub highest : World → ℕ → ℕ
highest w k =
    max (largest_of (λ s. counter (holding_at w s) k) (below w.net.stations)) (largest_of (λ x. carried k x.body) w.letters)

-- ---- the bound
-- the stations that some link joins to s
abbrev pub neighbours : Network → ℕ → List ℕ
neighbours net s = keep (λ t. any (λ k. ties net k s t) (link_numbers net)) (below net.stations)

-- the sum over all links of how far the counter lies below the highest one for that link
unfoldable pub distance : World → Holding → ℕ
distance w h = sum_of (λ k. highest w k - counter h k) (link_numbers w.net)

-- what a station adds: if it is live, the number of its neighbours less one, times that sum; less one stops at 0
unfoldable pub share : World → ℕ → ℕ
share w s = if is_live (holding_at w s).condition then (length (neighbours w.net s) - 1) * distance w (holding_at w s) else 0

-- the notices in flight, and what each station adds
unfoldable pub bound : World → ℕ
bound w = notices_of w.letters + sum_of (share w) (below w.net.stations)
