-- Reach, as a list of stations that leads there and as a computed set; purge; the report.
-- That the two are one: proofs/ReachLaws.antt, `sound` and `complete`. Which links work is a parameter.
use Rattle.std.specs.Prelude.{ℕ, zero, suc, ◌<◌, Bool, false, not, ◌&&◌, ◌||◌, List, [], ◌∷◌, ◌++◌, map, eqb, T, length, get_or, if◌then◌else◌}
use Rattle.lists.specs.Lists.{below, any, sum_of, first_of}
use Rattle.lists.specs.Words.{bit}
use Rattle.counters.specs.Counters.{even}
use Rattle.net.specs.Network.{Network, ends, link_numbers, ties}

-- a link's counter in a table; a link that is not in it counts as one never heard of
abbrev pub counter_in : List ℕ → ℕ → ℕ
counter_in table k = get_or table k 1

-- a link works if its counter in the table is even
abbrev pub works_in : List ℕ → ℕ → Bool
works_in table k = even (counter_in table k)

-- ---- by stations that lead there

-- two stations joined by a working link
pub record Joined (net : Network) (works : ℕ → Bool) (u t : ℕ) : Type 0 where
  pub link : ℕ
  pub exists : link < length net.links
  pub working : T (works link)
  pub tied : T (ties net link u t)
  pub from : u < net.stations
  pub to : t < net.stations

-- a list of stations that leads from s to t, each next one joined by a working link; no stations lead from s to s
pub data Leads (net : Network) (works : ℕ → Bool) : ℕ → List ℕ → ℕ → Type 0 where
  here : {s : ℕ} → Leads net works s [] s
  next : {s u t : ℕ} {us : List ℕ} → Joined net works s u → Leads net works u us t → Leads net works s (u ∷ us) t

-- the station s reaches t
pub record Reaches (net : Network) (works : ℕ → Bool) (s t : ℕ) : Type 0 where
  pub station : s < net.stations
  pub way : List ℕ
  pub leads : Leads net works s way t

-- ---- computed: a set of stations is a list of tests, one for each station
abbrev pub has : List Bool → ℕ → Bool
has set t = get_or set t false

-- a working link k joins t to a member
abbrev pub joins_to : Network → (ℕ → Bool) → List Bool → ℕ → ℕ → Bool
joins_to net works set t k =
    works k && ((eqb (ends net k).low t && has set (ends net k).high) || (eqb (ends net k).high t && has set (ends net k).low))

-- the members, and whatever a working link joins to one
unfoldable pub spread : Network → (ℕ → Bool) → List Bool → List Bool
spread net works set = map (λ t. has set t || any (joins_to net works set t) (link_numbers net)) (below net.stations)

-- reached within h links: within h + 1 if within h, or joined by a working link to one that is
unfoldable pub within : Network → (ℕ → Bool) → ℕ → ℕ → List Bool
within net works s zero = map (λ t. eqb s t) (below net.stations)
within net works s (suc h) = spread net works (within net works s h)

-- no way needs more links than there are stations
unfoldable pub reach : Network → (ℕ → Bool) → ℕ → List Bool
reach net works s = within net works s net.stations

-- how many are reached
abbrev pub count_of : List Bool → ℕ
count_of set = sum_of bit set

-- the lowest station not reached, or 255 if all are
abbrev pub lowest_of : List Bool → ℕ
lowest_of set = first_of (λ t. not (has set t)) (below (length set)) 255

-- ---- purge and the report, at the station s

-- an end of the link k is a member
abbrev pub near : Network → (ℕ → Bool) → ℕ → Bool
near net member k = member (ends net k).low || member (ends net k).high

-- in s's table every link neither of whose ends s reaches gets counter 1
unfoldable pub purge : Network → (ℕ → Bool) → ℕ → List ℕ → List ℕ
purge net works s table = map (λ k. if near net (has (reach net works s)) k then counter_in table k else 1) (link_numbers net)

-- a link in the report: 0 perceived unreachable, neither end reached; 1 working; 2 unresponsive
abbrev pub link_value : Bool → Bool → ℕ
link_value reached works = if reached then (if works then 1 else 2) else 0

-- one for each station, 1 working and 0 unreachable, then one for each link
unfoldable pub report : Network → (ℕ → Bool) → ℕ → List ℕ
report net works s =
    map (λ t. bit (has (reach net works s) t)) (below net.stations)
    ++ map (λ k. link_value (near net (has (reach net works s)) k) (works k)) (link_numbers net)
