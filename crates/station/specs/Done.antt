-- An act carried out: what the station holds after it, and the letters that it sends, in order. What the acts are: Acts.antt.
use Rattle.std.specs.Prelude.{ℕ, Bool, not, ◌&&◌, List, [], ◌∷◌, ◌++◌, map, eqb, ltb, set, if◌then◌else◌}
use Rattle.lists.specs.Lists.{keep}
use Rattle.lists.specs.Places.{collect}
use Rattle.net.specs.declared.Body.{Body}
use Rattle.net.specs.declared.Body.TheVariants.{Request, Reply, Notice}
use Rattle.net.specs.declared.Letter.{Letter}
use Rattle.net.specs.Network.{Network, is_end, link_numbers}
use Rattle.reach.specs.Reach.{counter_in, works_in, purge}
use Rattle.marks.specs.declared.Marks.{Marks}
use Rattle.station.specs.Holding.{Holding, mark}
use Rattle.station.specs.Acts.{Links, the_link, all_own, other_own, Marking, as_before, on_link, on_every, Tabling, kept, ones, sets}
use Rattle.station.specs.Acts.{Sends, nothing, requests, notices, all_known, reply, Act}

pub record Done : Type 0 where
  pub holding : Holding
  pub sent : List Letter

-- ---- letters
abbrev pub letter : ℕ → ℕ → Body → Letter
letter s k b = record { link = k; sender = s; body = b }

-- the same on each of some links
abbrev pub on_each : ℕ → Body → List ℕ → List Letter
on_each s b ks = map (λ k. letter s k b) ks

-- a notice of each subject, with its counter, on each way
abbrev pub tell : ℕ → (ℕ → ℕ) → List ℕ → List ℕ → List Letter
tell s c subjects ways = collect (λ j. on_each s (Notice j (c j)) ways) subjects

-- a list without k
abbrev pub less : ℕ → List ℕ → List ℕ
less k ks = keep (λ j. not (eqb j k)) ks

module _ (net : Network) where
  -- the links whose counter is above 1
  unfoldable pub known : List ℕ → List ℕ
  known table = keep (λ k. ltb 1 (counter_in table k)) (link_numbers net)

  -- the counters before a purge: those that are told
  abbrev pub told_table : List ℕ → Tabling → List ℕ
  told_table table kept = table
  told_table table ones = map (λ k. 1) (link_numbers net)
  told_table table (sets j c purges) = set table j c

  abbrev pub purged_table : ℕ → List ℕ → Tabling → List ℕ
  purged_table s told kept = told
  purged_table s told ones = told
  purged_table s told (sets j c purges) = if purges then purge net (works_in told) s told else told

  -- the station s, which holds h
  module _ (s : ℕ) where
    -- its own links with such marks, by number
    unfoldable pub own_links : (Marks → Bool) → Holding → List ℕ
    own_links test h = keep (λ k. is_end net k s && test (mark h k)) (link_numbers net)

    abbrev pub links_of : Holding → Links → List ℕ
    links_of h (the_link k) = k ∷ []
    links_of h (all_own test) = own_links test h
    links_of h (other_own k test) = less k (own_links test h)

    abbrev pub marks_after : Holding → Marking → List Marks
    marks_after h as_before = h.marks
    marks_after h (on_link k f) = set h.marks k (f (mark h k))
    marks_after h (on_every f) = map (λ k. f (is_end net k s) (mark h k)) (link_numbers net)

    abbrev pub sent_of : Holding → List ℕ → Sends → List Letter
    sent_of h told nothing = []
    sent_of h told (requests ways) = on_each s Request (links_of h ways)
    sent_of h told (notices j c ways) = on_each s (Notice j c) (links_of h ways)
    sent_of h told (all_known ways) = tell s (counter_in told) (known told) (links_of h ways)
    sent_of h told (reply tells k c) =
        (if tells then tell s (counter_in told) (less k (known told)) (k ∷ []) else []) ++ (letter s k (Reply c) ∷ [])

    unfoldable pub done_by : Holding → Act → Done
    done_by h a =
        let told = told_table h.table a.table in
        record {
          holding = record { condition = a.condition; table = purged_table s told a.table; marks = marks_after h a.marks };
          sent = sent_of h told a.sends;
        }
