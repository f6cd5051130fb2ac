-- What a station holds: its condition, a counter for every link, and five marks for each link. Which of it is well formed.
use Rattle.std.specs.Prelude.{ℕ, Bool, true, false, not, ◌&&◌, ◌||◌, List, [], eqb, ltb, length, get_or}
use Rattle.lists.specs.Lists.{every, sum_of}
use Rattle.lists.specs.Words.{bit}
use Rattle.net.specs.Network.{Network, is_end, link_numbers}
use Rattle.net.specs.Letters.{is_counter}
use Rattle.reach.specs.Reach.{counter_in}
use Rattle.station.specs.declared.Condition.{Condition}
use Rattle.station.specs.declared.Condition.TheVariants.{Down, Waiting, Live}
use Rattle.marks.specs.declared.Marks.{Marks}

pub record Holding : Type 0 where
  pub condition : Condition
  pub table : List ℕ
  pub marks : List Marks

abbrev pub no_marks : Marks
no_marks = record { token = false; turn = false; testing = false; asked = false; quiet = false }

-- a station that is not there
abbrev pub nobody : Holding
nobody = record { condition = Down; table = []; marks = [] }

abbrev pub counter : Holding → ℕ → ℕ
counter h k = counter_in h.table k

abbrev pub mark : Holding → ℕ → Marks
mark h k = get_or h.marks k no_marks

abbrev pub is_live : Condition → Bool
is_live Down = false
is_live Waiting = false
is_live Live = true

abbrev pub is_waiting : Condition → Bool
is_waiting Down = false
is_waiting Waiting = true
is_waiting Live = false

abbrev pub is_down : Condition → Bool
is_down Down = true
is_down Waiting = false
is_down Live = false

-- ---- a mark set anew
abbrev pub set_token : Bool → Marks → Marks
set_token b m = record { token = b; turn = m.turn; testing = m.testing; asked = m.asked; quiet = m.quiet }

abbrev pub set_turn : Bool → Marks → Marks
set_turn b m = record { token = m.token; turn = b; testing = m.testing; asked = m.asked; quiet = m.quiet }

abbrev pub set_testing : Bool → Marks → Marks
set_testing b m = record { token = m.token; turn = m.turn; testing = b; asked = m.asked; quiet = m.quiet }

abbrev pub set_asked : Bool → Marks → Marks
set_asked b m = record { token = m.token; turn = m.turn; testing = m.testing; asked = b; quiet = m.quiet }

abbrev pub set_quiet : Bool → Marks → Marks
set_quiet b m = record { token = m.token; turn = m.turn; testing = m.testing; asked = m.asked; quiet = b }

-- how many counters are higher in h than in g
abbrev pub higher : Network → Holding → Holding → ℕ
higher net g h = sum_of (λ k. bit (ltb (counter g k) (counter h k))) (link_numbers net)

-- ---- well formed
abbrev pub implies : Bool → Bool → Bool
implies a b = not a || b

-- testing never stands with token, turn or quiet; token never with turn; asked only with testing
abbrev pub together : Marks → Bool
together m = not (m.testing && (m.token || m.turn || m.quiet)) && not (m.token && m.turn) && not (m.asked && not m.testing)

abbrev pub is_off : Marks → Bool
is_off m = not (m.token || m.turn || m.testing || m.asked || m.quiet)

abbrev pub is_token_alone : Marks → Bool
is_token_alone m = m.token && not (m.turn || m.testing || m.asked || m.quiet)

-- a down or waiting station has all counters 1; a down one has no mark, a waiting one has token alone on each own link
abbrev pub condition_holds : Condition → Bool → ℕ → Marks → Bool
condition_holds Down own c m = eqb c 1 && is_off m
condition_holds Waiting own c m = eqb c 1 && implies own (is_token_alone m)
condition_holds Live own c m = true

-- what stands of one link: marks only on own links
abbrev pub slot_holds : Condition → Bool → ℕ → Marks → Bool
slot_holds x own c m = is_counter c && together m && (own || is_off m) && condition_holds x own c m

unfoldable pub holding_holds : Network → ℕ → Holding → Bool
holding_holds net s h =
    eqb (length h.table) (length net.links) && eqb (length h.marks) (length net.links)
    && every (λ k. slot_holds h.condition (is_end net k s) (counter h k) (mark h k)) (link_numbers net)
