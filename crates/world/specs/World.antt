-- The whole network, one event at a time: which station an event concerns, what it comes to there (station's Events), and the world that
-- it leaves. Document 01, "The eight events" and "The numbers that say no". Here lists have exactly the used length: that unused room is
-- zero (11) is said where values are read as worlds. A run of events: History.antt.
use Rattle.std.specs.Prelude.{ℕ, Bool, not, ◌&&◌, List, [], ◌++◌, map, eqb, ltb, leb, length, get_or, set, if◌then◌else◌}
use Rattle.net.specs.Sizes.{letter_room}
use Rattle.lists.specs.Lists.{every, below, sum_of}
use Rattle.lists.specs.Words.{bit, word_of}
use Rattle.lists.specs.Places.{without}
use Rattle.net.specs.declared.Body.TheVariants.{Request}
use Rattle.net.specs.declared.Letter.{Letter}
use Rattle.net.specs.Network.{Network, is_end, other}
use Rattle.sheet_rules.specs.Rules.{sheet_holds}
use Rattle.net.specs.Letters.{letter_holds}
use Rattle.reach.specs.Reach.{works_in, reach, count_of, lowest_of, report}
use Rattle.reach.specs.declared.Reached.{Reached}
use Rattle.station.specs.declared.Kind.{Kind}
use Rattle.station.specs.Holding.{Holding, higher, is_live, holding_holds}
pub use Rattle.station.specs.Holding.{nobody}
use Rattle.station.specs.Acts.{stop_act}
use Rattle.station.specs.Done.{Done, done_by}
use Rattle.station.specs.Events.{kind_of, kind_number, takes_letter, is_notice, Rule, rule_at, Due, due_of}

-- what there is at one moment: what each station holds, and the letters in flight in their order
pub record World : Type 0 where
  pub net : Network
  pub holdings : List Holding
  pub letters : List Letter

pub record Event : Type 0 where
  pub kind : ℕ
  pub a : ℕ
  pub b : ℕ

-- a letter that is not there
abbrev pub no_letter : Letter
no_letter = record { link = 0; sender = 0; body = Request }

abbrev pub holding_at : World → ℕ → Holding
holding_at w s = get_or w.holdings s nobody

abbrev pub letter_at : World → ℕ → Letter
letter_at w a = get_or w.letters a no_letter

-- ---- 6: no such event kind, station, link at that station or letter; an unused number that isn't 0
abbrev pub is_link_at : Network → ℕ → ℕ → Bool
is_link_at net a b = ltb b (length net.links) && is_end net b a

-- in a network with so many letters in flight: events 7 and 8 name one of them, 4 to 6 a station and a link there, 1 to 3 a station
abbrev pub exists_as : Kind → Network → ℕ → ℕ → ℕ → Bool
exists_as k net flying a b =
    if takes_letter k then ltb a flying && eqb b 0
    else (ltb 0 (kind_number k) && ltb a net.stations && (if ltb 3 (kind_number k) then is_link_at net a b else eqb b 0))

unfoldable pub exists : World → Event → Bool
exists w e = exists_as (kind_of e.kind) w.net (length w.letters) e.a e.b

-- ---- the one station that an event concerns: a, or the receiver of the letter, which is the end of its link that is not its sender
abbrev pub receiver_in : Network → Letter → ℕ
receiver_in net x = other net x.link x.sender

abbrev pub concerned_by : Kind → Network → ℕ → Letter → ℕ
concerned_by k net a x = if takes_letter k then receiver_in net x else a

unfoldable pub concerned : World → Event → ℕ
concerned w e = concerned_by (kind_of e.kind) w.net e.a (letter_at w e.a)

-- ---- what it comes to there: 6, 7, 8, or what is done
unfoldable pub rule : World → Event → Rule
rule w e = rule_at (concerned w e) (kind_of e.kind) e.b (letter_at w e.a) (holding_at w (concerned w e))

unfoldable pub comes : World → Event → Due
comes w e = due_of (exists w e) (rule w e) (holding_at w (concerned w e)).condition

unfoldable pub done : World → Event → Done
done w e = done_by w.net (concerned w e) (holding_at w (concerned w e)) (comes w e).act

-- ---- the world after it: the station stored; a letter that is delivered or lost leaves the list, the later ones close up, and new
-- letters go to the end
unfoldable pub left : World → Event → List Letter
left w e = if takes_letter (kind_of e.kind) then without e.a w.letters else w.letters

unfoldable pub after : World → Event → World
after w e = record { net = w.net; holdings = set w.holdings (concerned w e) (done w e).holding; letters = left w e ++ (done w e).sent }

-- ---- 9: more than 4,096 letters would be in flight after the event
unfoldable pub fits : World → Event → Bool
fits w e = leb (length (after w e).letters) letter_room

-- ---- the step. It answers the number that refuses the event, the first in their order, or 0 for one that is accepted
unfoldable pub refusal : World → Event → ℕ
refusal w e = if eqb (comes w e).number 0 then (if fits w e then 0 else 9) else (comes w e).number

abbrev pub accepted : World → Event → Bool
accepted w e = eqb (refusal w e) 0

-- it leaves the world after the event, or the very world where the event is refused
abbrev pub next : World → Event → World
next w e = if accepted w e then after w e else w

-- ---- well formed, and the world right after reading a sheet
unfoldable pub well_formed : World → Bool
well_formed w =
    sheet_holds w.net && eqb (length w.holdings) w.net.stations
    && every (λ s. holding_holds w.net s (holding_at w s)) (below w.net.stations)
    && leb (length w.letters) letter_room && every (letter_holds w.net) w.letters

-- every station is down and no letter is in flight
unfoldable pub fresh : Network → World
fresh net = record { net = net; holdings = map (λ s. (done_by net s nobody stop_act).holding) (below net.stations); letters = [] }

-- ---- the tally's three numbers of an accepted event
-- how many of some letters are notices
abbrev pub notices_of : List Letter → ℕ
notices_of xs = sum_of (λ x. bit (is_notice x.body)) xs

-- notices taken off by events 7 and 8
abbrev pub settled : World → Event → ℕ
settled w e = (comes w e).counts.settled

-- counters that the event leaves higher than before, over all stations
unfoldable pub raised : World → Event → ℕ
raised w e = sum_of (λ s. higher w.net (holding_at w s) (holding_at (after w e) s)) (below w.net.stations)

-- letters that event 8 takes, or event 7 at a receiver that isn't live or is quiet there
abbrev pub dropped : World → Event → ℕ
dropped w e = (comes w e).counts.dropped

-- ---- the reach report and the reach, for a live station and from its own table
-- 6: no such station; 7: it isn't live
unfoldable pub ask_refusal : World → ℕ → ℕ
ask_refusal w s = if not (ltb s w.net.stations) then 6 else (if not (is_live (holding_at w s).condition) then 7 else 0)

unfoldable pub report_at : World → ℕ → List ℕ
report_at w s = report w.net (works_in (holding_at w s).table) s

-- as a word, with how many are reached and the lowest that is not, or 255
unfoldable pub reach_at : World → ℕ → Reached
reach_at w s =
    let set = reach w.net (works_in (holding_at w s).table) s in
    record { word = word_of set; ones = count_of set; lowest = lowest_of set }
