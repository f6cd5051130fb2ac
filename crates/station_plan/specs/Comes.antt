-- The plan of an event, and what it must say: at every station that has what it was made from, it is what the event comes to by station's
-- rules.
use Rattle.std.specs.Prelude.{ℕ, ◌<◌, Bool, true, false, ◌≡◌, T, get_or}
use Rattle.net.specs.declared.Body.TheVariants.{Request}
use Rattle.net.specs.declared.Letter.{Letter}
use Rattle.net.specs.declared.Net.{Net}
use Rattle.net.specs.Values.{link_count}
use Rattle.sets.specs.Sets.{word_by}
use Rattle.marks.specs.declared.Words.{Words}
use Rattle.marks.specs.Marks.{marks_at, own_at}
use Rattle.station.specs.declared.Condition.{Condition}
use Rattle.station.specs.declared.Kind.{Kind}
use Rattle.station.specs.declared.Kind.TheVariants.{NoSuch, Start, Stop, Recovery, IntervalEnd, TimeoutEnd, QuietEnd, Delivery, Loss}
use Rattle.station.specs.declared.Station.{Station}
use Rattle.station.specs.Acts.{subject_of}
use Rattle.station.specs.Events.{rule_of, rule_at, due_of, takes_letter}
use Rattle.station.specs.Values.{holding_of, unmarked, blank}
use Rattle.station_plan.specs.declared.Plan.{Plan}
use Rattle.station_plan.specs.Plans.{plan_of}
use Rattle.station_plan.specs.Planned.{Planned, Like}

-- ---- the plan: by whether what the event names is there, the own links, the station s, the link k, the letter, the counter of k and
-- that of the link told of, the condition and the marks
unfoldable pub event_plan : Bool → Kind → ℕ → ℕ → ℕ → Letter → ℕ → ℕ → Condition → Words → Plan
event_plan there e own s k l c told x w = plan_of own w (due_of there (rule_of s k l x (marks_at w k) c told e) x)

-- of an event that takes no letter: neither the station's number nor a letter matters
abbrev pub own_plan : Kind → ℕ → ℕ → ℕ → Condition → Words → Plan
own_plan e own k c x w = event_plan true e own 0 k (record { link = 0; sender = 0; body = Request }) c 0 x w

-- ---- what it must say
-- the room that a station's new holding is laid over: a start makes the marks anew, a stop everything
abbrev pub room_of : Kind → Station → Station
room_of NoSuch st = st
room_of Start st = unmarked st
room_of Stop st = blank
room_of Recovery st = st
room_of IntervalEnd st = st
room_of TimeoutEnd st = st
room_of QuietEnd st = st
room_of Delivery st = st
room_of Loss st = st

-- an event of this kind at the station s, on link k or with the letter x
abbrev pub Plans : Kind → Net → ℕ → ℕ → Letter → Station → Bool → Plan → Type 0
Plans e net s k x st there r =
    Planned net s st (room_of e st) (due_of there (rule_at s e k x (holding_of net st)) st.condition) r

-- ---- what a plan is made from, beside the condition and the marks (Like): the own links, and the counter of link k
abbrev pub Own : ℕ → Net → ℕ → Type 0
Own own net s = own ≡ word_by (own_at net s)

abbrev pub Counts : ℕ → ℕ → Station → Type 0
Counts c k st = c ≡ get_or st.counters k 0

-- whether an event of this kind names a link of the station
abbrev pub on_link : Kind → Bool
on_link NoSuch = false
on_link Start = false
on_link Stop = false
on_link Recovery = false
on_link IntervalEnd = true
on_link TimeoutEnd = true
on_link QuietEnd = true
on_link Delivery = true
on_link Loss = false

-- what the event names is there: its link k, or the letter came on it and tells of a link that is there
pub record Meant (net : Net) (st : Station) (e : Kind) (k : ℕ) (l : Letter) (told : ℕ) : Type 0 where
  pub link : T (on_link e) → k < link_count net
  pub letter : T (takes_letter e) → l.link ≡ k
  pub subject : T (takes_letter e) → subject_of l.body < link_count net
  pub tells : T (takes_letter e) → Counts told (subject_of l.body) st

abbrev pub EventPlans : Bool → Kind → ℕ → ℕ → ℕ → Letter → ℕ → ℕ → Condition → Words → Plan → Type 0
EventPlans there e own s k l c told x w r =
    (net : Net) (st : Station) → Like x w st → Own own net s → Counts c k st → (T there → Meant net st e k l told)
    → Plans e net s k l st there r
