-- What an event names, its plan at the station that it concerns, and what becomes of the list of letters, as the code answers it.
use Rattle.std.specs.Prelude.{ℕ, ◌+◌, ◌-◌, ◌%◌, Bool, eqb, ltb, get_or, if◌then◌else◌}
use Rattle.net.specs.Sizes.{link_room, letter_room}
use Rattle.net.specs.declared.Letter.{Letter}
use Rattle.net.specs.declared.Net.{Net}
use Rattle.net.specs.Values.{network_of}
use Rattle.sets.specs.Rooms.{in_room}
use Rattle.station.specs.declared.Kind.{Kind}
use Rattle.station.specs.declared.Station.{Station}
use Rattle.station.specs.Acts.{subject_of}
use Rattle.station.specs.Events.{takes_letter, link_of}
use Rattle.station_plan.specs.declared.Plan.{Plan}
use Rattle.station_plan.specs.Comes.{event_plan, EventPlans}
use Rattle.world.specs.World.{no_letter, concerned_by, exists_as}
use Rattle.step_parts.specs.declared.Names.{Names}
use Rattle.step_parts.specs.declared.Room.{Room}

-- what it names; the station and the links are places in their rooms
unfoldable pub names_by : Net → ℕ → Kind → ℕ → ℕ → Letter → Names
names_by net flying kind a b x =
    record {
      station = in_room (concerned_by kind (network_of net) a x);
      there = exists_as kind (network_of net) flying a b;
      link = link_of kind b x % link_room;
      subject = subject_of x.body % link_room;
    }

-- the counter that a station's table has at a place of its room
abbrev pub counter_at : Station → ℕ → ℕ
counter_at st k = get_or st.counters (k % link_room) 0

-- what the event comes to at a station with these own links, in words; and that this is what document 01 says of every such station
-- (station_plan/specs/Comes)
unfoldable pub plan_by : Names → Kind → ℕ → Letter → Station → Plan
plan_by n e own x st =
    event_plan n.there e own n.station n.link x (counter_at st n.link) (counter_at st n.subject) st.condition st.marks

abbrev pub PlansAt : Names → Kind → ℕ → Letter → Station → Plan → Type 0
PlansAt n e own x st p =
    EventPlans n.there e own n.station n.link x (counter_at st n.link) (counter_at st n.subject) st.condition st.marks p

-- the place of the letter that a names; any other becomes 0
abbrev pub place_by : ℕ → ℕ
place_by a = if ltb a letter_room then a else 0

-- how many letters are left, and the number that says no
abbrev pub fewer_by : Bool → ℕ → ℕ
fewer_by leaves flying = if leaves then flying - 1 else flying

abbrev pub number_by : ℕ → ℕ → ℕ → ℕ
number_by planned left count = if eqb planned 0 then (if ltb letter_room (left + count) then 9 else 0) else planned

-- where a letter leaves, the later ones close up from its place on, and the last place falls free; where none does, none moves, and what
-- is laid down again stands where it was
unfoldable pub room_by : Kind → ℕ → ℕ → ℕ → ℕ → Letter → Room
room_by kind flying place planned count x =
    record {
      answer = number_by planned (fewer_by (takes_letter kind) flying) count;
      left = fewer_by (takes_letter kind) flying;
      from = if takes_letter kind then place else fewer_by (takes_letter kind) flying;
      free = if takes_letter kind then fewer_by (takes_letter kind) flying else place;
      unused = if takes_letter kind then no_letter else x;
    }
