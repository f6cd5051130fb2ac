-- What a plan must say of what an event comes to: that what it makes of the station and what it sends is what is done, by the
-- definitions of station. That the plan of each event says so: proofs/Laws.antt.
use Rattle.std.specs.Prelude.{ℕ, ◌≡◌, length}
use Rattle.net.specs.Sizes.{link_room}
use Rattle.tally.specs.declared.Tally.{Tally}
use Rattle.net.specs.declared.Net.{Net}
use Rattle.net.specs.Values.{network_of}
use Rattle.marks.specs.declared.Words.{Words}
use Rattle.station.specs.declared.Condition.{Condition}
use Rattle.station.specs.declared.Station.{Station}
use Rattle.station.specs.Done.{Done, done_by}
use Rattle.station.specs.Events.{Due}
use Rattle.station.specs.Values.{holding_of, laid}
use Rattle.station_plan.specs.declared.Plan.{Plan}
use Rattle.station_plan.specs.Plans.{station_by, letters_by, stays}

-- ---- a plan that refuses nothing: the station st becomes what is done, laid over this room, and the letters are those that are sent
pub record Acts (net : Net) (s : ℕ) (st room : Station) (d : Done) (t : Tally) (r : Plan) : Type 0 where
  pub answer : r.answer ≡ 0
  pub station : station_by net s r st ≡ laid net room d.holding
  pub sent : letters_by net s r st ≡ d.sent
  pub counts : r.counts ≡ t

-- ---- by what the event comes to: refused, and the plan says nothing more, or done
pub record Planned (net : Net) (s : ℕ) (st room : Station) (d : Due) (r : Plan) : Type 0 where
  pub answer : r.answer ≡ d.number
  pub counts : r.counts ≡ d.counts
  pub done : d.number ≡ 0 → Acts net s st room (done_by (network_of net) s (holding_of net st) d.act) d.counts r
  pub refused : (d.number ≡ 0 → ⊥) → r ≡ stays d.number 0 0 st.condition st.marks

-- the station has the condition and the marks that a plan was made from
pub record Like (x : Condition) (w : Words) (st : Station) : Type 0 where
  pub condition : st.condition ≡ x
  pub words : st.marks ≡ w
  pub size : length st.counters ≡ link_room
