use Rattle.std.proofs.Common.{ℕ, List, ap₂, ◌∙◌}
use Rattle.station.specs.declared.Station.{Station}
use Rattle.station.specs.Values.{blank}
use Rattle.station.proofs.Fresh.{stop_is}
use Rattle.state.proofs.down_station.Goals as goal

with_counters : List ℕ → Station → Station
with_counters xs st = record { condition = st.condition; counters = xs; marks = st.marks }

pub returns : goal.returns
unfolding with_counters blank
returns c = ap₂ with_counters c.fresh_counters.ensures c.no_station.ensures ∙ stop_is c.args.net 0
