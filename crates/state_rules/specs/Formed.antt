-- Which station values are well formed.
use Rattle.std.specs.Prelude.{ℕ, ◌-◌, min, Bool, ◌&&◌, ltb, get_or, drop}
use Rattle.lists.specs.Lists.{every, from}
use Rattle.lists.specs.Words.{in_word}
use Rattle.net.specs.declared.Net.{Net}
use Rattle.net.specs.Values.{network_of, link_count, is_zero}
use Rattle.net.specs.Sizes.{link_room}
use Rattle.marks.specs.Marks.{marks_at}
use Rattle.station.specs.declared.Station.{Station}
use Rattle.station.specs.Holding.{holding_holds, is_off, is_live}
use Rattle.station.specs.Values.{holding_of}
use Rattle.state_rules.specs.Steps.{every_place, counter_test, marks_test}

-- what the station s holds is well formed, and its unused room is zero: no counter and no mark beyond the links
unfoldable pub station_formed : Net → ℕ → Station → Bool
station_formed net s st =
    holding_holds (network_of net) s (holding_of net st)
    && every is_zero (drop (link_count net) st.counters)
    && every (λ t. is_off (marks_at st.marks t)) (from (link_count net) (link_room - link_count net))

-- the same for code, place by place: in a network of so many links, with these own links. That it is the same: proofs/Parts.antt
unfoldable pub station_test : ℕ → ℕ → Station → Bool
station_test links own st =
    every_place (λ t. marks_test st.condition (in_word own t) (marks_at st.marks t))
    && every_place (λ t. counter_test (ltb t (min links link_room)) (is_live st.condition) (get_or st.counters t 0))
