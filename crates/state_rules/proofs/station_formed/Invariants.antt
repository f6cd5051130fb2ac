use Rattle.std.proofs.Common.{◌≡◌, ◌+◌, eqb, leb}
use Rattle.state_rules.proofs.Counted.{counters_hold, none_above, none_beyond}
use Rattle.state_rules.proofs.station_formed.Given as goal

abbrev pub invariant-loop-c : goal.invariant-loop-c
invariant-loop-c l = record {
  right : eqb l.wrong 0 ≡ counters_hold l.fn.st.counters l.m l.c-index;
  low : leb l.all 1 ≡ none_above l.fn.st.counters l.m l.c-index;
}

abbrev pub invariant-loop-c-2 : goal.invariant-loop-c-2
invariant-loop-c-2 l = eqb l.beyond 0 ≡ none_beyond l.fn.st.counters l.m (l.m + l.c-index)
