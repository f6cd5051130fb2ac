-- A table's counter as the code reads it.
use Prim.Native.Nat.{ℕ, ◌<◌}
use mathlib.Core.Path.{◌≡◌, ◌∙◌}
use mathlib.Core.List.{List}
use native.Mathlib.Omega.{arith}
use lib.ListN.{length, get_or}
use lib.Seq.{get_or-take}
use Rattle.lists.proofs.Fill.{get_d_any}
use Rattle.net.specs.declared.Net.{Net}
use Rattle.net.specs.Values.{link_count}
use Rattle.net.specs.Sizes.{link_room}
use Rattle.reach.specs.Reach.{counter_in}
use Rattle.reach.specs.Values.{table_of}

pub counter_of_lem : (net : Net) (counters : List ℕ) (k : ℕ) → length counters ≡ link_room → k < link_count net
    → counter_in (table_of net counters) k ≡ get_or counters k 0
counter_of_lem net counters k e h = get_or-take (link_count net) counters k 1 h ∙ get_d_any counters k 1 0 (omega arith)
