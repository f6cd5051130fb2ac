use Rattle.std.proofs.Common.{◌≡◌, ℕ, ◌<◌, List, length, get_or, replicate, rules, ap, sym, ◌∙◌, arith}
use lib.ListN.{length-replicate, get_or-replicate}
use lib.Seq.{ext_get_or}
use Rattle.net.specs.Sizes.{station_room, link_room}
use Rattle.station.specs.Values.{no_words, blank}
use Rattle.run_rooms.specs.Rooms.{no_held, stations_in}
use Rattle.run_rooms.proofs.Loops.{fills_none, fills_more, fills_all}
use Rattle.run_rooms.proofs.stations_of.Goals as goal

all_zero : (xs : List ℕ) (n : ℕ) → length xs ≡ n → ((i d : ℕ) → i < n → get_or xs i d ≡ 0) → xs ≡ replicate n 0
all_zero xs n e h =
    ext_get_or 0 xs (replicate n 0) (e ∙ sym (length-replicate {A = ℕ} n 0))
    (λ i l. let b : i < n = omega (arith, l, e) in h i 0 b ∙ sym (get_or-replicate {A = ℕ} n i 0 0 b))

pub loop-i-init : goal.loop-i-init
unfolding blank
loop-i-init c =
    let none = c.default-stations.result in
    let z = c.default-stations.ensures in
    let table = all_zero none.counters link_room z.1.0.long z.1.0.at in
    let words : none.marks ≡ no_words = search rules in
    fills_none _ station_room none blank (λ j. record { condition = z.0 j; counters = table j; marks = words j })

pub loop-i-preserved : goal.loop-i-preserved
loop-i-preserved c =
    let l = c.loop-i in
    let h = get_or c.args.held l.i no_held in
    fills_more l.invariant (omega arith) _
    (ap (λ (t : List ℕ). record { condition = h.condition; counters = t; marks = h.marks }) c.table_at.ensures)

pub returns : goal.returns
unfolding stations_in
returns c = fills_all c.loop-i.invariant (omega (arith, c.loop-i.invariant.within))
