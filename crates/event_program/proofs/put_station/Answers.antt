use mir.Syntax.{w16}
use mir.Val.{Fits}
use Rattle.event_program.proofs.Stations.{counter_text, counters_more, station_whole, station_few}
use Rattle.text.proofs.Lines.{adds_put, adds_then, adds_same}
use Rattle.text.specs.Text.{digits}
use lib.ListN.{get_or, take}
use lib.Seq.{take_all}
use Rattle.lists.specs.Places.{collect}
use mathlib.Core.List.{List, [], ◌++◌, append-nil}
use mathlib.Core.Path.{◌≡◌, ap, sym}
use Prim.Native.Nat.{ℕ, ◌<◌}
use native.Mathlib.Omega.{arith}
use Rattle.event_program.proofs.put_station.Goals as goal

pub loop-counter-init : goal.loop-counter-init
loop-counter-init c = adds_same (sym (append-nil (digits c.args.i))) (adds_put c.number.ensures)

pub loop-counter-preserved : goal.loop-counter-preserved
loop-counter-preserved c =
    let l = c.loop-counter in
    let a = c.args in
    adds_same (counters_more ([] ++ digits a.i) a.counters.now l.counter-index c.loop-counter-test.true)
    (adds_then (adds_then l.invariant c.word.ensures) c.number-in-loop-counter.ensures)

pub returns : goal.returns
returns c =
    let l = c.loop-counter in
    let a = c.args in
    let all : take l.counter-index a.counters.now ≡ a.counters.now = take_all l.counter-index a.counters.now c.loop-counter-test.false in
    let small : (k : ℕ) → get_or a.counters.now k 0 < 65536 =
    λ k. (let f : Fits w16 (get_or a.counters.now k 0) = c.type_inv.counters k in f.fits) in
    record {
      text =
          adds_same (station_whole a.i a.counters.now)
          (adds_then (adds_same (ap (λ (xs : List ℕ). ([] ++ digits a.i) ++ collect counter_text xs) all) l.invariant) c.word-2.ensures);
      few = station_few a.i a.counters.now (omega arith) (omega arith) small;
    }
