use Rattle.event_program.proofs.Stations.{stations_whole, no_lines, one_more}
use Rattle.console.proofs.Puts.{line_answer, line_output, line_counts}
use Rattle.event_program.specs.Stations.{stations_text, stations_most}
use Rattle.text.proofs.Lines.{adds_same}
use native.Mathlib.Omega.{arith}
use lib.ListN.{length}
use Prim.Native.Nat.{◌≤◌}
use lib.Seq.{length-take-le}
use mathlib.Core.Path.{◌≡◌, refl, ap, sym}
use Rattle.std.proofs.Common.{rules}
use Rattle.event_program.proofs.put_stations.Goals as goal

pub loop-i-init : goal.loop-i-init
loop-i-init c = no_lines c.args.s _

pub loop-i-preserved : goal.loop-i-preserved
loop-i-preserved c =
    let l = c.loop-i in
    let a = c.args in
    let size : length a.s.stations ≡ 32 = search rules in
    let p = c.put_station.ensures in
    one_more a.s l.i c.min-stations.result c.min-links.result _ _ _
    (omega (arith, length-take-le c.min-stations.result a.s.stations (omega arith))) c.min-links.ensures l.invariant (p.text, p.few)

pub returns : goal.returns
returns c =
    let l = c.loop-i in
    let a = c.args in
    let size : length a.s.stations ≡ 32 = search rules in
    let count = length-take-le c.min-stations.result a.s.stations (omega arith) in
    let all = stations_whole a.s c.min-stations.result l.i c.min-stations.ensures (omega (arith, count)) in
    let text = adds_same all l.invariant.text in
    let few : length (stations_text a.s) ≤ stations_most = omega (arith, l.invariant.few, ap length (sym all), count) in
    record {
      answer = line_answer stations_most text refl few (omega arith);
      output = line_output stations_most text refl few (omega arith) (search rules);
      room = line_counts stations_most text refl few (omega arith) (search rules);
    }
