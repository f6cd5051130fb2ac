use Rattle.std.proofs.Common.{◌≡◌, ◌≤◌, List, arith, refl, length, length-take, replicate}
use Rattle.std.proofs.lemmas.List.{length-replicate}
use Rattle.net.specs.Sizes.{station_room}
use Rattle.station.specs.declared.Station.{Station}
use Rattle.world.specs.World.{no_letter}
use Rattle.state.proofs.Begin.{good_stations, filled_with, begun_bad, begun_good}
use Rattle.state.proofs.fresh.Goals as goal

pub returns-then-not-keeps_sheet_rules : goal.returns-then-not-keeps_sheet_rules
returns-then-not-keeps_sheet_rules c =
    let u : c.default-unused.result ≡ no_letter = grind arith in
    begun_bad c.args.net _ c.keeps_sheet_rules.ensures _ _ c.no_station-nobody.ensures u c.if-not-keeps_sheet_rules.true

pub slice_bounds-stations-end : goal.slice_bounds-stations-end
slice_bounds-stations-end c =
    good_stations c.args.net c.keeps_sheet_rules.result c.keeps_sheet_rules.ensures c.if-not-keeps_sheet_rules.false

pub slice_bounds-fill_stations-end : goal.slice_bounds-fill_stations-end
slice_bounds-fill_stations-end c =
    let few = good_stations c.args.net c.keeps_sheet_rules.result c.keeps_sheet_rules.ensures c.if-not-keeps_sheet_rules.false in
    omega (
      arith,
      few,
      length-take c.args.net.stations (replicate station_room c.no_station-nobody.result),
      length-replicate station_room c.no_station-nobody.result,
    )

pub returns : goal.returns
returns c =
    let u : c.default-unused.result ≡ no_letter = grind arith in
    let old : List Station = replicate station_room c.no_station-nobody.result in
    let few = good_stations c.args.net c.keeps_sheet_rules.result c.keeps_sheet_rules.ensures c.if-not-keeps_sheet_rules.false in
    let room : c.args.net.stations ≤ length old = omega (arith, few, length-replicate station_room c.no_station-nobody.result) in
    begun_good c.args.net _ c.keeps_sheet_rules.ensures _ _ c.no_station-nobody.ensures u
    _ _ c.args.net.stations c.if-not-keeps_sheet_rules.false refl c.down_station-down.ensures
    (filled_with c.down_station-down.result old _ c.args.net.stations room c.fill_stations.ensures)
