use Rattle.std.proofs.Common.{◌≡◌, Bool, ◌&&◌, ◌||◌, sym, ap, ◌∙◌, rules, arith, if◌then◌else◌}
use Rattle.station.specs.Holding.{is_down}
use Rattle.state.specs.State.{Fits}
use Rattle.state.proofs.Places.{place_tested}
use Rattle.state.proofs.station_place.Goals as goal
use Rattle.state.proofs.station_place.Goals.{then-used, else-used, then-used-2, else-used-2}

pub returns-then-stands : goal.returns-then-stands
returns-then-stands c =
    let a = c.args in
    let stands : c.if-used.stands ≡ (a.used || is_down a.st.condition) =
    elim c.if-used.branch [ then-used w ↦ grind arith | else-used w ↦ grind arith ] in
    let there : c.if-used-2.there ≡ (if a.used then a.links else 0) =
    elim c.if-used-2.branch [ then-used-2 w ↦ grind arith | else-used-2 w ↦ grind arith ] in
    let f : Fits a.st = record {
      counters = search rules;
      token = search rules;
      turn = search rules;
      testing = search rules;
      asked = search rules;
      quiet = search rules;
    } in (
      ap (λ (x : Bool). x && c.station_formed-formed.result) (sym c.if-stands.true)
          ∙ place_tested a.links a.used a.own a.st stands there c.station_formed-formed.ensures,
      f,
    )

pub returns-else-stands : goal.returns-else-stands
returns-else-stands c =
    let a = c.args in
    let stands : c.if-used.stands ≡ (a.used || is_down a.st.condition) =
    elim c.if-used.branch [ then-used w ↦ grind arith | else-used w ↦ grind arith ] in
    let there : c.if-used-2.there ≡ (if a.used then a.links else 0) =
    elim c.if-used-2.branch [ then-used-2 w ↦ grind arith | else-used-2 w ↦ grind arith ] in
    let f : Fits a.st = record {
      counters = search rules;
      token = search rules;
      turn = search rules;
      testing = search rules;
      asked = search rules;
      quiet = search rules;
    } in (
      c.if-stands.false ∙ ap (λ (x : Bool). x && c.station_formed-formed.result) (sym c.if-stands.false)
          ∙ place_tested a.links a.used a.own a.st stands there c.station_formed-formed.ensures,
      f,
    )
