use Rattle.std.proofs.Common.{rules, length-take, length-drop, ◌&&◌, ◌||◌, ◌≡◌, Bool, ℕ, eqb, leb, length, sym, ap, ◌∙◌, arith}
use Rattle.net.specs.Letters.{is_counter}
use Rattle.state_rules.proofs.Gathered.{gather_more}
use Rattle.state_rules.proofs.Counted.{beyond_none, mismarked, by_counters, place_before, place_beyond, beyond_more, none_beyond}
use Rattle.station.specs.Holding.{is_live}
use Rattle.state_rules.proofs.station_formed.Goals as goal
use Rattle.state_rules.proofs.station_formed.Goals.{then-wrong-eq0+then-is_live, then-wrong-eq0+else-is_live, else-wrong-eq0}

pub returns-then-not-marks_formed : goal.returns-then-not-marks_formed
returns-then-not-marks_formed c =
    mismarked c.args.links c.args.own c.args.st _ c.marks_formed.ensures c.if-not-marks_formed.true

pub loop-c-preserved : goal.loop-c-preserved
loop-c-preserved c =
    let k = c.loop-c.c-index in
    let there = place_before c.args.st.counters _ k c.loop-c-test.true in
    record {
      right = gather_more _ k _ _ c.loop-c.invariant.right
          (c.joined-wrong.ensures.0 ∙ ap (λ (b : Bool). eqb c.loop-c.wrong 0 && b) (c.no_counter.ensures ∙ ap is_counter there));
      low = gather_more _ k _ _ c.loop-c.invariant.low
          (c.joined-all.ensures.1 ∙ ap (λ (n : ℕ). leb c.loop-c.all 1 && leb n 1) there);
    }

pub loop-c-2-init : goal.loop-c-2-init
loop-c-2-init c =
    beyond_none c.args.st.counters c.at_most_64-m.result ∙ ap (none_beyond c.args.st.counters c.at_most_64-m.result) (omega arith)

pub loop-c-2-preserved : goal.loop-c-2-preserved
loop-c-2-preserved c =
    beyond_more c.args.st.counters _ c.loop-c-2.c-index _ _ c.loop-c-2.invariant
    (c.joined-beyond.ensures.0
    ∙ ap (λ (b : Bool). eqb c.loop-c-2.beyond 0 && b) (place_beyond c.args.st.counters _ _ c.loop-c-2.c-index c.loop-c-2-test.true))

pub returns-then-low : goal.returns-then-low
returns-then-low c =
    let long : length c.args.st.counters ≡ 64 = search rules in
    let v : c.if-wrong-eq0.value ≡ (eqb c.loop-c.wrong 0 && (is_live c.args.st.condition || leb c.loop-c.all 1)) =
    elim c.if-wrong-eq0.branch
    [ then-wrong-eq0+then-is_live w ↦ grind arith | then-wrong-eq0+else-is_live w ↦ grind arith | else-wrong-eq0 w ↦ grind arith ] in
    ap (λ (x : Bool). x && eqb c.loop-c-2.beyond 0) (sym c.if-low.true)
    ∙ by_counters c.args.links c.args.own c.args.st _ c.marks_formed.ensures c.if-not-marks_formed.false
    _ c.at_most_64-m.ensures c.loop-c.c-index (omega (arith, length-take {A = ℕ})) c.loop-c-2.c-index
    (omega (arith, length-take {A = ℕ}, length-drop {A = ℕ})) _ _ _ _
    c.loop-c.invariant.right c.loop-c.invariant.low c.loop-c-2.invariant v

pub returns-else-low : goal.returns-else-low
returns-else-low c =
    let long : length c.args.st.counters ≡ 64 = search rules in
    let v : c.if-wrong-eq0.value ≡ (eqb c.loop-c.wrong 0 && (is_live c.args.st.condition || leb c.loop-c.all 1)) =
    elim c.if-wrong-eq0.branch
    [ then-wrong-eq0+then-is_live w ↦ grind arith | then-wrong-eq0+else-is_live w ↦ grind arith | else-wrong-eq0 w ↦ grind arith ] in
    c.if-low.false ∙ ap (λ (x : Bool). x && eqb c.loop-c-2.beyond 0) (sym c.if-low.false)
    ∙ by_counters c.args.links c.args.own c.args.st _ c.marks_formed.ensures c.if-not-marks_formed.false
    _ c.at_most_64-m.ensures c.loop-c.c-index (omega (arith, length-take {A = ℕ})) c.loop-c-2.c-index
    (omega (arith, length-take {A = ℕ}, length-drop {A = ℕ})) _ _ _ _
    c.loop-c.invariant.right c.loop-c.invariant.low c.loop-c-2.invariant v
