use Rattle.std.proofs.Common.{refl, sym, ◌∙◌}
use Rattle.lists.proofs.Tests.{is_T}
use Rattle.backlog_rules.proofs.Laws.{bad_state, good_state}
use Rattle.backlog_run.proofs.run_backlog.Goals as goal

pub returns-then-not-well_formed : goal.returns-then-not-well_formed
returns-then-not-well_formed c =
    let a = c.args in
    sym (bad_state a.s a.t a.events.now (sym c.well_formed-2.ensures.0 ∙ c.if-not-well_formed.true))

pub returns : goal.returns
returns c =
    c.take_events.ensures.stopped refl
    ∙ sym (good_state _ _ _ (is_T _ (sym c.well_formed-2.ensures.0 ∙ c.if-not-well_formed.false)))
