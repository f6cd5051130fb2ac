use Rattle.std.proofs.Common.{◌∙◌}
use Rattle.reach.proofs.Working.{purged_by}
use Rattle.station_table.proofs.Carried.{kept_purged}
use Rattle.station_table.proofs.kept_table.Goals as goal

pub returns-then-purges : goal.returns-then-purges
returns-then-purges c =
    let a = c.args in
    purged_by a.net a.table a.me _ _ c.working_links-working.ensures c.purged.ensures
    ∙ kept_purged a.net a.me a.resets a.purges a.table c.if-resets.false c.if-purges.true
