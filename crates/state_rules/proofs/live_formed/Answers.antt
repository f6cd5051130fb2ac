use Rattle.std.proofs.Common.{arith}
use Rattle.state_rules.proofs.WordTests.{tests_apart_lem, marks_own_lem, live_is}
use Rattle.state_rules.proofs.live_formed.Goals as goal

pub returns-then-token_apart : goal.returns-then-token_apart
returns-then-token_apart c =
    let e = c.beside_token.ensures in
    live_is c.args.w c.args.own _ e _ _ _ _ _
    (tests_apart_lem c.args.w c.args.own _ e _ _ _ c.join.ensures c.join-idle.ensures c.apart-tests_apart.ensures)
    c.within-asked_tests.ensures c.apart-token_apart.ensures
    (marks_own_lem c.args.w c.args.own _ e _ _ c.join-all.ensures c.within-marks_own.ensures)
    (grind arith)

pub returns-else-token_apart : goal.returns-else-token_apart
returns-else-token_apart c =
    let e = c.beside_token.ensures in
    live_is c.args.w c.args.own _ e _ _ _ _ _
    (tests_apart_lem c.args.w c.args.own _ e _ _ _ c.join.ensures c.join-idle.ensures c.apart-tests_apart.ensures)
    c.within-asked_tests.ensures c.apart-token_apart.ensures
    (marks_own_lem c.args.w c.args.own _ e _ _ c.join-all.ensures c.within-marks_own.ensures)
    (grind arith)
