use Rattle.std.proofs.Common.{arith}
use mathlib.Core.Logic.{inl, inr}
use Rattle.letters.proofs.Output.{write_bad, write_link, write_place, write_refused, write_good}
use Rattle.letters.proofs.write.Goals as goal
use Rattle.letters.proofs.write.Goals.{then-not-is_end-via-then-not-is_end, then-not-is_end-via-else-not-is_end+then-not-body_holds}

pub returns-then-not-keeps_sheet_rules : goal.returns-then-not-keeps_sheet_rules
returns-then-not-keeps_sheet_rules c =
    let p = write_bad c.args.net c.args.letter c.args.out.now c.if-not-keeps_sheet_rules.ensures in
    record { answer = p.0; output = p.1 }

pub returns-then-net-letter : goal.returns-then-net-letter
returns-then-net-letter c =
    let p = write_link c.args.net c.args.letter c.args.out.now c.if-not-keeps_sheet_rules.ensures c.if-net-letter.true in
    record { answer = p.0; output = p.1 }

pub bounds-net-i : goal.bounds-net-i
bounds-net-i c = write_place c.args.net c.args.letter c.args.out.now c.if-not-keeps_sheet_rules.ensures c.if-net-letter.false

pub bounds-net-i-2 : goal.bounds-net-i-2
bounds-net-i-2 c = write_place c.args.net c.args.letter c.args.out.now c.if-not-keeps_sheet_rules.ensures c.if-net-letter.false

pub returns-then-not-is_end : goal.returns-then-not-is_end
returns-then-not-is_end c =
    let p = write_refused c.args.net c.args.letter c.args.out.now c.if-not-keeps_sheet_rules.ensures c.if-net-letter.false
    (elim c.then-not-is_end.branch [
      | then-not-is_end-via-then-not-is_end w ↦ inl w.if-not-is_end.ensures
      | then-not-is_end-via-else-not-is_end+then-not-body_holds w ↦ inr w.if-not-body_holds.ensures
    ]) in
    record { answer = p.0; output = p.1 }

pub returns : goal.returns
returns c =
    let p = write_good c.args.net c.args.letter c.args.out.now c.if-not-keeps_sheet_rules.ensures c.if-net-letter.false
    c.if-not-is_end.ensures c.if-not-body_holds.ensures _ _ _ (grind arith) c.put.ensures.answer c.put.ensures.output in
    record { answer = p.0; output = p.1 }
