use Rattle.std.proofs.Common.{rules, sym, refl}
use Rattle.sheet.proofs.Output.{few_links, write_bad, write_short, links_room, write_all}
use Rattle.sheet.proofs.write.Goals as goal

pub returns-then-not-keeps_sheet_rules : goal.returns-then-not-keeps_sheet_rules
returns-then-not-keeps_sheet_rules c =
    let p = write_bad _ _ c.keeps_sheet_rules.ensures c.args.out.now (search rules) in
    record { answer = p.0; output = p.1 }

pub returns-then-out-size : goal.returns-then-out-size
returns-then-out-size c =
    let p = write_short _ (sym c.if-not-keeps_sheet_rules.ensures) c.args.out.now c.if-out-size.true in
    record { answer = p.0; output = p.1 }

pub put_links-requires : goal.put_links-requires
put_links-requires c = (
  few_links _ (sym c.if-not-keeps_sheet_rules.ensures),
  links_room _ (sym c.if-not-keeps_sheet_rules.ensures) c.args.out.now c.if-out-size.false _ c.put.ensures.output,
)

pub returns : goal.returns
returns c =
    let p = write_all _ (sym c.if-not-keeps_sheet_rules.ensures) c.args.out.now c.if-out-size.false _ c.put.ensures.output _ _
    c.put_links.ensures refl _ _ c.put-2.ensures.output refl in
    record { answer = p.0; output = p.1 }
