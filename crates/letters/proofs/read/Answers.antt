use Rattle.std.proofs.Common.{◌≡◌, ap, ◌∙◌, ne_eqb}
use Rattle.std.specs.Prelude.{ok_or}
use Rattle.std.proofs.lemmas.Result.{err_from_is_err_and}
use Rattle.letters.specs.declared.LetterError.TheVariants.{Short, Malformed}
use Rattle.letters.proofs.Against.{formed, read_bad, read_short, read_unknown, read_range, place_inside, read_more, read_good}
use Rattle.letters.proofs.read.Goals as goal
use Rattle.letters.proofs.read.Goals.{then-said-eq0, else-said-eq0}

pub returns-then-not-keeps_sheet_rules : goal.returns-then-not-keeps_sheet_rules
returns-then-not-keeps_sheet_rules c = read_bad c.args.net c.args.bytes.now c.if-not-keeps_sheet_rules.ensures

pub returns-in_err-field : goal.returns-in_err-field
returns-in_err-field c =
    let p = err_from_is_err_and c.from_residual.result c.from_residual.ensures.1 in
    let v = c.in_err-field.ensures.value ∙ ap (λ o. ok_or o Short) c.in_err-field.ensures.ok_part in
    let e : c.in_err-field.field-0.0 ≡ Short = cc in
    rw (p.1, p.2, e)
    (read_short c.args.net c.args.bytes.now c.if-not-keeps_sheet_rules.ensures (rw c.in_err-field.ensures.ok_part at c.cut_first.ensures))

pub returns-in_err-said : goal.returns-in_err-said
returns-in_err-said c =
    let p = err_from_is_err_and c.from_residual-in_err-said.result c.from_residual-in_err-said.ensures.1 in
    let v = c.in_err-said.ensures.value ∙ ap (λ o. ok_or o Malformed) c.in_err-said.ensures.ok_part in
    let e : c.in_err-said.field-0.0 ≡ Malformed = cc in
    rw (p.1, p.2, e)
    (read_unknown (record { good = c.if-not-keeps_sheet_rules.ensures; cut = rw c.in_ok-field.ensures.ok_part at c.cut_first.ensures })
    (rw c.in_err-said.ensures.ok_part at c.of.ensures.form))

pub returns-then-not-holds : goal.returns-then-not-holds
returns-then-not-holds c =
    read_range (formed c.if-not-keeps_sheet_rules.ensures c.cut_first.ensures c.in_ok-field.ensures.ok_part c.of.ensures.form
    c.of.ensures.ends c.in_ok-said.ensures.ok_part) c.if-not-holds.ensures

pub returns-then-not-is_empty : goal.returns-then-not-is_empty
returns-then-not-is_empty c =
    read_more (formed c.if-not-keeps_sheet_rules.ensures c.cut_first.ensures c.in_ok-field.ensures.ok_part c.of.ensures.form
    c.of.ensures.ends c.in_ok-said.ensures.ok_part) c.if-not-holds.ensures
    c.if-not-is_empty.ensures

pub bounds-net-i : goal.bounds-net-i
bounds-net-i c =
    place_inside (formed c.if-not-keeps_sheet_rules.ensures c.cut_first.ensures c.in_ok-field.ensures.ok_part c.of.ensures.form
    c.of.ensures.ends c.in_ok-said.ensures.ok_part) c.if-not-holds.ensures

pub bounds-net-i-2 : goal.bounds-net-i-2
bounds-net-i-2 c =
    place_inside (formed c.if-not-keeps_sheet_rules.ensures c.cut_first.ensures c.in_ok-field.ensures.ok_part c.of.ensures.form
    c.of.ensures.ends c.in_ok-said.ensures.ok_part) c.if-not-holds.ensures

pub returns : goal.returns
returns c =
    read_good (formed c.if-not-keeps_sheet_rules.ensures c.cut_first.ensures c.in_ok-field.ensures.ok_part c.of.ensures.form
    c.of.ensures.ends c.in_ok-said.ensures.ok_part) c.if-not-holds.ensures
    c.if-said-eq0.sender c.if-not-is_empty.ensures
    (elim c.if-said-eq0.branch [
      | then-said-eq0 w ↦ w.sender-is ∙ simp w.if-said-eq0.true
      | else-said-eq0 w ↦
          w.sender-is ∙ simp (ne_eqb c.in_ok-said.said.side 0 w.if-said-eq0.false)
    ])
