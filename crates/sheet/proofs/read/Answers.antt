use mathlib.Core.Path.{subst}
use Rattle.std.proofs.lemmas.Result.{err_from_is_err_and}
use Rattle.sheet.specs.Values.{Says}
use Rattle.sheet.proofs.Loop.{read_faulty, read_on_lem}
use Rattle.sheet.proofs.read.Goals as goal

pub returns-in_err-n : goal.returns-in_err-n
returns-in_err-n c =
    let p = err_from_is_err_and c.from_residual.result c.from_residual.ensures.1 in
    rw (p.1, p.2) (read_faulty c.args.bytes.now _ c.in_err-n.ensures)

pub returns : goal.returns
returns c = subst (Says c.read_links.result) (read_on_lem c.args.bytes.now _ _ c.in_ok-n.ensures) c.read_links.ensures
