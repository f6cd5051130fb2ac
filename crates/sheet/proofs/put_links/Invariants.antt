use Rattle.std.proofs.Common.{◌≡◌}
use Rattle.fields.specs.Fields.{onto}
use Rattle.sheet.specs.Sheet.{write_links}
use Rattle.sheet.specs.Steps.{first_ends}
use Rattle.sheet.proofs.put_links.Given as goal

abbrev pub invariant-loop-i : goal.invariant-loop-i
invariant-loop-i l = l.out ≡ onto (write_links (first_ends l.net.low l.net.high l.i)) l.initial.out
