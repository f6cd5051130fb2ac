use Rattle.std.proofs.Common.{◌∙◌, ap}
use Rattle.hex_lines.specs.HexSteps.{read_hex}
use Rattle.hex_lines.proofs.Digits.{hex_takes, hex_long, hex_none}
use Rattle.hex_lines.proofs.read_hex.Goals as goal
use Rattle.hex_lines.proofs.read_hex.Goals.{in_default-via-in-Some+else-r-lt-MOST, in_default-via-in_default}

pub returns-in-Some : goal.returns-in-Some
returns-in-Some c =
    hex_takes _ _ _ _ c.in-Some.ensures.value c.if-r-lt-MOST.true c.with_hex.ensures ∙ ap (read_hex c.args.r) c.from.ensures

pub returns-in_default : goal.returns-in_default
returns-in_default c = elim c.in_default.branch [
  | in_default-via-in-Some+else-r-lt-MOST w ↦ hex_long _ _ _ w.if-r-lt-MOST.false c.not_hex.ensures
  | in_default-via-in_default w ↦ hex_none _ _ _ w.in_default.ensures.value c.not_hex.ensures ∙ ap (read_hex c.args.r) c.from.ensures
]
