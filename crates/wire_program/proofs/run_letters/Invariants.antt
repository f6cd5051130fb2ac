use mathlib.Core.Path.{◌≡◌}
use Prim.Native.Nat.{◌-◌}
use lib.ListN.{length}
use Rattle.hex_lines.specs.HexSteps.{hex_start, read_hex}
use Rattle.console.proofs.Feeding.{Going}
use Rattle.wire_program.specs.Passing.{said_by, acted, spoken}
use Rattle.wire_program.proofs.run_letters.Given as goal

abbrev pub invariant-loop-stop : goal.invariant-loop-stop
invariant-loop-stop l = record {
  same : l.line.out.ghost_name ≡ l.initial.line.out.ghost_name;
  going : Going hex_start read_hex said_by acted spoken 64 l.bytes l.fn.out l.net l.fn.r l.line.out.now l.net l.reading l.line.at l.from;
}

abbrev pub decreases-loop-stop : goal.decreases-loop-stop
decreases-loop-stop l = length l.bytes - l.from
