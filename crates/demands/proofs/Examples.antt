-- THE EVENT PROGRAM AND THE EXAMPLES of document 01: part of the demands (Demands.antt), which hands it on.
use Prim.Native.Nat.{ℕ}
use mathlib.Core.Path.{◌≡◌}
use mathlib.Core.List.{List, map}
use Rattle.laws.proofs.Cases as Cases
use Rattle.console.proofs.Lines.{joined}
use Rattle.event_program.specs.Events.{event_program}
use Rattle.event_program.specs.Calls.{calls_text}
use Rattle.event_program.proofs.Program.{event_program_lem}
use Rattle.demands.specs.Sample as Sample
use Rattle.demands.proofs.Sample.{sample_is}

pub record Examples : Type 0 where
  -- Whatever the pieces that standard input comes in, the program's calls print exactly what document 01 says of the file and the input.
  pub program : (file : List ℕ) (pieces : List (List ℕ)) → calls_text file pieces ≡ event_program file (joined pieces)
  -- Document 01's sheet and its nine lines give its whole output, byte for byte.
  pub sample : event_program Sample.sheet Sample.events ≡ Sample.output
  -- P1 to P13, as one table with a single claim.
  pub table : map (λ c. c.got) Cases.table ≡ map (λ c. c.want) Cases.table

pub examples : Examples
examples = record { program = event_program_lem; sample = sample_is; table = Cases.cases_hold }
