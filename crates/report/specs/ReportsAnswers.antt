-- What the call answers, in the world's words: the reach report as bytes. Document 01, "The reach report"
-- and "The numbers that say no".
use Rattle.std.specs.Prelude.{ℕ, List}
use Rattle.fields.specs.Output.{fitting_unless, writing_number, writing_output}
use Rattle.world.specs.World.{report_at}
use Rattle.state.specs.declared.State.{State}
use Rattle.state.specs.State.{world_of}
use Rattle.report.specs.Asking.{number_of}

-- ---- the report: the number, and the output after the call
unfoldable pub answer_of : State → ℕ → List ℕ → ℕ
answer_of s a old = writing_number (fitting_unless (number_of s a) (report_at (world_of s) a) old)

unfoldable pub output_of : State → ℕ → List ℕ → List ℕ
output_of s a old = writing_output (fitting_unless (number_of s a) (report_at (world_of s) a) old) old
