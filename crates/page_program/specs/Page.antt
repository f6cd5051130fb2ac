-- A station's part of the page, for every state.
use Rattle.std.specs.Prelude.{ℕ, List, replicate}
use Rattle.station.specs.Holding.{is_waiting}
use Rattle.state.specs.declared.State.{State}
use Rattle.state.specs.State.{station_in}
use Rattle.report.specs.Answers.{asked_of}
use Rattle.report.specs.ReportsAnswers.{output_of}
use Rattle.page_part.specs.Parts.{part_text}

-- "made from the public report and reach calls": the numbers are the reach's, and the report is what that call leaves in room of 96 bytes
abbrev pub report_room : List ℕ
report_room = replicate 96 0

unfoldable pub station_part : State → ℕ → List ℕ
station_part s i =
    part_text (asked_of s i).answer s.net i (asked_of s i).reached.ones (asked_of s i).reached.lowest
    (is_waiting (station_in s i).condition) (output_of s i report_room)
