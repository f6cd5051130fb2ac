-- Document 01's own example, byte for byte: the event program's definition (crate `event_program`) is given the example's sheet and the
-- text of its events, and the checker computes the whole output.
use mathlib.Core.Path.{◌≡◌, refl}
use Rattle.fields.specs.Fields.{first_field}
use Rattle.sheet.specs.Sheet.{opened, judged, read_links, read_sheet}
use Rattle.counters.specs.Counters.{healed, healing}
use Rattle.reach.specs.Reach.{spread, within, reach, purge}
use Rattle.station.specs.Done.{known, done_by, own_links}
use Rattle.station.proofs.Doing.{answer}
use Rattle.station.specs.Events.{due_of}
use Rattle.world.specs.World.{exists, concerned, rule, comes, left, after, fits, refusal, fresh, raised}
use Rattle.world.specs.World as W
use Rattle.text.specs.Text.{digits_in, digits}
use Rattle.event_lines.specs.Events.{pieces, is_event, event_line}
use Rattle.event_lines.specs.Split.{lines_of}
use Rattle.console.specs.Sheets.{file_sheet}
use Rattle.event_program.specs.Stations.{station_text}
use Rattle.event_program.specs.Events.{answer_text, done, printed_for, printed, done_all, end_text, event_program}
use Rattle.demands.specs.Sample.{sheet, events, output}

pub sample_is : event_program sheet events ≡ output
unfolding sheet events output event_program file_sheet read_sheet first_field opened judged read_links lines_of event_line is_event pieces
    printed printed_for done done_all end_text answer_text station_text digits digits_in fresh exists concerned rule comes W.done due_of left
    after fits refusal raised done_by answer healed healing own_links known purge reach within spread
sample_is = refl
