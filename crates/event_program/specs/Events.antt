-- Document 01, "The event program": what is printed for a line, for lines one after the other, at the end, and in all.
use Rattle.std.specs.Prelude.{ℕ, List, [], ◌∷◌, ◌++◌, map, length, get_or}
use Rattle.lists.specs.Lists.{below}
use Rattle.lists.specs.Places.{collect}
use Rattle.tally.specs.declared.Tally.{Tally}
use Rattle.text.specs.Text.{digits}
use Rattle.event_lines.specs.Events.{event_line}
use Rattle.event_lines.specs.Split.{lines_of}
use Rattle.net.specs.Network.{Network}
use Rattle.sheet.specs.Sheet.{Sheet, refused, sheet}
use Rattle.world.specs.World.{World, Event, refusal, accepted, next, holding_at, fresh}
use Rattle.laws.specs.Tallied.{accepted_counts, tally_by}
use Rattle.console.specs.Sheets.{file_sheet, refusal_text}
use Rattle.event_program.specs.Stations.{station_text}

-- what stands between two lines
pub record Standing : Type 0 where
  pub world : World
  pub tally : Tally

-- the event that a line's numbers name (crate `event_lines`, event_line); a malformed line names none: there is no kind 0, so that it is
-- answered by 6 and changes nothing (proofs/Sayings.antt, malformed)
abbrev pub event_by : List ℕ → Event
event_by said = record { kind = get_or said 1 0; a = get_or said 2 0; b = get_or said 3 0 }

-- "answer, letters in flight, notices settled so far"
unfoldable pub answer_text : ℕ → ℕ → ℕ → List ℕ
answer_text answer flying settled = digits answer ++ 32 ∷ digits flying ++ 32 ∷ digits settled ++ 10 ∷ []

-- a line is done: the world after its event, and the tally that it was added to
unfoldable pub done : Standing → Event → Standing
done st e =
    record {
      world = next st.world e;
      tally = tally_by (accepted st.world e) st.tally (accepted_counts st.world e);
    }

unfoldable pub printed_for : Standing → Event → List ℕ
printed_for st e = answer_text (refusal st.world e) (length (done st e).world.letters) (done st e).tally.settled

-- lines one after the other, each given by its numbers
unfoldable pub printed : Standing → List (List ℕ) → List ℕ
printed st [] = []
printed st (said ∷ others) = printed_for st (event_by said) ++ printed (done st (event_by said)) others

unfoldable pub done_all : Standing → List (List ℕ) → Standing
done_all st [] = st
done_all st (said ∷ others) = done_all (done st (event_by said)) others

-- at the end, a line for each station (Stations.antt)
unfoldable pub end_text : World → List ℕ
end_text w = collect (λ s. station_text s (holding_at w s).table) (below w.net.stations)

-- ---- the whole output, from the sheet's file and the bytes of standard input
abbrev pub no_tally : Tally
no_tally = record { settled = 0; raised = 0; dropped = 0 }

abbrev pub begins : Network → Standing
begins net = record { world = fresh net; tally = no_tally }

abbrev pub output_by : Sheet → List (List ℕ) → List ℕ
output_by (refused n) said = refusal_text n
output_by (sheet net) said = printed (begins net) said ++ end_text (done_all (begins net) said).world

unfoldable pub event_program : List ℕ → List ℕ → List ℕ
event_program file input = output_by (file_sheet file) (map event_line (lines_of input))
