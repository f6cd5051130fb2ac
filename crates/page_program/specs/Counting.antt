-- How many events were taken and refused, by the trace of their run, and the page's first line.
use Rattle.std.specs.Prelude.{ℕ, List, [], ◌∷◌, ◌++◌, eqb, if◌then◌else◌}
use Rattle.tally.specs.Sums.{added}
use Rattle.text.specs.Text.{digits}
use Rattle.page_program.specs.Words.{events_taken, refused_word}
use Rattle.page_program.specs.declared.Answers.{Answers}

abbrev pub took_one : Answers → Answers
took_one a = record { taken = added a.taken 1; refused = a.refused }

abbrev pub refused_one : Answers → Answers
refused_one a = record { taken = a.taken; refused = added a.refused 1 }

-- an event that is answered by 0 is taken
abbrev pub counted : ℕ → Answers → Answers
counted answer a = if eqb answer 0 then took_one a else refused_one a

-- a trace has three numbers an event, and the first is its answer
unfoldable pub counting : List ℕ → Answers → Answers
counting [] a = a
counting (answer ∷ []) a = a
counting (answer ∷ flying ∷ []) a = a
counting (answer ∷ flying ∷ settled ∷ trace) a = counting trace (counted answer a)

-- "`T events taken, R refused`"
unfoldable pub counts_text : ℕ → ℕ → List ℕ
counts_text taken refused = digits taken ++ events_taken ++ digits refused ++ refused_word
