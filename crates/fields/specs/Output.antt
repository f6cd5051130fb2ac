-- What writing to lent output gives: bytes over its front, or 10 where it is too short; for sheets, letters, the report and the programs'
-- texts alike.
use Rattle.std.specs.Prelude.{ℕ, List, [], ◌∷◌, eqb, ltb, length, if◌then◌else◌}
use Rattle.fields.specs.Fields.{onto}

-- the number of a refusal, or the bytes that are written
pub data Writing : Type 0 where
  denied : ℕ → Writing
  writes : List ℕ → Writing

-- bytes for an output that is asked to have so much room: 10 where it is shorter
abbrev pub with_room : ℕ → List ℕ → List ℕ → Writing
with_room room new old = if ltb (length old) room then denied 10 else writes new

-- the same where no more room is asked than the bytes take
unfoldable pub fitting : List ℕ → List ℕ → Writing
fitting new old = with_room (length new) new old

-- the same where a number may refuse before
abbrev pub fitting_unless : ℕ → List ℕ → List ℕ → Writing
fitting_unless number new old = if eqb number 0 then fitting new old else denied number

-- the number alone
abbrev pub writing_number : Writing → ℕ
writing_number (denied k) = k
writing_number (writes new) = 0

-- the number, and how many bytes were written
abbrev pub writing_numbers : Writing → List ℕ
writing_numbers (denied k) = k ∷ []
writing_numbers (writes new) = 0 ∷ length new ∷ []

-- the output after: the bytes and the old tail; after a refusal the old contents
abbrev pub writing_output : Writing → List ℕ → List ℕ
writing_output (denied k) old = old
writing_output (writes new) old = onto new old
