-- What the private steps of the code answer, reading and writing.
use Rattle.std.specs.Prelude.{ℕ, Bool, ◌&&◌, ◌||◌, eqb, ltb, leb, if◌then◌else◌, Option, Some, None}
use Rattle.net.specs.declared.Body.{Body}
use Rattle.net.specs.Values.{body_test}
use Rattle.letters.specs.declared.Said.{Said}
use Rattle.letters.specs.Letters.{Form, unknown, says}

abbrev pub form_in : Option Said → Form
form_in None = unknown
form_in (Some s) = says s.body

-- the values of a field that was read
abbrev pub values_test : ℕ → ℕ → ℕ → Body → Bool
values_test links k side body = ltb k links && leb side 1 && body_test links body

abbrev pub sender_in : ℕ → ℕ → ℕ → ℕ
sender_in low high side = if eqb side 0 then low else high

abbrev pub end_in : ℕ → ℕ → ℕ → Bool
end_in low high sender = eqb low sender || eqb high sender

abbrev pub side_in : ℕ → ℕ → ℕ
side_in low sender = if eqb low sender then 0 else 1
