-- A letter's bytes: one field, read and written against a network.
use Rattle.std.specs.Prelude.{ℕ, ◌/◌, ◌%◌, Bool, not, ◌&&◌, List, [], ◌∷◌, eqb, ltb, leb, length, get_or, if◌then◌else◌}
use Rattle.fields.specs.Fields.{Field, short, field, wide, first_field, write_field, is_field, is_empty}
use Rattle.net.specs.declared.Body.{Body}
use Rattle.net.specs.declared.Body.TheVariants.{Request, Reply, Notice}
use Rattle.net.specs.declared.Letter.{Letter}
use Rattle.net.specs.Network.{Network, ends}
use Rattle.net.specs.Letters.{body_holds}

-- what reading a letter gives: the number of a refusal, or the letter
pub data Letters : Type 0 where
  refused : ℕ → Letters
  letter : Letter → Letters

-- ---- the field's tag: 21, 22 and 23 in document 01, and its form: each tag has its length
abbrev pub request_tag : ℕ
request_tag = 33

abbrev pub reply_tag : ℕ
reply_tag = 34

abbrev pub notice_tag : ℕ
notice_tag = 35

pub data Form : Type 0 where
  unknown : Form
  says : Body → Form

-- a request is link and side; a reply has a counter besides, high byte first; a notice a subject link and its counter
unfoldable pub form_of : ℕ → List ℕ → Form
form_of t v =
    if is_field request_tag 2 t v then says Request
    else (if is_field reply_tag 4 t v then says (Reply (wide (get_or v 2 0) (get_or v 3 0)))
    else (if is_field notice_tag 5 t v then says (Notice (get_or v 2 0) (wide (get_or v 3 0) (get_or v 4 0)))
    else unknown))

-- ---- the field's values
-- side 0 is sent by the lower-numbered end, side 1 by the higher
abbrev pub sender_of : Network → ℕ → ℕ → ℕ
sender_of net k side = if eqb side 0 then (ends net k).low else (ends net k).high

abbrev pub side_of : Network → ℕ → ℕ → ℕ
side_of net k sender = if eqb (ends net k).low sender then 0 else 1

-- the link exists, the side is 0 or 1, the subject exists and the counter is in range
abbrev pub values_hold : Network → ℕ → ℕ → Body → Bool
values_hold net k side body = ltb k (length net.links) && leb side 1 && body_holds net body

-- a field of that form with these values, and the bytes after it
unfoldable pub judged : Network → ℕ → ℕ → Form → List ℕ → Letters
judged net k side unknown rest = refused 2
judged net k side (says body) rest =
    if not (values_hold net k side body) then refused 3
    else (if not (is_empty rest) then refused 2
    else letter (record { link = k; sender = sender_of net k side; body = body }))

abbrev pub letter_from : Network → Field → Letters
letter_from net short = refused 1
letter_from net (field t v rest) = judged net (get_or v 0 0) (get_or v 1 0) (form_of t v) rest

unfoldable pub read_letter : Network → List ℕ → Letters
read_letter net bytes = letter_from net (first_field bytes)

-- ---- the bytes that say a letter
abbrev pub body_bytes : ℕ → ℕ → Body → List ℕ
body_bytes k side Request = write_field request_tag (k ∷ side ∷ [])
body_bytes k side (Reply c) = write_field reply_tag (k ∷ side ∷ c / 256 ∷ c % 256 ∷ [])
body_bytes k side (Notice subject c) = write_field notice_tag (k ∷ side ∷ subject ∷ c / 256 ∷ c % 256 ∷ [])

unfoldable pub write_letter : Network → Letter → List ℕ
write_letter net x = body_bytes x.link (side_of net x.link x.sender) x.body
