-- A field: a one-byte tag, a two-byte length with the high byte first, the value. It is cut off the front of the bytes and
-- written so for sheets and letters alike; proofs/Law.antt has the one law of both.
use Rattle.std.specs.Prelude.{ℕ, ◌+◌, ◌*◌, ◌/◌, ◌%◌, Bool, true, false, ◌&&◌, List, [], ◌∷◌, ◌++◌, Option, Some, None}
use Rattle.std.specs.Prelude.{eqb, ltb, leb, length, take, drop, if◌then◌else◌}
use Rattle.lists.specs.Lists.{every}
use Rattle.fields.specs.declared.Cut.{Cut}

-- the field at the front: the bytes end inside it; or its tag, its value and the bytes after it
pub data Field : Type 0 where
  short : Field
  field : ℕ → List ℕ → List ℕ → Field

-- a number in two bytes, high byte first
abbrev pub wide : ℕ → ℕ → ℕ
wide high low = high * 256 + low

-- a value of so many bytes, cut off what follows the head
abbrev pub cut_value : ℕ → ℕ → List ℕ → Field
cut_value tag n bytes = if ltb (length bytes) n then short else field tag (take n bytes) (drop n bytes)

unfoldable pub first_field : List ℕ → Field
first_field [] = short
first_field (tag ∷ []) = short
first_field (tag ∷ high ∷ []) = short
first_field (tag ∷ high ∷ low ∷ bytes) = cut_value tag (wide high low) bytes

-- the field's bytes
unfoldable pub write_field : ℕ → List ℕ → List ℕ
write_field tag value = tag ∷ length value / 256 ∷ length value % 256 ∷ value

-- a field of this tag and this length
abbrev pub is_field : ℕ → ℕ → ℕ → List ℕ → Bool
is_field tag n t value = eqb t tag && eqb (length value) n

abbrev pub is_empty : List ℕ → Bool
is_empty [] = true
is_empty (x ∷ xs) = false

-- each is a byte
abbrev pub are_bytes : List ℕ → Bool
are_bytes bytes = every (λ b. ltb b 256) bytes

-- an output of which the bytes are written: the bytes, then the old tail
abbrev pub onto : List ℕ → List ℕ → List ℕ
onto bytes old = bytes ++ drop (length bytes) old

-- ---- what the code answers
abbrev pub cut_as : Option Cut → Field
cut_as None = short
cut_as (Some c) = field c.tag c.value.now c.rest.now

-- the longest value: its length is said in two bytes
abbrev pub longest_value : ℕ
longest_value = 65535

-- its length fits in two bytes, and the whole of it in the output
abbrev pub field_fits : List ℕ → List ℕ → Bool
field_fits value old = leb (length value) longest_value && leb (length value + 3) (length old)

unfoldable pub put_field : ℕ → List ℕ → List ℕ → List ℕ
put_field tag value old = if field_fits value old then onto (write_field tag value) old else old

unfoldable pub put_size : List ℕ → List ℕ → Option ℕ
put_size value old = if field_fits value old then Some (length value + 3) else None
