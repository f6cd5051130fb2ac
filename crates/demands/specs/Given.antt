-- What a call may be given, and what stands at the front of bytes, in the words of document 01.
use Rattle.std.specs.Prelude.{ℕ, ◌<◌, not, ◌≡◌, List, ◌∷◌, ◌++◌, T, length}
use Rattle.fields.specs.Fields.{wide, write_field}
use Rattle.net.specs.declared.Net.{Net}
use Rattle.net.specs.Network.{Network}
use Rattle.sheet_rules.specs.Rules.{sheet_holds}
pub use Rattle.sheet_rules.specs.Values.{net_holds}

-- ---- networks
-- a network that keeps the sheet rules
abbrev pub Lawful : Network → Type 0
Lawful net = T (sheet_holds net)

-- a network value given: it keeps the sheet rules and its unused room is zero; or 11: it breaks them, or has unused room not zero
abbrev pub GoodNet : Net → Type 0
GoodNet net = T (net_holds net)

abbrev pub BadNet : Net → Type 0
BadNet net = T (not (net_holds net))

-- ---- "Fields: one-byte tag, two-byte length with the high byte first, value"
-- such a field stands at the front of the bytes, and the rest follows it
abbrev pub Front : List ℕ → ℕ → List ℕ → List ℕ → Type 0
Front bytes tag value rest = bytes ≡ write_field tag value ++ rest

-- the bytes end inside the field: before its three bytes of tag and length, or before its value is complete
pub data EndsInside : List ℕ → Type 0 where
  in_head : {bytes : List ℕ} → length bytes < 3 → EndsInside bytes
  in_value : {tag high low : ℕ} {value : List ℕ} → length value < wide high low → EndsInside (tag ∷ high ∷ low ∷ value)
