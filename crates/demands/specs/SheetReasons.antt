-- The numbers of a sheet's bytes, each with its reason: "Bytes go field by field: 1, 2, 3, 4, 5 in each". Nothing here speaks of how a
-- sheet is read.
use Rattle.std.specs.Prelude.{ℕ, ◌≤◌, ◌<◌, not, ◌≡◌, List, [], ◌∷◌, ◌++◌, T, length, get_or, Result}
use Rattle.net.specs.Sizes.{station_room, link_room}
use Rattle.fields.specs.Fields.{write_field}
use Rattle.net.specs.declared.Net.{Net}
use Rattle.net.specs.Network.{Ends, Network}
use Rattle.sheet_rules.specs.Rules.{precedes}
use Rattle.net.specs.Values.{network_of}
use Rattle.sheet.specs.declared.WriteError.{WriteError}
use Rattle.sheet.specs.Sheet.{write_links, write_sheet}
use Rattle.sheet.specs.Values.{wrote_numbers}
use Rattle.demands.specs.Given.{Lawful, GoodNet, BadNet, Front, EndsInside}

-- ---- the first field: tag 01 length 1, the number of stations
pub data FirstFault (bytes : List ℕ) : ℕ → Type 0 where
  -- 1: the bytes end inside it, or there are none
  one : EndsInside bytes → FirstFault bytes 1
  -- 2: another tag, or another length
  two : (tag : ℕ) (value rest : List ℕ) → Front bytes tag value rest → ((tag ≡ 1) × (length value ≡ 1) → ⊥) → FirstFault bytes 2
  -- 3: the station count is not 1 to 32
  three : (count : ℕ) (rest : List ℕ) → Front bytes 1 (count ∷ []) rest → ((1 ≤ count) × (count ≤ station_room) → ⊥) → FirstFault bytes 3

-- ---- a later field: tag 02 length 2, a link's two ends; or tag 0F length 0, and no byte after it
-- two stations as ends, the lower first
abbrev pub GoodEnds : ℕ → Ends → Type 0
GoodEnds stations e = (e.low < e.high) × (e.high < stations)

-- a link after some links: by first then second end, it comes strictly after the one before it, if there is one
abbrev pub After : List Ends → Ends → Type 0
After links e = (xs : List Ends) (x : Ends) → links ≡ xs ++ (x ∷ []) → T (precedes x e)

-- or there is one before it, and it is equal to that one or before it
pub record NotAfter (links : List Ends) (e : Ends) : Type 0 where
  pub earlier : List Ends
  pub before : Ends
  pub last : links ≡ earlier ++ (before ∷ [])
  pub equal_or_before : T (not (precedes before e))

-- the field of a link at the front
abbrev pub LinkFront : List ℕ → Ends → List ℕ → Type 0
LinkFront bytes e rest = Front bytes 2 (e.low ∷ e.high ∷ []) rest

-- behind the good fields of a network's stations and links these bytes follow
pub data LaterFault (net : Network) (bytes : List ℕ) : ℕ → Type 0 where
  -- 1: the bytes end inside the field, or before the last field
  one : EndsInside bytes → LaterFault net bytes 1
  -- 2: neither a link's field nor the last field with nothing after it
  two : (tag : ℕ) (value rest : List ℕ) → Front bytes tag value rest → ((tag ≡ 2) × (length value ≡ 2) → ⊥)
      → ((tag ≡ 15) × (length value ≡ 0) × (rest ≡ []) → ⊥)
      → LaterFault net bytes 2
  -- 3: an end that is no station, ends equal or higher first
  three : (e : Ends) (rest : List ℕ) → LinkFront bytes e rest → (GoodEnds net.stations e → ⊥) → LaterFault net bytes 3
  -- 4: a link equal to or before the one before it
  four : (e : Ends) (rest : List ℕ) → LinkFront bytes e rest → GoodEnds net.stations e → NotAfter net.links e → LaterFault net bytes 4
  -- 5: a 65th link
  five : (e : Ends) (rest : List ℕ) → LinkFront bytes e rest → GoodEnds net.stations e → After net.links e
      → length net.links ≡ link_room → LaterFault net bytes 5

-- ---- A SHEET READ: each number for its reason, at the first field that is at fault; 0 for the sheet of a network that keeps the rules
pub data SheetRead (bytes : List ℕ) : ℕ → Type 0 where
  taken : (net : Network) → Lawful net → bytes ≡ write_sheet net → SheetRead bytes 0
  at_first : {n : ℕ} → FirstFault bytes n → SheetRead bytes n
  later : {n : ℕ} (net : Network) (rest : List ℕ) → Lawful net
      → bytes ≡ write_field 1 (net.stations ∷ []) ++ write_links net.links ++ rest → LaterFault net rest n → SheetRead bytes n

-- the number of the writing's answer; 0 for one that says how many bytes were written
abbrev pub wrote_number : Result ℕ WriteError → ℕ
wrote_number r = get_or (wrote_numbers r) 0 0

-- ---- A SHEET WRITTEN: 11, then 10
pub data SheetWritten (net : Net) (old : List ℕ) : ℕ → Type 0 where
  eleven : BadNet net → SheetWritten net old 11
  -- the lent output is too short
  ten : GoodNet net → length old < length (write_sheet (network_of net)) → SheetWritten net old 10
  taken : GoodNet net → length (write_sheet (network_of net)) ≤ length old → SheetWritten net old 0
