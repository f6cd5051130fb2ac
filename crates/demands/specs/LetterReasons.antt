-- The numbers of a letter's bytes, each with its reason. Nothing here speaks of how a letter is read.
use Rattle.std.specs.Prelude.{ℕ, ◌≤◌, ◌<◌, not, ◌≡◌, List, [], ◌∷◌, T, length, get_or, Result}
use Rattle.fields.specs.Fields.{wide}
use Rattle.net.specs.declared.Body.{Body}
use Rattle.net.specs.declared.Body.TheVariants.{Request, Reply, Notice}
use Rattle.net.specs.declared.Letter.{Letter}
use Rattle.net.specs.declared.Net.{Net}
use Rattle.net.specs.Network.{Network}
use Rattle.net.specs.Letters.{letter_holds}
use Rattle.net.specs.Values.{network_of}
use Rattle.letters.specs.declared.WriteError.{WriteError}
use Rattle.letters.specs.Letters.{Letters, refused, letter, write_letter}
use Rattle.letters.specs.Values.{wrote_numbers}
use Rattle.demands.specs.Given.{GoodNet, BadNet, Front, EndsInside}

-- a letter whose link and subject exist, whose sender is an end of its link and whose counter is 1 to 65,535; and one that is not so
abbrev pub GoodLetter : Net → Letter → Type 0
GoodLetter net x = T (letter_holds (network_of net) x)

abbrev pub BadLetter : Net → Letter → Type 0
BadLetter net x = T (not (letter_holds (network_of net) x))

-- the number of a letter's reading; 0 for one that gives a letter
abbrev pub letters_number : Letters → ℕ
letters_number (refused n) = n
letters_number (letter x) = 0

-- the number of the writing's answer; 0 for one that says how many bytes were written
abbrev pub wrote_number : Result ℕ WriteError → ℕ
wrote_number r = get_or (wrote_numbers r) 0 0

-- ---- the three forms: a tag and a value that say a link, a side and what the letter is
pub data Form : ℕ → List ℕ → ℕ → ℕ → Body → Type 0 where
  -- tag 21 length 2: link, side
  request : {link side : ℕ} → Form 33 (link ∷ side ∷ []) link side Request
  -- tag 22 length 4: link, side, counter (high byte first)
  reply : {link side high low : ℕ} → Form 34 (link ∷ side ∷ high ∷ low ∷ []) link side (Reply (wide high low))
  -- tag 23 length 5: link, side, subject link, counter
  notice : {link side subject high low : ℕ} → Form 35 (link ∷ side ∷ subject ∷ high ∷ low ∷ []) link side (Notice subject (wide high low))

-- what a letter says is in range: no counter is 0, and a subject is a link of the network
abbrev pub BodyInRange : Network → Body → Type 0
BodyInRange net Request = Unit {0}
BodyInRange net (Reply c) = 1 ≤ c
BodyInRange net (Notice subject c) = (subject < length net.links) × (1 ≤ c)

-- the link exists, and the side is 0 or 1
pub record InRange (net : Network) (link side : ℕ) (body : Body) : Type 0 where
  pub link_exists : link < length net.links
  pub side_is : side ≤ 1
  pub body_is : BodyInRange net body

-- ---- the one field
pub data LetterFault (net : Network) (bytes : List ℕ) : ℕ → Type 0 where
  -- 1: the bytes end inside it, or the letter is empty
  one : EndsInside bytes → LetterFault net bytes 1
  -- 2: unknown tag, or another length than the tag's
  two : (tag : ℕ) (value rest : List ℕ) → Front bytes tag value rest → ((tag ≡ 33) × (length value ≡ 2) → ⊥)
      → ((tag ≡ 34) × (length value ≡ 4) → ⊥)
      → ((tag ≡ 35) × (length value ≡ 5) → ⊥) → LetterFault net bytes 2
  -- 3: no such link, side or subject, or counter 0
  three : (tag : ℕ) (value rest : List ℕ) (link side : ℕ) (body : Body) → Front bytes tag value rest → Form tag value link side body
      → (InRange net link side body → ⊥) → LetterFault net bytes 3
  -- 2 also for bytes after the field, once it is good
  after : (tag : ℕ) (value rest : List ℕ) (link side : ℕ) (body : Body) → Front bytes tag value rest → Form tag value link side body
      → InRange net link side body
      → (rest ≡ [] → ⊥) → LetterFault net bytes 2

-- ---- A LETTER READ against a network: "a bad network (11) comes before all else"; 0 for the bytes of a letter that may travel
pub data LetterRead (net : Net) (bytes : List ℕ) : ℕ → Type 0 where
  eleven : BadNet net → LetterRead net bytes 11
  at_field : {n : ℕ} → GoodNet net → LetterFault (network_of net) bytes n → LetterRead net bytes n
  taken : GoodNet net → (x : Letter) → GoodLetter net x → bytes ≡ write_letter (network_of net) x → LetterRead net bytes 0

-- ---- A LETTER WRITTEN: 11, then "a letter with a value outside its range is 3, then a short output 10"
pub data LetterWritten (net : Net) (x : Letter) (old : List ℕ) : ℕ → Type 0 where
  eleven : BadNet net → LetterWritten net x old 11
  three : GoodNet net → BadLetter net x → LetterWritten net x old 3
  ten : GoodNet net → GoodLetter net x → length old < length (write_letter (network_of net) x) → LetterWritten net x old 10
  taken : GoodNet net → GoodLetter net x → length (write_letter (network_of net) x) ≤ length old → LetterWritten net x old 0
