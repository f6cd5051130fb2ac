-- The wire program's line for a letter.
use Rattle.std.specs.Prelude.{ℕ, List, [], ◌∷◌, ◌++◌}
use Rattle.net.specs.declared.Body.{Body}
use Rattle.net.specs.declared.Body.TheVariants.{Request, Reply, Notice}
use Rattle.net.specs.declared.Letter.{Letter}
use Rattle.net.specs.declared.Net.{Net}
use Rattle.net.specs.Network.{Network}
use Rattle.net.specs.Values.{network_of}
use Rattle.letters.specs.Letters.{Letters, refused, letter, write_letter}
use Rattle.letters.specs.Values.{reading}
use Rattle.console.specs.Sheets.{refusal_text}
use Rattle.text.specs.Parts.{field_text, hex_text, newline}

-- "0 request ", "0 reply ", "0 notice "
abbrev pub kind_word : Body → List ℕ
kind_word Request = 48 ∷ 32 ∷ 114 ∷ 101 ∷ 113 ∷ 117 ∷ 101 ∷ 115 ∷ 116 ∷ 32 ∷ []
kind_word (Reply c) = 48 ∷ 32 ∷ 114 ∷ 101 ∷ 112 ∷ 108 ∷ 121 ∷ 32 ∷ []
kind_word (Notice j c) = 48 ∷ 32 ∷ 110 ∷ 111 ∷ 116 ∷ 105 ∷ 99 ∷ 101 ∷ 32 ∷ []

-- what a body has behind link and sender: nothing, COUNTER, or SUBJECT COUNTER
abbrev pub body_text : Body → List ℕ
body_text Request = []
body_text (Reply c) = field_text c
body_text (Notice j c) = field_text j ++ field_text c

-- `0 request LINK SENDER HEX`, `0 reply LINK SENDER COUNTER HEX`, `0 notice LINK SENDER SUBJECT COUNTER HEX`
unfoldable pub letter_text : Network → Letter → List ℕ
letter_text net x =
    kind_word x.body ++ field_text x.link ++ field_text x.sender ++ body_text x.body ++ hex_text (write_letter net x) ++ newline

-- the refusal's number alone, or the letter
abbrev pub read_text : Network → Letters → List ℕ
read_text net (refused n) = refusal_text n
read_text net (letter x) = letter_text net x

-- bytes against a network value: every letter is refused as 11 where the value is no good network
abbrev pub read_line : Net → List ℕ → List ℕ
read_line net bytes = read_text (network_of net) (reading net bytes)
