-- What the code's answers mean: the paper's number for each case, and the value with it. A network given that breaks the
-- sheet rules, or has unused room not zero, comes before all else.
use Rattle.std.specs.Prelude.{ℕ, not, List, [], ◌∷◌, if◌then◌else◌, Result, Ok, Err}
use Rattle.fields.specs.Output.{Writing, denied, fitting}
use Rattle.net.specs.declared.Net.{Net}
use Rattle.net.specs.declared.Letter.{Letter}
use Rattle.net.specs.Values.{network_of}
use Rattle.sheet_rules.specs.Values.{net_holds}
use Rattle.net.specs.Letters.{letter_holds}
use Rattle.letters.specs.declared.LetterError.{LetterError}
use Rattle.letters.specs.declared.LetterError.TheVariants.{Short, Malformed, OutOfRange, BadNetwork}
use Rattle.letters.specs.declared.WriteError.{WriteError}
use Rattle.letters.specs.declared.WriteError.TheVariants as wrote
use Rattle.letters.specs.Letters.{Letters, refused, letter, read_letter, write_letter}

-- ---- reading
unfoldable pub reading : Net → List ℕ → Letters
reading net bytes = if not (net_holds net) then refused 11 else read_letter (network_of net) bytes

-- the paper's number of each refusal
abbrev pub error_number : LetterError → ℕ
error_number Short = 1
error_number Malformed = 2
error_number OutOfRange = 3
error_number BadNetwork = 11

-- the paper's number of each answer, or the letter
abbrev pub letters_of : Result Letter LetterError → Letters
letters_of (Ok x) = letter x
letters_of (Err e) = refused (error_number e)

-- ---- writing
unfoldable pub writing : Net → Letter → List ℕ → Writing
writing net x old =
    if not (net_holds net) then denied 11
    else (if not (letter_holds (network_of net) x) then denied 3
    else fitting (write_letter (network_of net) x) old)

-- the paper's number of each refusal
abbrev pub write_error_number : WriteError → ℕ
write_error_number wrote.OutOfRange = 3
write_error_number wrote.OutputShort = 10
write_error_number wrote.BadNetwork = 11

-- the number, and how many bytes were written
abbrev pub wrote_numbers : Result ℕ WriteError → List ℕ
wrote_numbers (Ok n) = 0 ∷ n ∷ []
wrote_numbers (Err e) = write_error_number e ∷ []
