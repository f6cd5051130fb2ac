-- What the public functions answer, in the words of reach.
use Rattle.std.specs.Prelude.{ℕ, min, Bool, not}
use Rattle.lists.specs.Lists.{below, sum_of, first_of}
use Rattle.lists.specs.Words.{bit_at, in_word, word_of}
use Rattle.net.specs.declared.Net.{Net}
use Rattle.net.specs.Sizes.{station_room}
use Rattle.reach.specs.Reach.{count_of, lowest_of}
use Rattle.reach.specs.Values.{reach_of}
use Rattle.reach.specs.declared.Reached.{Reached}

-- the stations that s reaches as a word, with how many there are and the lowest that is not among them
abbrev pub reached_of : Net → (ℕ → Bool) → ℕ → Reached
reached_of net works s =
    record { word = word_of (reach_of net works s); ones = count_of (reach_of net works s); lowest = lowest_of (reach_of net works s) }

-- how many bits of a 32-bit word are set
unfoldable pub ones_of : ℕ → ℕ
ones_of w = sum_of (bit_at w) (below 32)

-- the lowest station that is not in the word, or 255 if all are
unfoldable pub lowest_missing : ℕ → ℕ → ℕ
lowest_missing w stations = first_of (λ t. not (in_word w t)) (below (min stations station_room)) 255
