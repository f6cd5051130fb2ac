-- Sets of links as words.
use Rattle.std.specs.Prelude.{ℕ, Bool, ◌&&◌, map, ltb}
use Rattle.lists.specs.Lists.{below}
use Rattle.lists.specs.Words.{word_of}

-- the word of 64 bits that has bit t where the test says yes
unfoldable pub word_by : (ℕ → Bool) → ℕ
word_by f = word_of (map f (below 64))

-- those among the first k that pass the test
abbrev pub up_to : (ℕ → Bool) → ℕ → ℕ → Bool
up_to q k t = ltb t k && q t
