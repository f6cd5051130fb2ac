-- A set of links that is gone through from its lowest link on. Their laws: proofs/LinkLaws.antt.
use Rattle.std.specs.Prelude.{ℕ, Bool, false, eqb, if◌then◌else◌}
use Rattle.lists.specs.Lists.{any, first_of, below}
use Rattle.lists.specs.Words.{in_word}
use Rattle.sets.specs.Sets.{word_by}

-- the word has a link
unfoldable pub some_in : ℕ → Bool
some_in w = any (in_word w) (below 64)

-- its lowest link, 0 where it has none
unfoldable pub lowest_in : ℕ → ℕ
lowest_in w = first_of (in_word w) (below 64) 0

-- the word without that link
unfoldable pub less_lowest : ℕ → ℕ
less_lowest w = word_by (λ t. if eqb t (lowest_in w) then false else in_word w t)
