-- The marks of a link in five words, and a station's own links.
use Rattle.std.specs.Prelude.{ℕ, Bool, ◌&&◌, List, map, eqb, ltb, if◌then◌else◌}
use Rattle.lists.specs.Lists.{below}
use Rattle.lists.specs.Words.{in_word}
use Rattle.net.specs.declared.Net.{Net}
use Rattle.net.specs.Network.{is_end}
use Rattle.net.specs.Sizes.{station_room}
use Rattle.net.specs.Values.{network_of, link_count}
use Rattle.sets.specs.Sets.{word_by}
use Rattle.marks.specs.declared.Marks.{Marks}
use Rattle.marks.specs.declared.Words.{Words}

-- the marks of link k
abbrev pub marks_at : Words → ℕ → Marks
marks_at w k =
    record {
      token = in_word w.token k;
      turn = in_word w.turn k;
      testing = in_word w.testing k;
      asked = in_word w.asked k;
      quiet = in_word w.quiet k;
    }

-- the five words of marks that are given for each link
abbrev pub words_by : (ℕ → Marks) → Words
words_by g =
    record {
      token = word_by (λ t. (g t).token);
      turn = word_by (λ t. (g t).turn);
      testing = word_by (λ t. (g t).testing);
      asked = word_by (λ t. (g t).asked);
      quiet = word_by (λ t. (g t).quiet);
    }

-- the words with these marks for link k
abbrev pub words_with : Words → ℕ → Marks → Words
words_with w k m =
    record {
      token = word_by (λ t. if eqb t k then m.token else in_word w.token t);
      turn = word_by (λ t. if eqb t k then m.turn else in_word w.turn t);
      testing = word_by (λ t. if eqb t k then m.testing else in_word w.testing t);
      asked = word_by (λ t. if eqb t k then m.asked else in_word w.asked t);
      quiet = word_by (λ t. if eqb t k then m.quiet else in_word w.quiet t);
    }

-- link k exists and s is an end of it
abbrev pub own_at : Net → ℕ → ℕ → Bool
own_at net s k = ltb k (link_count net) && is_end (network_of net) k s

-- each station's own links, at its place in the room of stations
unfoldable pub own_words : Net → List ℕ
own_words net = map (λ s. word_by (own_at net s)) (below station_room)
