-- What the code's values mean.
use Rattle.std.specs.Prelude.{ℕ, Bool, List, [], ◌∷◌, ◌++◌, map, get_or, drop, replicate, if◌then◌else◌}
use Rattle.net.specs.Sizes.{link_room}
use Rattle.lists.specs.Lists.{keep, below, filled}
use Rattle.lists.specs.Words.{in_word, word_of}
use Rattle.net.specs.declared.Body.TheVariants.{Request, Reply}
use Rattle.net.specs.declared.Letter.{Letter}
use Rattle.net.specs.declared.Net.{Net}
use Rattle.net.specs.Values.{link_count}
use Rattle.reach.specs.Values.{table_of}
use Rattle.marks.specs.Marks.{marks_at}
use Rattle.marks.specs.declared.Marks.{Marks}
use Rattle.marks.specs.declared.Words.{Words}
use Rattle.station.specs.declared.Station.{Station}
use Rattle.station.specs.declared.Sending.{Sending}
use Rattle.station.specs.declared.Condition.TheVariants.{Down}
use Rattle.station.specs.Holding.{Holding}
use Rattle.station.specs.Done.{letter, on_each, tell}

-- what a station value holds
unfoldable pub holding_of : Net → Station → Holding
holding_of net st =
    record { condition = st.condition; table = table_of net st.counters; marks = map (marks_at st.marks) (below (link_count net)) }

-- ---- a holding laid over the room of an old station value: the unused room stays
abbrev pub bits_of : ℕ → List Bool
bits_of w = map (in_word w) (below link_room)

abbrev pub laid_word : ℕ → ℕ → List Bool → ℕ
laid_word n old bs = word_of (bs ++ drop n (bits_of old))

abbrev pub laid_words : ℕ → Words → List Marks → Words
laid_words n old ms =
    record {
      token = laid_word n old.token (map (λ m. m.token) ms);
      turn = laid_word n old.turn (map (λ m. m.turn) ms);
      testing = laid_word n old.testing (map (λ m. m.testing) ms);
      asked = laid_word n old.asked (map (λ m. m.asked) ms);
      quiet = laid_word n old.quiet (map (λ m. m.quiet) ms);
    }

unfoldable pub laid : Net → Station → Holding → Station
laid net old h =
    record {
      condition = h.condition;
      counters = h.table ++ drop (link_count net) old.counters;
      marks = laid_words (link_count net) old.marks h.marks;
    }

-- ---- the letters that a sending means, where the table told is this
-- the links of a word, rising
unfoldable pub members_of : ℕ → List ℕ
members_of w = keep (in_word w) (below link_room)

-- requests by link; notices by subject, then by way; last the reply
abbrev pub parts : ℕ → List ℕ → (ℕ → ℕ) → List ℕ → List ℕ → List Letter → List Letter
parts s requests told subjects ways last = on_each s Request requests ++ (tell s told subjects ways ++ last)

unfoldable pub letters_of : ℕ → List ℕ → Sending → List Letter
letters_of s told x =
    parts s (members_of x.requests) (λ j. get_or told j 0) (members_of x.subjects) (members_of x.ways)
    (if x.replies then (letter s x.link (Reply x.reply) ∷ []) else [])

-- a station value without marks, and the zero one: what a start and a stop lay their holding over
abbrev pub no_words : Words
no_words = record { token = 0; turn = 0; testing = 0; asked = 0; quiet = 0 }

abbrev pub unmarked : Station → Station
unmarked st = record { condition = st.condition; counters = st.counters; marks = no_words }

unfoldable pub blank : Station
blank = record { condition = Down; counters = replicate link_room 0; marks = no_words }

-- every counter 1 in a network of n links, the unused room zero
unfoldable pub fresh_table : ℕ → List ℕ
fresh_table n = filled (λ k. 1) (replicate link_room 0) n
