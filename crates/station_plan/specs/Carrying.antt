-- What carrying a plan out makes of a table, and of what is sent.
use Rattle.std.specs.Prelude.{ℕ, Bool, ◌&&◌, List, ltb, get_or, set, if◌then◌else◌}
use Rattle.lists.specs.Words.{in_word}
use Rattle.net.specs.declared.Net.{Net}
use Rattle.net.specs.Values.{link_count}
use Rattle.reach.specs.Reach.{works_in}
use Rattle.reach.specs.Values.{table_of, purged_of}
use Rattle.sets.specs.Sets.{word_by, up_to}
use Rattle.station.specs.declared.Sending.{Sending}
use Rattle.station.specs.Values.{fresh_table}

-- ---- the table
-- with the one counter set: what the notices tell
abbrev pub told_by : Bool → ℕ → ℕ → List ℕ → List ℕ
told_by sets at c table = if sets then set table at c else table

-- what is out of reach by the even links of the table itself is purged
abbrev pub purged_in : Net → List ℕ → ℕ → List ℕ
purged_in net table s = purged_of net (works_in (table_of net table)) table s

-- every counter 1, or purged, or as it is told
abbrev pub kept_by : Net → ℕ → Bool → Bool → List ℕ → List ℕ
kept_by net s resets purges table = if resets then fresh_table (link_count net) else (if purges then purged_in net table s else table)

-- ---- what is sent: of the subjects only those that are known, where the plan says so
abbrev pub known_in : ℕ → List ℕ → ℕ → Bool
known_in n table = up_to (λ j. ltb 1 (get_or table j 0)) n

abbrev pub narrowed : Bool → ℕ → List ℕ → Sending → Sending
narrowed knows n table x =
    record {
      requests = x.requests;
      subjects = if knows then word_by (λ j. in_word x.subjects j && known_in n table j) else x.subjects;
      ways = x.ways;
      replies = x.replies;
      reply = x.reply;
      link = x.link;
    }
