-- What the private steps of the code answer, by a network value and the links that work.
use Rattle.std.specs.Prelude.{ℕ, Bool, ◌||◌, List, get_or}
use Rattle.lists.specs.Words.{in_word}
use Rattle.net.specs.declared.Net.{Net}
use Rattle.net.specs.Values.{network_of}
use Rattle.reach.specs.Reach.{link_value, report}

-- a link of the network value, shown to the station whose reach word this is
abbrev pub link_shown : Net → (ℕ → Bool) → ℕ → ℕ → ℕ
link_shown net works word k = link_value (in_word word (get_or net.low k 0) || in_word word (get_or net.high k 0)) (works k)

-- the report of station s
unfoldable pub report_in : Net → (ℕ → Bool) → ℕ → List ℕ
report_in net works s = report (network_of net) works s
