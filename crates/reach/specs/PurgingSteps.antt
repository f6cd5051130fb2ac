-- What the private step of the code answers.
use Rattle.std.specs.Prelude.{ℕ, ◌||◌, if◌then◌else◌}
use Rattle.lists.specs.Words.{in_word}

-- a link's counter after a purge, by its ends and the reach word
abbrev pub purged_to : ℕ → ℕ → ℕ → ℕ → ℕ
purged_to a b c w = if in_word w a || in_word w b then c else 1
