-- What a part of a program answers when it writes to lent output (`fields/specs/Output`: a text at its front, or 10 where the output has
-- less room than the longest such text takes).
use Rattle.std.specs.Prelude.{ℕ, ◌+◌, ◌≤◌, ◌≡◌, List, length, take, Result, Ok, Err}
use Rattle.fields.specs.Output.{Writing, denied, writes}
use Rattle.text.specs.Text.{put_at}
use Rattle.console.specs.declared.Refusal.{Refusal}

-- how many bytes were written, or the number that says no
abbrev pub wrote_by : Writing → Result ℕ Refusal
wrote_by (denied k) = Err (record { 0 = k })
wrote_by (writes text) = Ok (length text)

-- n bytes at the front of xs, said twice over: so a caller lends `&xs[..n]` with no proof of its own
abbrev pub Counts : ℕ → List ℕ → Type 0
Counts n xs = (n ≤ length xs) × (n ≡ length (take n xs))

-- a text of so many bytes at most, put at a place where it fits: what private functions answer
pub record Put (text : List ℕ) (most at : ℕ) (old : List ℕ) (r : ℕ) (new : List ℕ) : Type 0 where
  pub place : r ≡ at + length text
  pub output : new ≡ put_at text at old
  pub few : length text ≤ most
