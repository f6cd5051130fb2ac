-- A line under way in lent output: what a put does to it, and what puts one after the other do. Their laws: proofs/Lines.antt.
use Rattle.std.specs.Prelude.{ℕ, List, ◌≡◌, ◌+◌, ◌≤◌, ◌<◌, length}
use Rattle.text.specs.Text.{put_at, place_after}
use Rattle.text.specs.declared.Line.{Line}

-- one text, put whole or not at all, in the same output
pub record Puts (text : List ℕ) (old new : Line) : Type 0 where
  pub same : new.out.ghost_name ≡ old.out.ghost_name
  pub place : new.at ≡ place_after text old.at old.out.now
  pub output : new.out.now ≡ put_at text old.at old.out.now

-- a text, put in parts: it stands there where all of it fits, and else the place is past the end
pub record Adds (text : List ℕ) (old new : Line) : Type 0 where
  pub same : new.out.ghost_name ≡ old.out.ghost_name
  pub size : length new.out.now ≡ length old.out.now
  pub place : old.at + length text ≤ length old.out.now → new.at ≡ old.at + length text
  pub output : old.at + length text ≤ length old.out.now → new.out.now ≡ put_at text old.at old.out.now
  pub over : length old.out.now < old.at + length text → length old.out.now < new.at
