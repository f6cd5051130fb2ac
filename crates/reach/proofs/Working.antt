-- The word of the working links and the table that it is made from: that a link is in the word exactly if it works by the table.
-- So what is promised over the word is what the definitions say over the table.
use Prim.Native.Nat.{ℕ, ◌≤◌, ◌<◌, min}
use mathlib.Core.Bool.{Bool, false, ◌&&◌}
use mathlib.Core.Path.{◌≡◌, sym, ap, ap₂, ◌∙◌, fun_ext}
use mathlib.Core.List.{List}
use native.Mathlib.Decide.{dec_lt}
use native.Mathlib.Omega.{arith}
use lib.ListN.{length, get_or, take, length-take, get_or-eq_default}
use lib.Seq.{get_or-take}
use borrow.Author.Tests.{lt-ltb, le-ltb}
use Rattle.lists.specs.Words.{in_word}
use Rattle.lists.proofs.Fill.{get_d_any}
use Rattle.sets.specs.Sets.{word_by, up_to}
use Rattle.sets.proofs.WordLaws.{in_by, out_by, by_same}
use Rattle.net.specs.declared.Net.{Net}
use Rattle.net.specs.Sizes.{link_room}
use Rattle.counters.specs.Counters.{even}
use Rattle.reach.specs.Reach.{works_in}
use Rattle.reach.specs.Values.{table_of, working_of, purged_of}

module _ (links : ℕ) (counters : List ℕ) where
  -- a link that is not there does not work
  idle_beyond : (k : ℕ) → min links link_room ≤ k → works_in (take (min links link_room) counters) k ≡ false
  idle_beyond k h =
      ap even (get_or-eq_default (take (min links link_room) counters) 1 {n = k}
      (omega (arith, length-take (min links link_room) counters)))

  in_working : (k : ℕ) → in_word (working_of links counters) k ≡ works_in (take (min links link_room) counters) k
  in_working k = go (dec_lt k link_room)
    where
      go : Dec (k < link_room) → in_word (working_of links counters) k ≡ works_in (take (min links link_room) counters) k
      go (yes h) = in_by (works_in (take (min links link_room) counters)) k h
      go (no h) = out_by (works_in (take (min links link_room) counters)) k (omega arith) ∙ sym (idle_beyond k (omega arith))

  -- the word as the code makes it, from the counters in their room
  pub working_made : length counters ≡ link_room
      → word_by (up_to (λ k. even (get_or counters k 0)) (min links link_room)) ≡ working_of links counters
  working_made size =
      by_same (up_to (λ k. even (get_or counters k 0)) (min links link_room)) (works_in (take (min links link_room) counters))
      (λ k l. go k (dec_lt k (min links link_room)))
    where
      go : (k : ℕ) → Dec (k < min links link_room) → up_to (λ k. even (get_or counters k 0)) (min links link_room) k
          ≡ works_in (take (min links link_room) counters) k
      go k (yes h) =
          ap₂ (λ (x : Bool) (c : ℕ). x && even c) (lt-ltb k (min links link_room) h)
          (get_d_any counters k 0 1 (omega arith) ∙ sym (get_or-take (min links link_room) counters k 1 h))
      go k (no h) =
          ap (λ (x : Bool). x && even (get_or counters k 0)) (le-ltb k (min links link_room) (omega arith)) ∙ sym (idle_beyond k (omega arith))

-- what is said over the word of the working links is said over the table
pub working_is : (net : Net) (counters : List ℕ) (working : ℕ) → working ≡ working_of net.links counters
    → in_word working ≡ works_in (table_of net counters)
working_is net counters working e = ap (λ (w : ℕ). in_word w) e ∙ fun_ext (in_working net.links counters)

pub purged_by : (net : Net) (counters : List ℕ) (s working : ℕ) (after : List ℕ) → working ≡ working_of net.links counters
    → after ≡ purged_of net (in_word working) counters s → after ≡ purged_of net (works_in (table_of net counters)) counters s
purged_by net counters s working after e p =
    p ∙ ap (λ (works : ℕ → Bool). purged_of net works counters s) (working_is net counters working e)
