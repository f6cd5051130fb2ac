-- What each way out of `take_lines` gives.
use Rattle.std.specs.Prelude.{if◌then◌else◌, Result, Ok, Err}
use Prim.Native.Nat.{ℕ, ◌*◌, ◌≤◌}
use mathlib.Core.Bool.{Bool, true, false}
use mathlib.Core.Path.{◌≡◌, sym, ap, ◌∙◌}
use mathlib.Core.List.{List}
use native.Mathlib.Decide.{ℕ_discrete}
use native.Mathlib.Omega.{arith}
use lib.Dec.{ltb}
use lib.ListN.{length, take, drop}
use lib.Seq.{take_at}
use borrow.Author.Tests.{le-ltb, eq-eqb, ne_eqb}
use Rattle.fields.specs.Output.{Writing, denied, writes, writing_output}
use Rattle.tally.specs.Sums.{added}
use Rattle.backlog_rules.specs.declared.Taken.{Taken}
use Rattle.backlog_rules.specs.Backlog.{backlog_of}
use Rattle.event_list.specs.declared.Listed.{Listed}
use Rattle.event_list.specs.declared.ListShort.{ListShort}
use Rattle.event_list.specs.Lines.{numbers_in, line_after, listing, listed_by}
use Rattle.backlog_program.specs.declared.Ran.{Ran}
use Rattle.backlog_program.specs.Runs.{listing_of, ran_on, ran_by}
use Rattle.backlog_program.specs.Calls.{ran_after}

module _ (n : Ran) (bytes old : List ℕ) where
  -- what it promises
  abbrev Takes : Ran → List ℕ → Type 0
  Takes r new = (r ≡ ran_by (listing_of n bytes old) n bytes) × (new ≡ writing_output (listing_of n bytes old) old)

  -- what `list_lines` promises, by whether the list is too short
  abbrev numbers : List ℕ
  numbers = numbers_in n.reading bytes

  abbrev listing_by : Bool → Writing
  listing_by short = if short then denied 10 else writes numbers

  abbrev Lists : Bool → Result Listed ListShort → List ℕ → Type 0
  Lists short l new = (l ≡ listed_by (listing_by short) n.reading bytes) × (new ≡ writing_output (listing_by short) old)

  -- where the list is too short nothing is taken
  abbrev refused_by : ℕ → Ran
  refused_by k = record { answer = k; taken = n.taken; reading = n.reading; tally = n.tally; state = n.state }

  pub takes_none : n.answer ≡ 0 → (x : ListShort) (new : List ℕ) (k : ℕ) → k ≡ 10
      → Err x ≡ listed_by (listing n.reading bytes old) n.reading bytes → new ≡ writing_output (listing n.reading bytes old) old
      → Takes (refused_by k) new
  unfolding listing
  takes_none z x new k e is w = simp (eq-eqb n.answer 0 z) (go (ltb (length old) (3 * length bytes)) (is, w))
    where
      go : (short : Bool) → Lists short (Err x) new
          → (refused_by k ≡ ran_by (listing_by short) n bytes) × (new ≡ writing_output (listing_by short) old)
      go true w = (ap refused_by e, w.1)
      go false w = let never : Err x ≡ listed_by (writes numbers) n.reading bytes = w.0 in cc

  module _ (z : n.answer ≡ 0) (l : Listed) (new : List ℕ) where
    -- the call over what was listed
    module _ (x : Taken) (called : x ≡ backlog_of n.state n.tally (take l.size new)) (k : ℕ) (sum : k ≡ added n.taken x.taken)
      where
        abbrev called_on : Ran
        called_on = record { answer = x.answer; taken = k; reading = l.reading; tally = x.tally; state = x.state }

        all_listed : Lists false (Ok l) new → called_on ≡ ran_by (listing_by false) n bytes
        all_listed w =
            let said : Ok l ≡ listed_by (writes numbers) n.reading bytes = w.0 in
            let is : l ≡ record { size = length numbers; reading = line_after n.reading bytes } = cc in
            let size : l.size ≡ length numbers = ap (λ (y : Listed). y.size) is in
            let front : take l.size new ≡ numbers =
            ap (take l.size) w.1 ∙ take_at numbers (drop (length numbers) old) l.size (sym size) in
            (λ i. record { answer = x.answer; taken = sum i; reading = (is i).reading; tally = x.tally; state = x.state })
            ∙ ap (ran_on n (line_after n.reading bytes)) (called ∙ ap (backlog_of n.state n.tally) front)

        pub takes_all : Ok l ≡ listed_by (listing n.reading bytes old) n.reading bytes
            → new ≡ writing_output (listing n.reading bytes old) old → Takes called_on new
        unfolding listing
        takes_all is w = simp (eq-eqb n.answer 0 z) (go (ltb (length old) (3 * length bytes)) (is, w))
          where
            go : (short : Bool) → Lists short (Ok l) new
                → (called_on ≡ ran_by (listing_by short) n bytes) × (new ≡ writing_output (listing_by short) old)
            go true w = let never : Ok l ≡ listed_by (denied 10) n.reading bytes = w.0 in cc
            go false w = (all_listed w, w.1)

-- the backlog program lends 196,608 places for a piece of at most 65,536 bytes: it is never refused with 10
pub room_suffices : (n : Ran) (bytes list : List ℕ) → length bytes ≤ 65536 → length list ≡ 196608
    → ran_by (listing_of n bytes list) n bytes ≡ ran_after n bytes
unfolding ran_after listing
room_suffices n bytes list h e = go (ℕ_discrete n.answer 0)
  where
    go : Dec (n.answer ≡ 0) → ran_by (listing_of n bytes list) n bytes ≡ ran_after n bytes
    go (yes z) = simp (eq-eqb n.answer 0 z, le-ltb (length list) (3 * length bytes) (omega arith))
    go (no o) = simp (ne_eqb n.answer 0 o)
