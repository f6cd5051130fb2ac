-- Purge, as the code goes through its arrays.
use Rattle.std.specs.Prelude.{if◌then◌else◌}
use Prim.Native.Nat.{ℕ, ◌+◌, ◌≤◌, ◌<◌}
use mathlib.Core.Bool.{Bool, ◌||◌}
use mathlib.Core.Path.{◌≡◌, sym, ap, ap₂, ◌∙◌}
use mathlib.Core.List.{List, ◌++◌, map, append-nil}
use native.Mathlib.Omega.{arith}
use lib.ListN.{length, get_or, take, drop, set, length-take, drop_of_length-le}
use lib.Seq.{get_or-take}
use Rattle.lists.specs.Lists.{below, filled}
use Rattle.lists.specs.Words.{in_word, word_of}
use Rattle.lists.proofs.Words.{in_word_of}
use Rattle.lists.proofs.Fill.{map_below_same, filled_more, filled_rest}
use Rattle.net.specs.declared.Net.{Net}
use Rattle.net.specs.Network.{Ends, link_numbers}
use Rattle.net.specs.Values.{network_of, link_count}
use Rattle.net.specs.Sizes.{link_room}
use Rattle.net.proofs.ValueLaws.{links_of_lem, ends_of}
use Rattle.reach.specs.Reach.{counter_in, has, near, purge}
use Rattle.reach.specs.Values.{table_of, reach_of, purged_of}
use Rattle.reach.proofs.Tables.{counter_of_lem}
use Rattle.reach.specs.PurgingSteps.{purged_to}

module _ (net : Net) (old : List ℕ) where
  -- the new counter of link k, as the code makes it of the old ones
  abbrev pub purged_at : ℕ → ℕ → ℕ
  purged_at w k = purged_to (get_or net.low k 0) (get_or net.high k 0) (get_or old k 0) w

  -- one link more
  pub purge_more : (w k v : ℕ) (xs : List ℕ) → k < length old → xs ≡ filled (purged_at w) old k
      → v ≡ purged_to (get_or net.low k 0) (get_or net.high k 0) (get_or xs k 0) w → set xs k v ≡ filled (purged_at w) old (k + 1)
  purge_more w k v xs h p e =
      ap₂ (λ (l : List ℕ) (x : ℕ). set l k x) p (e ∙ ap (λ (c : ℕ). purged_to (get_or net.low k 0) (get_or net.high k 0) c w) same)
      ∙ filled_more (purged_at w) old k h
    where
      same : get_or xs k 0 ≡ get_or old k 0
      same = ap (λ (l : List ℕ). get_or l k 0) p ∙ filled_rest (purged_at w) old k 0

-- all links, and the unused room behind them
pub purge_made : (net : Net) (cs xs : List ℕ) (works : ℕ → Bool) (s w n k : ℕ) → length cs ≡ link_room → n ≡ link_count net
    → length (take n cs) ≤ k → k ≤ length (take n cs) → xs ≡ filled (purged_at net (take n cs) w) (take n cs) k
    → w ≡ word_of (reach_of net works s) → xs ++ drop n cs ≡ purged_of net works cs s
unfolding purged_of purge
purge_made net cs xs works s w n k size en ge le p e =
    ap₂ (λ (l r : List ℕ). l ++ r) (p ∙ whole) (ap (λ (m : ℕ). drop m cs) en)
  where
    kept : ℕ → ℕ
    kept k = if near (network_of net) (has (reach_of net works s)) k then counter_in (table_of net cs) k else 1

    seen : (t : ℕ) → in_word w t ≡ has (reach_of net works s) t
    seen t = ap (λ (x : ℕ). in_word x t) e ∙ in_word_of (reach_of net works s) t

    one : (j : ℕ) → j < n → purged_at net (take n cs) w j ≡ kept j
    one j h =
        ap₂ (λ (x y : Bool). if x || y then get_or (take n cs) j 0 else 1) (seen (get_or net.low j 0)) (seen (get_or net.high j 0))
        ∙ ap₂ (λ (x : Ends) (c : ℕ). if has (reach_of net works s) x.low || has (reach_of net works s) x.high then c else 1)
        (sym (ends_of net j (omega arith))) (get_or-take n cs j 0 h ∙ sym (counter_of_lem net cs j size (omega arith)))

    count : k ≡ n
    count = omega (arith, length-take n cs)

    whole : filled (purged_at net (take n cs) w) (take n cs) k ≡ map kept (link_numbers (network_of net))
    whole =
        ap (λ (l : List ℕ). map (purged_at net (take n cs) w) (below k) ++ l) (drop_of_length-le (take n cs) ge)
        ∙ append-nil (map (purged_at net (take n cs) w) (below k))
        ∙ ap (λ (m : ℕ). map (purged_at net (take n cs) w) (below m)) count
        ∙ map_below_same (purged_at net (take n cs) w) kept n one
        ∙ ap (λ (m : ℕ). map kept (below m)) (en ∙ sym (links_of_lem net))
