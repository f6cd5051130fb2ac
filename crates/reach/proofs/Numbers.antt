-- The reach word's two numbers are those of the reach: how many are reached, and the lowest that is not.
use Prim.Native.Nat.{ℕ, ◌≤◌, ◌<◌, min}
use mathlib.Core.Bool.{Bool, not}
use mathlib.Core.Path.{◌≡◌, sym, ap, ◌∙◌, fun_ext}
use native.Mathlib.Omega.{arith}
use Rattle.lists.specs.Lists.{below, first_of}
use Rattle.lists.specs.Words.{in_word, word_of}
use Rattle.lists.proofs.Numbers.{first_is, first_none}
use Rattle.lists.proofs.Words.{one_is_in, zero_is_out, in_word_of}
use Rattle.lists.proofs.Counts.{Run, ones_bits, ones_word_of}
use Rattle.net.specs.declared.Net.{Net}
use Rattle.net.specs.Sizes.{station_room}
use Rattle.net.proofs.ValueLaws.{stations_of}
use Rattle.reach.specs.Reach.{has, count_of, lowest_of}
use Rattle.reach.specs.Values.{reach_of}
use Rattle.reach.proofs.ReachLaws.{reach_length}
use Rattle.reach.proofs.Word.{word_fits}
use Rattle.reach.specs.declared.Reached.{Reached}
use Rattle.reach.specs.ShowingValues.{reached_of, ones_of, lowest_missing}

module _ (net : Net) (works : ℕ → Bool) (s : ℕ) where
  pub ones_of_reach : ones_of (word_of (reach_of net works s)) ≡ count_of (reach_of net works s)
  unfolding ones_of
  ones_of_reach = sym (ones_bits 32 (word_of (reach_of net works s)) (word_fits net works s)) ∙ ones_word_of (reach_of net works s)

  pub lowest_of_reach : lowest_missing (word_of (reach_of net works s)) net.stations ≡ lowest_of (reach_of net works s)
  unfolding lowest_missing
  lowest_of_reach =
      ap (λ (p : ℕ → Bool). first_of p (below (min net.stations station_room)) 255)
      (fun_ext (λ t. ap not (in_word_of (reach_of net works s) t)))
      ∙ ap (λ (n : ℕ). first_of (λ t. not (has (reach_of net works s) t)) (below n) 255) (sym (reach_length _ _ s ∙ stations_of net))

pub reached_is : (net : Net) (works : ℕ → Bool) (s word ones lowest : ℕ) → word ≡ word_of (reach_of net works s) → ones ≡ ones_of word
    → lowest ≡ lowest_missing word net.stations
    → ◌≡◌ {A = Reached} (record { word = word; ones = ones; lowest = lowest }) (reached_of net works s)
reached_is net works s word ones lowest p q r =
    let q' = q ∙ ap ones_of p ∙ ones_of_reach net works s in
    let r' = r ∙ ap (λ (w : ℕ). lowest_missing w net.stations) p ∙ lowest_of_reach net works s in
    λ i. record { word = p i; ones = q' i; lowest = r' i }

-- the lowest bit that a word lacks, by the trailing zeros of its complement
pub lowest_run : (w n z : ℕ) → Run 32 w z → z < min n station_room → z ≡ lowest_missing w n
unfolding lowest_missing
lowest_run w n z r h =
    sym (first_is (λ t. not (in_word w t)) (min n station_room) z 255 h (λ t l. ap not (one_is_in w t (r.has t l)))
    (ap not (zero_is_out w z (r.lacks (omega arith)))))

pub lowest_none : (w n z : ℕ) → Run 32 w z → min n station_room ≤ z → 255 ≡ lowest_missing w n
unfolding lowest_missing
lowest_none w n z r h =
    sym (first_none (λ t. not (in_word w t)) (min n station_room) 255 (λ t l. ap not (one_is_in w t (r.has t (omega arith)))))
