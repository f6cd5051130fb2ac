-- Each station's own links, found in one pass over the links: one link puts its number into the words of its two ends.
use Prim.Native.Nat.{ℕ, ◌+◌, ◌*◌, ◌%◌, ◌^◌, ◌≤◌, ◌<◌}
use mathlib.Core.Bool.{Bool, true, false, ◌&&◌, ◌||◌}
use mathlib.Core.Path.{◌≡◌, refl, sym, ap, ap₂, ◌∙◌}
use mathlib.Core.List.{List, map}
use native.Mathlib.Decide.{dec_lt, ℕ_discrete}
use native.Mathlib.Omega.{arith}
use lib.Dec.{eqb, ltb}
use lib.ListN.{length, get_or, set, length-set}
use lib.Seq.{ext_get_or, get_or-set_same, get_or-set_other}
use borrow.Author.Tests.{eq-eqb, ne_eqb, lt-ltb, le-ltb}
use Rattle.lists.specs.Lists.{below}
use Rattle.lists.specs.Words.{in_word}
use Rattle.lists.proofs.Numbers.{get_or_map_below, length_map_below}
use Rattle.lists.proofs.Tests.{and_yes}
use Rattle.lists.proofs.Fill.{map_below_same}
use Rattle.net.specs.declared.Net.{Net}
use Rattle.net.specs.Network.{is_end}
use Rattle.net.specs.Values.{network_of, link_count}
use Rattle.net.specs.Sizes.{station_room}
use Rattle.sets.specs.Sets.{word_by, up_to}
use Rattle.sets.proofs.WordLaws.{in_by, by_same, one_bit, upto_none}
use Rattle.marks.specs.Marks.{own_words}
use Rattle.marks.proofs.OwnLinks.{own_read}

-- a word for each place of the room of stations
unfoldable pub words_at : (ℕ → ℕ → Bool) → List ℕ
words_at f = map (λ s. word_by (f s)) (below station_room)

-- the same with link k put into the word of station e, if it has a place there
module _ (f : ℕ → ℕ → Bool) (k e : ℕ) where
  abbrev pub with_end : ℕ → ℕ → Bool
  with_end s t = f s t || (eqb t k && eqb e s)

  elsewhere : (s : ℕ) → (e ≡ s → ⊥) → word_by (f s) ≡ word_by (with_end s)
  elsewhere s n =
      by_same (f s) (with_end s) (λ t h. sym (ap (λ (b : Bool). f s t || (eqb t k && b)) (ne_eqb e s n) ∙ table (f s t) (eqb t k)))
    where
      table : (a b : Bool) → (a || (b && false)) ≡ a
      table true b = refl
      table false true = refl
      table false false = refl

  there : (s : ℕ) → k < 64 → e ≡ s → word_by (λ t. in_word (word_by (f s)) t || in_word ((1 * 2 ^ k) % 2 ^ 64) t) ≡ word_by (with_end s)
  there s l q =
      by_same (λ t. in_word (word_by (f s)) t || in_word ((1 * 2 ^ k) % 2 ^ 64) t) (with_end s)
      (λ t h. ap₂ (λ (a b : Bool). a || b) (in_by (f s) t h) (one_bit k l t ∙ sym (and_yes (eqb t k)))
      ∙ sym (ap (λ (b : Bool). f s t || (eqb t k && b)) (eq-eqb e s q)))

  pub end_stored : (os : List ℕ) (w : ℕ) → k < 64 → e < station_room → os ≡ words_at f
      → w ≡ word_by (λ t. in_word (get_or os e 0) t || in_word ((1 * 2 ^ k) % 2 ^ 64) t) → set os e w ≡ words_at with_end
  unfolding words_at
  end_stored os w z h p d =
      ap₂ (λ (l : List ℕ) (v : ℕ). set l e v) p
      (d ∙ ap (λ (v : ℕ). word_by (λ t. in_word v t || in_word ((1 * 2 ^ k) % 2 ^ 64) t)) read ∙ there e z refl)
      ∙ ext_get_or 0 (set (words_at f) e new) (words_at with_end) (length-set (words_at f) e new ∙ sizes)
      (λ s l. go s (room s l) (ℕ_discrete s e))
    where
      new : ℕ
      new = word_by (with_end e)

      sizes : length (words_at f) ≡ length (words_at with_end)
      sizes = length_map_below (λ s. word_by (f s)) station_room ∙ sym (length_map_below (λ s. word_by (with_end s)) station_room)

      read : get_or os e 0 ≡ word_by (f e)
      read = ap (λ (l : List ℕ). get_or l e 0) p ∙ get_or_map_below (λ s. word_by (f s)) station_room e 0 h

      room : (s : ℕ) → s < length (set (words_at f) e new) → s < station_room
      room s l = omega (arith, length-set (words_at f) e new, length_map_below (λ s. word_by (f s)) station_room)

      go : (s : ℕ) → s < station_room → Dec (s ≡ e) → get_or (set (words_at f) e new) s 0 ≡ get_or (words_at with_end) s 0
      go s l (yes q) =
          ap (λ (x : ℕ). get_or (set (words_at f) e new) x 0) q
          ∙ get_or-set_same (words_at f) e new 0 (omega (arith, length_map_below (λ s. word_by (f s)) station_room))
          ∙ ap (λ (x : ℕ). word_by (with_end x)) (sym q) ∙ sym (get_or_map_below (λ s. word_by (with_end s)) station_room s 0 l)
      go s l (no n) =
          get_or-set_other (words_at f) e s new 0 n ∙ get_or_map_below (λ s. word_by (f s)) station_room s 0 l ∙ elsewhere s (λ q. n (sym q))
          ∙ sym (get_or_map_below (λ s. word_by (with_end s)) station_room s 0 l)

  pub end_beyond : (os : List ℕ) → station_room ≤ e → os ≡ words_at f → os ≡ words_at with_end
  unfolding words_at
  end_beyond os h p =
      p ∙ map_below_same (λ s. word_by (f s)) (λ s. word_by (with_end s)) station_room (λ s l. elsewhere s (λ q. omega arith))

-- ---- the links that have been gone through
module _ (net : Net) where
  abbrev low : ℕ → ℕ
  low k = get_or net.low k 0

  abbrev high : ℕ → ℕ
  high k = get_or net.high k 0

  abbrev pub owns_up_to : ℕ → List ℕ
  owns_up_to k = words_at (λ s. up_to (λ t. is_end (network_of net) t s) k)

  pub pass_begun : (os : List ℕ) → os ≡ map (λ s. 0) (below station_room) → os ≡ owns_up_to 0
  unfolding words_at
  pass_begun os p =
      p ∙ map_below_same (λ s. 0) (λ s. word_by (up_to (λ t. is_end (network_of net) t s) 0)) station_room
      (λ s l. upto_none (λ t. is_end (network_of net) t s))

  pub pass_more : (k : ℕ) → k < link_count net
      → words_at (with_end (with_end (λ s. up_to (λ t. is_end (network_of net) t s) k) k (low k)) k (high k))
      ≡ owns_up_to (k + 1)
  unfolding words_at
  pass_more k h =
      map_below_same (λ s. word_by (both s)) (λ s. word_by (up_to (λ t. is_end (network_of net) t s) (k + 1))) station_room
      (λ s l. by_same (both s) (up_to (λ t. is_end (network_of net) t s) (k + 1)) (λ t m. go s t (ℕ_discrete t k)))
    where
      both : ℕ → ℕ → Bool
      both = with_end (with_end (λ s. up_to (λ t. is_end (network_of net) t s) k) k (low k)) k (high k)

      later : (s t : ℕ) → (t ≡ k → ⊥) → Dec (t < k) → (ltb t k && is_end (network_of net) t s) ≡ (ltb t (k + 1) && is_end (network_of net) t s)
      later s t n (yes l) = ap (λ (b : Bool). b && is_end (network_of net) t s) (lt-ltb t k l ∙ sym (lt-ltb t (k + 1) (omega arith)))
      later s t n (no l) =
          ap (λ (b : Bool). b && is_end (network_of net) t s) (le-ltb t k (omega arith) ∙ sym (le-ltb t (k + 1) (omega arith)))

      table : (a x y : Bool) → ((a || (false && x)) || (false && y)) ≡ a
      table true x y = refl
      table false x y = refl

      go : (s t : ℕ) → Dec (t ≡ k) → both s t ≡ up_to (λ t. is_end (network_of net) t s) (k + 1) t
      go s t (yes q) =
          ap₂ (λ (a b : Bool). ((a && is_end (network_of net) t s) || (b && eqb (low k) s)) || (b && eqb (high k) s))
          (le-ltb t k (omega arith)) (eq-eqb t k q)
          ∙ own_read net s k (eqb (low k) s || eqb (high k) s) h refl ∙ ap (λ (x : ℕ). is_end (network_of net) x s) (sym q)
          ∙ sym (ap (λ (b : Bool). b && is_end (network_of net) t s) (lt-ltb t (k + 1) (omega arith)))
      go s t (no n) =
          ap (λ (b : Bool). ((up_to (λ t. is_end (network_of net) t s) k t || (b && eqb (low k) s))
          || (b && eqb (high k) s))) (ne_eqb t k n)
          ∙ table (up_to (λ t. is_end (network_of net) t s) k t) (eqb (low k) s) (eqb (high k) s) ∙ later s t n (dec_lt t k)

  pub pass_ends : (os : List ℕ) (k : ℕ) → k ≡ link_count net → os ≡ owns_up_to k → os ≡ own_words net
  unfolding own_words words_at
  pass_ends os k e p = p ∙ ap owns_up_to e
