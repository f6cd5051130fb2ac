-- The promise of the reach word in the words of document 01: bit t is set exactly if a list of stations leads from s to t,
-- each next one joined by a link that works; and no bit is set beyond the stations.
-- For every network value, choice of working links and station.
use Prim.Native.Nat.{ℕ, ◌^◌, ◌≤◌, ◌<◌}
use mathlib.Core.Bool.{Bool, true, false}
use mathlib.Core.Path.{◌≡◌, refl, sym, ap, ◌∙◌, subst}
use mathlib.Core.Logic.{◌↔◌}
use native.Mathlib.Omega.{arith}
use lib.Dec.{T}
use lib.Pow.{pow_mono}
use Rattle.lists.specs.Words.{bit, bit_at, word_of}
use Rattle.lists.proofs.Tests.{T_is, is_T}
use Rattle.lists.proofs.Words.{in_is_one, one_is_in, in_word_of, word_of_at, word_of_lt, word_ext, beyond}
use Rattle.net.specs.declared.Net.{Net}
use Rattle.reach.specs.Reach.{Reaches, has}
use Rattle.net.specs.Values.{network_of}
use Rattle.reach.specs.Values.{reach_of}
use Rattle.reach.proofs.ReachLaws.{sound, complete, reach_length}
use Rattle.net.proofs.ValueLaws.{stations_few}

-- s reaches t in the network that the value means
abbrev pub ReachesBy : Net → (ℕ → Bool) → ℕ → ℕ → Type 0
ReachesBy net works s t = Reaches (network_of net) works s t

module _ (net : Net) (works : ℕ → Bool) (s : ℕ) where
  pub word_bit : (t : ℕ) → (bit_at (word_of (reach_of net works s)) t ≡ 1) ↔ ReachesBy net works s t
  word_bit t = (
    (λ e. sound _ _ s t (is_T _ (sym (in_word_of (reach_of net works s) t) ∙ one_is_in _ t e))),
    (λ r. in_is_one _ t (in_word_of (reach_of net works s) t ∙ T_is _ (complete _ _ s t r))),
  )

  word_room : word_of (reach_of net works s) < 2 ^ (network_of net).stations
  word_room = subst (λ (n : ℕ). word_of (reach_of net works s) < 2 ^ n) (reach_length _ _ s) (word_of_lt (reach_of net works s))

  pub word_fits : word_of (reach_of net works s) < 2 ^ 32
  word_fits = omega (arith, word_room, pow_mono (stations_few net))

  pub no_bit_beyond : (t : ℕ) → (network_of net).stations ≤ t → bit_at (word_of (reach_of net works s)) t ≡ 0
  no_bit_beyond t h = beyond (network_of net).stations (word_of (reach_of net works s)) t word_room h

  -- a word whose bits are those that s reaches is the reach word
  pub word_is_reach : (w : ℕ) → w < 2 ^ 32 → ((t : ℕ) → bit_at w t ≡ 1 → ReachesBy net works s t)
      → ((t : ℕ) → ReachesBy net works s t → bit_at w t ≡ 1)
      → w ≡ word_of (reach_of net works s)
  word_is_reach w h so co = word_ext 32 w (word_of (reach_of net works s)) h word_fits (λ t l. same t (has (reach_of net works s) t) refl)
    where
      same : (t : ℕ) (b : Bool) → has (reach_of net works s) t ≡ b → bit_at w t ≡ bit_at (word_of (reach_of net works s)) t
      same t true e = co t (sound _ _ s t (is_T _ e)) ∙ sym (word_of_at (reach_of net works s) t ∙ ap bit e)
      same t false e = none ∙ sym (word_of_at (reach_of net works s) t ∙ ap bit e)
        where
          never : bit_at w t ≡ 1 → ⊥
          never p = subst T e (complete _ _ s t (so t p))

          none : bit_at w t ≡ 0
          none = omega (arith, never)
