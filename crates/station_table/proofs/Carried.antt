-- What two of the small steps answer: the table purged, and what is told where only the known is told of.
use Prim.Native.Nat.{ℕ, ◌<◌}
use mathlib.Core.Bool.{Bool, true, false, not, ◌&&◌}
use mathlib.Core.Path.{◌≡◌, refl, sym, ap, ap₂, ◌∙◌}
use mathlib.Core.List.{List}
use Rattle.net.specs.Sizes.{link_room}
use Rattle.lists.specs.Words.{in_word}
use Rattle.net.specs.declared.Net.{Net}
use Rattle.sets.specs.Sets.{word_by}
use Rattle.sets.proofs.WordLaws.{by_same, in_by}
use Rattle.station.specs.declared.Sending.{Sending}
use Rattle.station_plan.specs.Carrying.{purged_in, kept_by, known_in, narrowed}

-- ---- the table
module _ (net : Net) (s : ℕ) (resets purges : Bool) (table : List ℕ) where
  pub kept_purged : resets ≡ false → purges ≡ true → purged_in net table s ≡ kept_by net s resets purges table
  kept_purged e p = sym (ap₂ (λ (a b : Bool). kept_by net s a b table) e p)

-- ---- what is known
both_bit : (a b : Bool) → (a && not (a && not b)) ≡ (a && b)
both_bit true true = refl
both_bit true false = refl
both_bit false b = refl

module _ (n : ℕ) (table : List ℕ) (x : Sending) where
  pub narrow_is : (knows : Bool) (known unknown subjects : ℕ) → knows ≡ true → known ≡ word_by (known_in n table)
      → unknown ≡ word_by (λ t. in_word x.subjects t && not (in_word known t))
      → subjects ≡ word_by (λ t. in_word x.subjects t && not (in_word unknown t))
      → ◌≡◌ {A = Sending} (record x { subjects = subjects }) (narrowed knows n table x)
  narrow_is knows known unknown subjects e k u s =
      ap (λ (w : ℕ). record x { subjects = w })
      (s ∙ by_same (λ t. in_word x.subjects t && not (in_word unknown t)) (λ t. in_word x.subjects t && known_in n table t) same)
      ∙ sym (ap (λ (b : Bool). narrowed b n table x) e)
    where
      same : (t : ℕ) → t < link_room → (in_word x.subjects t && not (in_word unknown t)) ≡ (in_word x.subjects t && known_in n table t)
      same t h =
          ap (λ (b : Bool). in_word x.subjects t && not b)
          (ap (λ (w : ℕ). in_word w t) u ∙ in_by (λ t. in_word x.subjects t && not (in_word known t)) t h
          ∙ ap (λ (b : Bool). in_word x.subjects t && not b) (ap (λ (w : ℕ). in_word w t) k ∙ in_by (known_in n table) t h))
          ∙ both_bit (in_word x.subjects t) (known_in n table t)
