-- The two ends of a link in a network that keeps the sheet rules: they are two stations, and the end that is not s is an end.
use Rattle.std.specs.Prelude.{if◌then◌else◌}
use Prim.Native.Nat.{ℕ, ◌<◌}
use mathlib.Core.Bool.{Bool, true, false, ◌||◌}
use mathlib.Core.Path.{◌≡◌, refl, subst⁻¹}
use native.Mathlib.Omega.{arith}
use borrow.Author.Tests.{ne_eqb}
use lib.Dec.{T, eqb, eqb→eq, eqb_refl}
use lib.ListN.{length}
use Rattle.lists.proofs.Tests.{T_is, or_left, or_right, if_elim}
use Rattle.net.specs.Network.{Network, ends, is_end, other}
use Rattle.sheet_rules.specs.Rules.{sheet_holds}
use Rattle.sheet_rules.proofs.Rules.{lower_first, higher_there, rules_of}

module _ (net : Network) (ok : T (sheet_holds net)) (k : ℕ) (l : k < length net.links) where
  -- the lower end first
  pub ends_rise : (ends net k).low < (ends net k).high
  ends_rise = lower_first net.stations (ends net k) ((rules_of net ok).good_ends k l)

  -- both are stations
  pub high_real : (ends net k).high < net.stations
  high_real = higher_there net.stations (ends net k) ((rules_of net ok).good_ends k l)

  pub low_real : (ends net k).low < net.stations
  low_real = omega (arith, ends_rise, high_real)

  pub other_real : (s : ℕ) → other net k s < net.stations
  other_real s = if_elim (λ (r : ℕ). r < net.stations) (eqb (ends net k).low s) (λ t. high_real) (λ t. low_real)

  -- the other end's other end
  pub other_other : (s : ℕ) → T (is_end net k s) → other net k (other net k s) ≡ s
  other_other s e = go (eqb (ends net k).low s) refl e
    where
      lo : ℕ
      lo = (ends net k).low

      hi : ℕ
      hi = (ends net k).high

      clash : lo < hi → lo ≡ hi → ⊥
      clash x y = omega arith

      go : (b : Bool) → eqb lo s ≡ b → T (b || eqb hi s) → (if eqb lo (if b then hi else lo) then hi else lo) ≡ s
      go true p q = rw (ne_eqb lo hi (λ y. clash ends_rise y)) (eqb→eq lo s (subst⁻¹ T p tt))
      go false p q = rw (T_is (eqb lo lo) (eqb_refl lo)) (eqb→eq hi s q)

-- the end that is not s is an end, in any network
pub other_end : (net : Network) (k s : ℕ) → T (is_end net k (other net k s))
other_end net k s =
    if_elim (λ (r : ℕ). T (is_end net k r)) (eqb (ends net k).low s)
    (λ t. or_right (eqb (ends net k).low (ends net k).high) _ (eqb_refl (ends net k).high))
    (λ t. or_left (eqb (ends net k).low (ends net k).low) _ (eqb_refl (ends net k).low))
