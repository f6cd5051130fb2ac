-- Reach, purge and the report depend only on which of the links that are there work: two choices that agree on these give the
-- same.
use Rattle.std.specs.Prelude.{if◌then◌else◌}
use Prim.Native.Nat.{ℕ, zero, suc, ◌<◌}
use mathlib.Core.Bool.{Bool, ◌&&◌, ◌||◌}
use mathlib.Core.Path.{◌≡◌, refl, sym, ap, ap₂, ◌∙◌, subst}
use mathlib.Core.List.{List, ◌++◌, map}
use native.Mathlib.Nat.{zero-add}
use native.Mathlib.Omega.{arith}
use lib.Dec.{T, eqb}
use lib.ListN.{length}
use Rattle.lists.specs.Lists.{below, any}
use Rattle.lists.specs.Words.{bit}
use Rattle.lists.proofs.Tests.{same_test}
use Rattle.lists.proofs.Numbers.{any_out, any_in}
use Rattle.lists.proofs.Fill.{map_below_same}
use Rattle.net.specs.Network.{Network, ends, link_numbers}
use Rattle.reach.specs.Reach.{counter_in, has, joins_to, spread, within, reach, near, purge, link_value, report}

any_from : (p q : ℕ → Bool) (n : ℕ) → ((k : ℕ) → k < n → p k ≡ q k) → T (any p (below n)) → T (any q (below n))
any_from p q n e t =
    let r = any_out p n 0 t in
    let h : r.0 < n = omega (arith, r.2) in
    any_in q n 0 r.0 h (subst (λ (k : ℕ). T (q k)) (sym (zero-add r.0)) (subst T (e r.0 h) r.3))

any_same : (p q : ℕ → Bool) (n : ℕ) → ((k : ℕ) → k < n → p k ≡ q k) → any p (below n) ≡ any q (below n)
any_same p q n e = same_test (any p (below n)) (any q (below n)) (any_from p q n e) (any_from q p n (λ k h. sym (e k h)))

module _ (net : Network) (f g : ℕ → Bool) (same : (k : ℕ) → k < length net.links → f k ≡ g k) where
  spread_same : (set : List Bool) → spread net f set ≡ spread net g set
  unfolding spread
  spread_same set =
      map_below_same (λ t. has set t || any (joins_to net f set t) (link_numbers net))
      (λ t. has set t || any (joins_to net g set t) (link_numbers net)) net.stations
      (λ t l. ap (λ (b : Bool). has set t || b) (any_same (joins_to net f set t) (joins_to net g set t) (length net.links) (joined t)))
    where
      joined : (t k : ℕ) → k < length net.links → joins_to net f set t k ≡ joins_to net g set t k
      joined t k h =
          ap (λ (b : Bool). b && ((eqb (ends net k).low t && has set (ends net k).high) || (eqb (ends net k).high t && has set
          (ends net k).low))) (same k h)

  within_same : (s h : ℕ) → within net f s h ≡ within net g s h
  unfolding within
  within_same s zero = refl
  within_same s (suc h) = ap (spread net f) (within_same s h) ∙ spread_same (within net g s h)

  pub reach_same : (s : ℕ) → reach net f s ≡ reach net g s
  unfolding reach
  reach_same s = within_same s net.stations

  pub purge_same : (s : ℕ) (table : List ℕ) → purge net f s table ≡ purge net g s table
  unfolding purge
  purge_same s table =
      ap (λ (set : List Bool). map (λ k. if near net (has set) k then counter_in table k else 1) (link_numbers net)) (reach_same s)

  pub report_same : (s : ℕ) → report net f s ≡ report net g s
  unfolding report
  report_same s =
      ap₂ (λ (xs ys : List ℕ). xs ++ ys) (ap (λ (set : List Bool). map (λ t. bit (has set t)) (below net.stations)) (reach_same s))
      (map_below_same (λ k. link_value (near net (has (reach net f s)) k) (f k)) (λ k. link_value (near net (has (reach net g s)) k) (g k))
      (length net.links)
      (λ k h. ap₂ (λ (set : List Bool) (b : Bool). link_value (near net (has set) k) b) (reach_same s) (same k h)))
