-- A link's two ends, whether a station is one of them, and whether there is what an event names, by what the code looks at.
use Prim.Native.Nat.{ℕ, ◌≤◌, min}
use mathlib.Core.Bool.{Bool, ◌&&◌, ◌||◌}
use mathlib.Core.Path.{◌≡◌, sym, ap, ap₂, ◌∙◌}
use mathlib.Core.Logic.{◌⊎◌, inl, inr}
use native.Mathlib.Omega.{arith}
use lib.Dec.{eqb, ltb}
use lib.ListN.{get_or-eq_default}
use Rattle.net.specs.declared.Net.{Net}
use Rattle.net.specs.Network.{ends}
use Rattle.net.specs.Values.{network_of, link_count}
use Rattle.net.specs.Sizes.{station_room}
use Rattle.net.proofs.ValueLaws.{stations_of, links_of_lem}
use Rattle.station.specs.declared.Kind.{Kind}
use Rattle.station.specs.declared.Kind.TheVariants.{Start, Stop, Recovery, IntervalEnd, TimeoutEnd, QuietEnd}
use Rattle.world.specs.World.{is_link_at, exists_as}

-- ---- a link's ends
module _ (net : Net) (k : ℕ) where
  pub ends_past : link_count net ≤ k → ends (network_of net) k ≡ record { low = 0; high = 0 }
  ends_past h = get_or-eq_default (network_of net).links (record { low = 0; high = 0 }) {n = k} (omega (arith, links_of_lem net))

  -- a link at the station a
  pub link_is : (a lo hi : ℕ) (r : Bool) → lo ≡ (ends (network_of net) k).low → hi ≡ (ends (network_of net) k).high
      → r ≡ (ltb k (link_count net) && (eqb lo a || eqb hi a)) → r ≡ is_link_at (network_of net) a k
  link_is a lo hi r p q e =
      e ∙ ap₂ (λ (x y : Bool). x && y) (ap (ltb k) (sym (links_of_lem net))) (ap₂ (λ (x y : ℕ). eqb x a || eqb y a) p q)

-- ---- whether there is what an event names, by its kind
module _ (net : Net) (flying a b : ℕ) where
  abbrev Exists : Kind → Bool
  Exists e = exists_as e (network_of net) flying a b

  pub station_exists : (e : Kind) → (e ≡ Start) ⊎ ((e ≡ Stop) ⊎ (e ≡ Recovery))
      → (ltb a (min net.stations station_room) && eqb b 0) ≡ Exists e
  station_exists e h = go h
    where
      named : (ltb a (min net.stations station_room) && eqb b 0) ≡ Exists Start
      named = ap (λ (n : ℕ). ltb a n && eqb b 0) (sym (stations_of net))

      go : (e ≡ Start) ⊎ ((e ≡ Stop) ⊎ (e ≡ Recovery)) → (ltb a (min net.stations station_room) && eqb b 0) ≡ Exists e
      go (inl p) = named ∙ ap Exists (sym p)
      go (inr (inl p)) = named ∙ ap Exists (sym p)
      go (inr (inr p)) = named ∙ ap Exists (sym p)

  pub link_exists : (e : Kind) → (e ≡ IntervalEnd) ⊎ ((e ≡ TimeoutEnd) ⊎ (e ≡ QuietEnd))
      → (ltb a (min net.stations station_room) && is_link_at (network_of net) a b) ≡ Exists e
  link_exists e h = go h
    where
      named : (ltb a (min net.stations station_room) && is_link_at (network_of net) a b) ≡ Exists IntervalEnd
      named = ap (λ (n : ℕ). ltb a n && is_link_at (network_of net) a b) (sym (stations_of net))

      go : (e ≡ IntervalEnd) ⊎ ((e ≡ TimeoutEnd) ⊎ (e ≡ QuietEnd))
          → (ltb a (min net.stations station_room) && is_link_at (network_of net) a b) ≡ Exists e
      go (inl p) = named ∙ ap Exists (sym p)
      go (inr (inl p)) = named ∙ ap Exists (sym p)
      go (inr (inr p)) = named ∙ ap Exists (sym p)
