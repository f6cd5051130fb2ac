-- What the code reads in a network value is what its meaning has.
use Prim.Native.Nat.{ℕ, ◌≤◌, ◌<◌, min}
use mathlib.Core.Path.{◌≡◌, refl}
use native.Mathlib.Omega.{arith}
use lib.ListN.{length}
use Rattle.lists.proofs.Numbers.{get_or_map_below, length_map_below}
use Rattle.net.specs.declared.Net.{Net}
use Rattle.net.specs.Network.{ends}
use Rattle.net.specs.Values.{network_of, place_ends, link_count}
use Rattle.net.specs.Sizes.{station_room}

module _ (net : Net) where
  pub stations_of : (network_of net).stations ≡ min net.stations station_room
  unfolding network_of
  stations_of = refl

  pub stations_few : (network_of net).stations ≤ station_room
  unfolding network_of
  stations_few = omega arith

  pub links_of_lem : length (network_of net).links ≡ link_count net
  unfolding network_of
  links_of_lem = length_map_below (place_ends net) (link_count net)

  pub ends_of : (k : ℕ) → k < link_count net → ends (network_of net) k ≡ place_ends net k
  unfolding network_of
  ends_of k h = get_or_map_below (place_ends net) (link_count net) k (record { low = 0; high = 0 }) h
