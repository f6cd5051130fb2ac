-- A freshly read sheet's state is well formed, and means the fresh world.
use mathlib.Core.Path.{◌≡◌, refl}
use lib.Dec.{T}
use Rattle.net.specs.declared.Net.{Net}
use Rattle.net.specs.Values.{network_of}
use Rattle.sheet_rules.specs.Values.{net_holds}
use Rattle.sheet_rules.proofs.Good.{sheet_good}
use Rattle.world.specs.World.{fresh}
use Rattle.world.proofs.Keeps.{fresh_formed}
use Rattle.state.specs.declared.State.{State}
use Rattle.state.specs.State.{world_of, state_of, state_holds, Ends64, Sized}
use Rattle.state.proofs.LaidOut.{laid_sized, laid_holds, laid_means}

module _ (net : Net) (n : T (net_holds net)) where
  fresh_net : network_of net ≡ (fresh (network_of net)).net
  unfolding fresh
  fresh_net = refl

  abbrev first : State
  first = state_of net (fresh (network_of net))

  pub first_sized : Ends64 net → Sized first
  first_sized = laid_sized net (fresh (network_of net)) n fresh_net (fresh_formed (network_of net) (sheet_good net n))

  pub first_holds : T (state_holds first)
  first_holds = laid_holds net (fresh (network_of net)) n fresh_net (fresh_formed (network_of net) (sheet_good net n))

  pub first_means : world_of first ≡ fresh (network_of net)
  first_means = laid_means net (fresh (network_of net)) n fresh_net (fresh_formed (network_of net) (sheet_good net n))
