-- That the reach by the table that the call reads is the reach in the world, or that its number refuses it.
use Rattle.std.specs.Prelude.{Ok, Err}
use Prim.Native.Nat.{ℕ, ◌<◌}
use mathlib.Core.Bool.{Bool}
use mathlib.Core.Path.{◌≡◌, refl, sym, ap, ap₂, ◌∙◌}
use mathlib.Core.List.{List}
use borrow.Author.Tests.{eq-eqb, ne_eqb}
use lib.Dec.{T}
use Rattle.lists.specs.Words.{in_word, word_of}
use Rattle.net.specs.Network.{Network}
use Rattle.reach.specs.Reach.{works_in, reach, count_of, lowest_of}
use Rattle.reach.specs.Values.{table_of, working_of}
use Rattle.reach.proofs.Working.{working_is}
use Rattle.reach.specs.declared.Reached.{Reached}
use Rattle.reach.specs.ShowingValues.{reached_of}
use Rattle.world.specs.World.{World, holding_at, reach_at}
use Rattle.state.specs.declared.State.{State}
use Rattle.state.specs.State.{station_in, world_of, state_holds, Sized}
use Rattle.sets.specs.Rooms.{in_room}
use Rattle.report.proofs.AskingKnown.{world_net, me_is, table_is, Read, holds, number_is, is_good, there, refuses}
use Rattle.report.specs.Asking.{number_of, refusal_number}
use Rattle.report.specs.declared.Refusal.{Refusal}
use Rattle.report.specs.Answers.{no_reach, asked_of, asked_in}

-- ---- a well-formed state
module _ (s : State) (z : Sized s) (t : T (state_holds s)) (a me : ℕ) (pe : me ≡ in_room a) (h : a < s.net.stations) where
  abbrev w : World
  w = world_of s

  pub reach_is : reached_of s.net (works_in (table_of s.net (station_in s me).counters)) me ≡ reach_at w a
  unfolding reach_at
  reach_is =
      ap₂ at (sym (world_net s z t)) (sym (table_is s z t a me pe h))
      ∙ ap (λ (k : ℕ). answered w.net (holding_at w a).table k) (me_is s z t a me pe h)
    where
      answered : Network → List ℕ → ℕ → Reached
      answered n l k =
          record {
            word = word_of (reach n (works_in l) k);
            ones = count_of (reach n (works_in l) k);
            lowest = lowest_of (reach n (works_in l) k);
          }

      at : Network → List ℕ → Reached
      at n l = answered n l me

module _ {s : State} {a : ℕ} {good : Bool} {me : ℕ} where
  -- where no number refuses
  pub reach_read : Read s a good me 0 → (x : Reached) (working : ℕ) → working ≡ working_of s.net.links (station_in s me).counters
      → x ≡ reached_of s.net (in_word working) me
      → asked_in (Ok x) ≡ asked_of s a
  unfolding asked_of
  reach_read r x working we p =
      let b = eq-eqb (number_of s a) 0 (sym (number_is r)) in
      let own : ℕ → Bool = works_in (table_of s.net (station_in s me).counters) in
      let y : x ≡ reach_at (world_of s) a =
      p ∙ ap (λ (works : ℕ → Bool). reached_of s.net works me) (working_is s.net (station_in s me).counters working we)
      ∙ reach_is s (r.sized (is_good r refl)) (holds r (is_good r refl)) a me r.place (there r refl) in
      ap (λ (v : Reached). record { answer = 0; reached = v }) y ∙ simp b

  -- where one does
  pub reach_refused : (e : Refusal) → Read s a good me (refusal_number e) → asked_in (Err e) ≡ asked_of s a
  unfolding asked_of
  reach_refused e r =
      let b = ne_eqb (number_of s a) 0 (λ z. refuses e (number_is r ∙ z)) in
      ap (λ (n : ℕ). record { answer = n; reached = no_reach }) (number_is r) ∙ simp b
