-- The step of the code is the world's step of what the state means: through the bridge, for every state and event.
use Rattle.std.specs.Prelude.{if◌then◌else◌}
use Prim.Native.Nat.{ℕ}
use mathlib.Core.Bool.{Bool, false}
use mathlib.Core.Path.{◌≡◌, refl, sym, ap, ◌∙◌, subst⁻¹}
use native.Mathlib.Decide.{ℕ_discrete}
use borrow.Author.Tests.{eq-eqb, ne_eqb}
use lib.Dec.{T, eqb}
use Rattle.lists.proofs.Tests.{T_is}
use Rattle.tally.specs.declared.Tally.{Tally}
use Rattle.net.specs.Values.{network_of}
use Rattle.station.specs.Events.{counting}
use Rattle.world.specs.World.{World, Event, accepted, next, after, refusal, settled, raised, dropped}
use Rattle.world.proofs.Steps.{is_accepted, is_refused, step_accepts, step_refuses, taken, after_net}
use Rattle.world.proofs.Keeps.{Formed, step_formed}
use Rattle.world.proofs.OneRaised.{counts_are}
use Rattle.state.specs.declared.State.{State}
use Rattle.state.specs.State.{world_of, state_of, state_holds, Sized}
use Rattle.state.proofs.Meaning.{determined, holds_net, net_is, world_formed}
use Rattle.state.proofs.LaidOut.{laid_sized, laid_holds, laid_means}
use Rattle.step_rules.specs.declared.Stepped.{Stepped}
use Rattle.step_rules.specs.Step.{event, refusing, accepting, number_of, stepped_of}

-- a state value that is well formed, with what its type says
pub record Good (s : State) : Type 0 where
  pub sized : Sized s
  pub holds : T (state_holds s)

-- ---- what a step answers, by the world's step
-- what is counted of an event, by whether it is accepted
abbrev pub counts_by : Bool → World → Event → Tally
counts_by taken w e = if taken then counting (settled w e) (raised w e) (dropped w e) else counting 0 0 0

pub record IsStep (s : State) (e : Event) (r : Stepped) : Type 0 where
  pub number : r.answer ≡ refusal (world_of s) e
  pub world : world_of r.state ≡ next (world_of s) e
  pub good : Good r.state
  pub refused_same : (r.answer ≡ 0 → ⊥) → r.state ≡ s
  -- the notices that it settles, the counters that it leaves higher, over all stations and links, and the letters that it drops
  pub counts : r.counts ≡ counts_by (accepted (world_of s) e) (world_of s) e

module _ (s : State) (kind a b : ℕ) where
  abbrev e : Event
  e = event kind a b

  -- 11: whatever the event, the state is handed back and nothing is counted
  pub bad_refused : state_holds s ≡ false → stepped_of s kind a b ≡ refusing 11 s
  unfolding stepped_of number_of
  bad_refused q =
      ap (λ (c : Bool). if eqb (if c then refusal (world_of s) e else 11) 0 then accepting s e else refusing
      (if c then refusal (world_of s) e else 11) s) q

  module _ (g : Good s) where
    by_refusal : stepped_of s kind a b ≡ (if eqb (refusal (world_of s) e) 0 then accepting s e else refusing (refusal (world_of s) e) s)
    unfolding stepped_of number_of
    by_refusal =
        ap (λ (c : Bool). if eqb (if c then refusal (world_of s) e else 11) 0 then accepting s e else refusing
        (if c then refusal (world_of s) e else 11) s)
        (T_is (state_holds s) g.holds)

    refused_is : (refusal (world_of s) e ≡ 0 → ⊥) → stepped_of s kind a b ≡ refusing (refusal (world_of s) e) s
    refused_is n =
        by_refusal ∙ ap (λ (c : Bool). if c then accepting s e else refusing (refusal (world_of s) e) s) (ne_eqb (refusal (world_of s) e) 0 n)

    accepted_is : refusal (world_of s) e ≡ 0 → stepped_of s kind a b ≡ accepting s e
    accepted_is q =
        by_refusal ∙ ap (λ (c : Bool). if c then accepting s e else refusing (refusal (world_of s) e) s) (eq-eqb (refusal (world_of s) e) 0 q)

    -- ---- refused: the same state, nothing counted
    refusing_step : (refusal (world_of s) e ≡ 0 → ⊥) → IsStep s e (refusing (refusal (world_of s) e) s)
    refusing_step n =
        record {
          number = refl;
          world = sym (step_refuses (world_of s) e n);
          good = g;
          refused_same = λ m. refl;
          counts = sym (ap (λ (x : Bool). counts_by x (world_of s) e) (is_refused (world_of s) e n));
        }

    -- ---- accepted: the world after the event, laid out
    accepting_step : refusal (world_of s) e ≡ 0 → IsStep s e (accepting s e)
    accepting_step q =
        let n = holds_net s g.sized g.holds in
        let u = world_formed s g.sized g.holds in
        let there = (taken (world_of s) e q).exists in
        let f : Formed (after (world_of s) e) = step_formed (world_of s) e u q in
        let m : network_of s.net ≡ (after (world_of s) e).net = sym (after_net (world_of s) e ∙ net_is s g.sized g.holds) in
        record {
          number = sym q;
          world = laid_means s.net (after (world_of s) e) n m f ∙ sym (step_accepts (world_of s) e q);
          good =
              record {
                sized = laid_sized s.net (after (world_of s) e) n m f g.sized.ends;
                holds = laid_holds s.net
                    (after (world_of s) e) n m f;
              };
          refused_same = λ z. absurd (z refl);
          counts = counts_are (world_of s) u e there ∙ sym (ap (λ (x : Bool). counts_by x (world_of s) e) (is_accepted (world_of s) e q));
        }

    pub is_step : IsStep s e (stepped_of s kind a b)
    is_step = go (ℕ_discrete (refusal (world_of s) e) 0)
      where
        go : Dec (refusal (world_of s) e ≡ 0) → IsStep s e (stepped_of s kind a b)
        go (yes q) = subst⁻¹ (IsStep s e) (accepted_is q) (accepting_step q)
        go (no n) = subst⁻¹ (IsStep s e) (refused_is n) (refusing_step n)

-- ---- two answers that are allowed for one input are equal
pub step_unique : (s : State) (kind a b : ℕ) (r t : Stepped) → r ≡ stepped_of s kind a b → t ≡ stepped_of s kind a b → r ≡ t
step_unique s kind a b r t p q = p ∙ sym q

-- a well-formed state is determined by its network value and what it means
pub meaning_determines : (s t : State) → Good s → Good t → s.net ≡ t.net → world_of s ≡ world_of t → s ≡ t
meaning_determines s t g h n w =
    determined s g.sized g.holds ∙ (λ i. state_of (n i) (w i)) ∙ sym (determined t h.sized h.holds)
