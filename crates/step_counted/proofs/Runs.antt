-- A run of calls that are lent a tally: the tally after it is the one lent, with the history's counts of notices settled, counters
-- raised and letters dropped added, each staying at its largest value.
use Rattle.std.specs.Prelude.{if◌then◌else◌}
use Prim.Native.Nat.{ℕ}
use mathlib.Core.Bool.{Bool, true, false}
use mathlib.Core.Path.{◌≡◌, refl, ap, ◌∙◌, subst⁻¹}
use mathlib.Core.List.{List}
use lib.Dec.{eqb}
use Rattle.tally.specs.declared.Tally.{Tally}
use Rattle.tally.specs.Sums.{tallied}
use Rattle.tally.proofs.Plain.{no_counts}
use Rattle.world.specs.World.{World, Event, accepted, refusal}
use Rattle.world.specs.History.{run}
use Rattle.state.specs.declared.State.{State}
use Rattle.state.specs.State.{world_of}
use Rattle.step_rules.specs.declared.Stepped.{Stepped}
use Rattle.step_rules.specs.Step.{stepped_of}
use Rattle.step_rules.proofs.Bridge.{Good, is_step}
use Rattle.laws.specs.Tallied.{accepted_counts, counts_of, ever_counted, tally_by}
use Rattle.tally.proofs.Sums.{Fits}
use Rattle.laws.proofs.Calls as C
use Rattle.step_rules.specs.Counting.{tallied_by}

-- one call of `step_counted` on the state s with the event e, lent the tally x: it handed back the state t and left y in the tally
pub record Lent (s : State) (x : Tally) (e : Event) (t : State) (y : Tally) : Type 0 where
  pub answer : Stepped
  pub promised : answer ≡ stepped_of s e.kind e.a e.b
  pub state : t ≡ answer.state
  pub tally : y ≡ tallied_by (stepped_of s e.kind e.a e.b) x

-- a run of such calls, all of them lent the same tally, each given the state that the one before it handed back
abbrev pub LentCalls : State → Tally → List Event → State → Tally → Type 0
LentCalls = C.LentCalls world_of Lent

-- ---- one call adds to the tally what the world's step does
abbrev by_number : ℕ → Tally → Tally → Tally
by_number n c x = if eqb n 0 then tallied x c else x

step_tallies : (w : World) (e : Event) (x : Tally)
    → by_number (refusal w e) (counts_of w e) x ≡ tally_by (accepted w e) x (accepted_counts w e)
step_tallies w e x = go (accepted w e) (accepted_counts w e)
  where
    go : (b : Bool) (n : Tally) → (if b then tallied x (if b then n else no_counts) else x) ≡ tally_by b x n
    go true n = refl
    go false n = refl

pub one_lent : (s : State) (x : Tally) (e : Event) (t : State) (y : Tally) → Good s → Lent s x e t y
    → C.IsLentStep world_of Lent Good s x e t y
one_lent s x e t y g c =
    let i = is_step s e.kind e.a e.b g in
    let q : t ≡ (stepped_of s e.kind e.a e.b).state = c.state ∙ ap (λ (r : Stepped). r.state) c.promised in
    record {
      fit = subst⁻¹ Good q i.good;
      world = ap world_of q ∙ i.world;
      tally = c.tally ∙ (λ j. by_number (i.number j) (i.counts j) x) ∙ step_tallies (world_of s) e x;
    }

-- THE TALLY OF THE CODE: after a run of calls it is the one lent, with the history's counts added.
pub tally_is_history : {s u : State} {x y : Tally} {es : List Event} → Good s → Fits x → LentCalls s x es u y
    → y ≡ tallied x (ever_counted (world_of s) es)
tally_is_history g f r = C.lent_history world_of Lent Good one_lent g f r

-- and the state is the one after the history
pub lent_mean : {s u : State} {x y : Tally} {es : List Event} → Good s → LentCalls s x es u y → world_of u ≡ run (world_of s) es
lent_mean g r = C.lent_world world_of Lent Good one_lent g r
