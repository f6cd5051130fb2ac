-- The demands of the code: a run of calls of the network's step, from a state that is well formed or from a freshly read sheet.
-- One call is what the step promises and nothing else: its answer is `stepped_of` of what it was given.
use Prim.Native.Nat.{◌+◌}
use mathlib.Core.Path.{◌≡◌, sym, ap, ◌∙◌, subst⁻¹}
use mathlib.Core.List.{List}
use lib.Dec.{T}
use lib.ListN.{length}
use Rattle.tally.specs.declared.Tally.{Tally}
use Rattle.net.specs.declared.Net.{Net}
use Rattle.net.specs.Values.{network_of}
use Rattle.sheet_rules.specs.Values.{net_holds}
use Rattle.sheet.specs.Values.{value_of}
use Rattle.sheet.proofs.ValueLaws.{value_back}
use Rattle.world.specs.World.{World, Event, fresh}
use Rattle.world.specs.History.{run, ever_settled, ever_sent, ever_delivered, ever_lost}
use Rattle.state.specs.declared.State.{State}
use Rattle.state.specs.State.{world_of, state_of, Ends64}
use Rattle.state.proofs.Meaning.{holds_net, net_is, world_well}
use Rattle.state.proofs.First.{first_sized, first_holds, first_means}
use Rattle.step_rules.specs.declared.Stepped.{Stepped}
use Rattle.step_rules.specs.Step.{stepped_of}
use Rattle.step_rules.proofs.Bridge.{Good, is_step, meaning_determines}
use Rattle.laws.specs.Flood.{only_notices}
use Rattle.laws.specs.Tallied.{ever_counted}
use Rattle.laws.proofs.Calls as C

-- one call of the step on the state s with the event e: it handed back the state t and the counts n
pub record Call (s : State) (e : Event) (t : State) (n : Tally) : Type 0 where
  pub answer : Stepped
  pub promised : answer ≡ stepped_of s e.kind e.a e.b
  pub state : t ≡ answer.state
  pub counts : n ≡ answer.counts

-- a run of calls, each given the state that the one before it handed back, with their counts added up
abbrev pub Calls : State → List Event → Tally → State → Type 0
Calls = C.Calls world_of Call

-- a state that a run of calls is given or hands back on its way, with the events and the counts so far
abbrev pub Comes : {s u : State} {es : List Event} {n : Tally} → Calls s es n u → List Event → Tally → State → Type 0
Comes r = C.Comes world_of Call r

pub one_step : (s : State) (e : Event) (t : State) (n : Tally) → Good s → Call s e t n → C.IsStep world_of Call Good s e t n
one_step s e t n g c =
    let i = is_step s e.kind e.a e.b g in
    let p : c.answer ≡ stepped_of s e.kind e.a e.b = c.promised in
    let q : t ≡ (stepped_of s e.kind e.a e.b).state = c.state ∙ ap (λ (r : Stepped). r.state) p in
    record {
      fit = subst⁻¹ Good q i.good;
      world = ap world_of q ∙ i.world;
      counts = c.counts ∙ ap (λ (r : Stepped). r.counts) p ∙ i.counts;
    }

-- DEMAND 3 OF THE CODE. In a run of calls made only of accepted deliveries and losses of notices, at every state that it hands back:
-- the settled numbers that the calls answered, added up, stay within the mission's bound; no counter falls, and none passes the
-- highest one at the start.
pub flood_dies_out : {s u : State} {es : List Event} {n : Tally} → Good s → T (only_notices (world_of s) es) → (r : Calls s es n u)
    → C.CallsDieOut world_of Call Good one_step r
flood_dies_out {s} g o r = C.calls_die_out world_of Call Good one_step g (world_well s g.sized g.holds) o r

-- THE COUNTS ARE THE HISTORY'S: the settled, raised and dropped numbers that the calls answer, added up, are the counts over the event
-- history. None is made up.
pub counts_are_history : {s u : State} {es : List Event} {n : Tally} → Good s → Calls s es n u → n ≡ ever_counted (world_of s) es
counts_are_history g r = C.calls_counts world_of Call Good one_step g r

pub settled_is_history : {s u : State} {es : List Event} {n : Tally} → Good s → Calls s es n u → n.settled ≡ ever_settled (world_of s) es
settled_is_history g r = ap (λ (x : Tally). x.settled) (counts_are_history g r)

-- The state at the end means the world after the history.
pub calls_mean : {s u : State} {es : List Event} {n : Tally} → Good s → Calls s es n u → world_of u ≡ run (world_of s) es
calls_mean g r = C.calls_world world_of Call Good one_step g r

-- WELL FORMED FOR EVER: every state that a run of calls hands back.
pub well_for_ever : {s u : State} {es : List Event} {n : Tally} → Good s → Calls s es n u → Good u
well_for_ever g r = C.calls_fit world_of Call Good one_step g r

pub well_on_the_way : {s u t : State} {es ds : List Event} {n m : Tally} {r : Calls s es n u} → Good s → Comes r ds m t → Good t
well_on_the_way g p = well_for_ever g (C.comes_by_calls world_of Call p)

-- ---- from a freshly read sheet
module _ (net : Net) (h : T (net_holds net)) (d : Ends64 net) where
  abbrev pub first : State
  first = state_of net (fresh (network_of net))

  pub first_good : Good first
  first_good = record { sized = first_sized net h d; holds = first_holds net h }

  pub well_from_sheet : {u : State} {es : List Event} {n : Tally} → Calls first es n u → Good u
  well_from_sheet r = well_for_ever first_good r

  -- CONSERVATION OF THE CODE: letters ever sent, counted from the events, equal those delivered, lost and in flight.
  pub letters_conserved : {u : State} {es : List Event} {n : Tally} → Calls first es n u
      → ever_sent (fresh (network_of net)) es ≡ ever_delivered (fresh (network_of net)) es + ever_lost (fresh (network_of net)) es + length
      (world_of u).letters
  letters_conserved r = C.calls_conserve world_of Call Good one_step (network_of net) first_good (first_means net h) r

-- ---- a well-formed state is determined by what it means
pub determined : (s t : State) → Good s → Good t → world_of s ≡ world_of t → s ≡ t
determined s t g h w = meaning_determines s t g h nets w
  where
    back : (x : State) → Good x → value_of (network_of x.net) ≡ x.net
    back x f = value_back x.net (holds_net x f.sized f.holds) f.sized.ends.low f.sized.ends.high

    nets : s.net ≡ t.net
    nets =
        sym (back s g)
        ∙ ap value_of (sym (net_is s g.sized g.holds) ∙ ap (λ (x : World). x.net) w ∙ net_is t h.sized h.holds)
        ∙ back t h
