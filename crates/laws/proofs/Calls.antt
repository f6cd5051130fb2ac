-- From the definitions to a run of calls. Whatever the state of the calls is, if each call is one step of the world that its state
-- means, and the three counts that it answers are the step's, then what holds of histories holds of runs of calls: the counts added
-- up are the history's, and the settled ones meet the bound, at every state on the way. Calls that are lent a tally instead: the
-- tally after them is the one lent with the history's counts added.
use Prim.Native.Nat.{ℕ, ◌+◌, ◌≤◌, ◌<◌}
use mathlib.Core.Path.{◌≡◌, refl, sym, ap, ap₂, ◌∙◌, subst⁻¹}
use mathlib.Core.List.{List, [], ◌∷◌, ◌++◌}
use native.Mathlib.Omega.{arith}
use lib.Dec.{T}
use lib.ListN.{length}
use Rattle.tally.specs.declared.Tally.{Tally}
use Rattle.tally.specs.Sums.{tallied}
use Rattle.tally.proofs.Plain.{no_counts, plus}
use Rattle.net.specs.Network.{Network}
use Rattle.station.specs.Holding.{counter}
use Rattle.world.specs.World.{World, Event, accepted, next, holding_at, well_formed, fresh}
use Rattle.world.specs.History.{run, total, ever_sent, ever_delivered, ever_lost}
use Rattle.world.proofs.Ledger.{letters_conserved}
use Rattle.laws.specs.Flood.{only_notices, Begins, highest, bound}
use Rattle.laws.specs.Tallied.{accepted_counts, counts_of, ever_counted, tally_by, tally_after}
use Rattle.laws.proofs.Demand3.{flood_of_notices_dies_out}
use Rattle.tally.proofs.Sums.{Fits}
use Rattle.laws.proofs.Tallies.{taken_is, tally_is_history}

-- one call from the state s for the event e handed back the state t and the counts n
module _ {S : Type 0} (world_of : S → World) (Call : S → Event → S → Tally → Type 0) where
  -- a run of calls, each given the state that the one before it handed back, with their counts added up
  pub data Calls : S → List Event → Tally → S → Type 0 where
    none : {s : S} → Calls s [] no_counts s
    more : {s t u : S} {e : Event} {es : List Event} {n m : Tally} → Call s e t n → Calls t es m u → Calls s (e ∷ es) (plus n m) u

  -- the run comes to the state t: after its first events ds, with the counts m so far. It begins at its first state, and each state
  -- that a call hands back is one that it comes to
  pub data ComesIn : (s u : S) (es : List Event) (n : Tally) → Calls s es n u → List Event → Tally → S → Type 0 where
    here : {s u : S} {es : List Event} {n : Tally} {r : Calls s es n u} → ComesIn s u es n r [] no_counts s
    on : {s t u v : S} {e : Event} {es ds : List Event} {n m k : Tally} {c : Call s e t n} {r : Calls t es m u}
        → ComesIn t u es m r ds k v → ComesIn s u (e ∷ es) (plus n m) (more c r) (e ∷ ds) (plus n k) v

  abbrev pub Comes : {s u : S} {es : List Event} {n : Tally} → Calls s es n u → List Event → Tally → S → Type 0
  Comes {s} {u} {es} {n} r ds m t = ComesIn s u es n r ds m t

  -- to its end too
  pub comes_to_end : {s u : S} {es : List Event} {n : Tally} (r : Calls s es n u) → Comes r es n u
  comes_to_end none = here
  comes_to_end (more c r) = on (comes_to_end r)

  -- what is behind it is a run of calls, and its events begin those of the whole run
  pub comes_by_calls : {s u t : S} {es ds : List Event} {n m : Tally} {r : Calls s es n u} → Comes r ds m t → Calls s ds m t
  comes_by_calls here = none
  comes_by_calls (on {c = c} p) = more c (comes_by_calls p)

  pub comes_begins : {s u t : S} {es ds : List Event} {n m : Tally} {r : Calls s es n u} → Comes r ds m t → Begins ds es
  comes_begins {es = es} here = record { rest = es; whole = refl }
  comes_begins (on {e = e} p) = let b = comes_begins p in record { rest = b.rest; whole = ap (λ (l : List Event). e ∷ l) b.whole }

  -- what a call promises of a state that is fit to be given: it is the step of what the state means
  pub record IsStep (Fit : S → Type 0) (s : S) (e : Event) (t : S) (n : Tally) : Type 0 where
    pub fit : Fit t
    pub world : world_of t ≡ next (world_of s) e
    pub counts : n ≡ counts_of (world_of s) e

  module _ (Fit : S → Type 0) (promise : (s : S) (e : Event) (t : S) (n : Tally) → Fit s → Call s e t n → IsStep Fit s e t n) where
    pub calls_world : {s u : S} {es : List Event} {n : Tally} → Fit s → Calls s es n u → world_of u ≡ run (world_of s) es
    unfolding run
    calls_world f none = refl
    calls_world f (more {s = s} {t = t} {e = e} {es = es} {n = n} c r) =
        let p = promise s e t n f c in
        calls_world p.fit r ∙ ap (λ (w : World). run w es) p.world

    -- every state handed back is fit to be given again
    pub calls_fit : {s u : S} {es : List Event} {n : Tally} → Fit s → Calls s es n u → Fit u
    calls_fit f none = f
    calls_fit f (more {s = s} {t = t} {e = e} {n = n} c r) = calls_fit (promise s e t n f c).fit r

    -- the counts added up are those of the history
    pub calls_counts : {s u : S} {es : List Event} {n : Tally} → Fit s → Calls s es n u → n ≡ ever_counted (world_of s) es
    unfolding total
    calls_counts f none = refl
    calls_counts f (more {s = s} {t = t} {e = e} {es = es} {n = n} c r) =
        let p = promise s e t n f c in
        ap₂ plus (p.counts ∙ sym (taken_is (accepted (world_of s) e) (accepted_counts (world_of s) e)))
        (calls_counts p.fit r ∙ ap (λ (w : World). ever_counted w es) p.world)

    -- and the settled ones meet the bound: demand 3 for a run of calls, at every state that it comes to
    pub record CallsDieOut {s u : S} {es : List Event} {n : Tally} (r : Calls s es n u) : Type 0 where
      pub settled : {t : S} {ds : List Event} {m : Tally} → Comes r ds m t → m.settled ≤ bound (world_of s)
      -- from any of these states to any later one
      pub no_counter_falls : {t v : S} {m k : Tally} (ds fs : List Event) → Comes r ds m t → Comes r (ds ++ fs) k v
          → (i j : ℕ) → counter (holding_at (world_of t) i) j ≤ counter (holding_at (world_of v) i) j
      pub none_passes : {t : S} {ds : List Event} {m : Tally} → Comes r ds m t
          → (i j : ℕ) → i < (world_of s).net.stations → counter (holding_at (world_of t) i) j ≤ highest (world_of s) j

    pub calls_die_out : {s u : S} {es : List Event} {n : Tally} → Fit s → T (well_formed (world_of s)) → T (only_notices (world_of s) es)
        → (r : Calls s es n u) → CallsDieOut r
    calls_die_out {s} {u} {es} {n} f t o r =
        let d = flood_of_notices_dies_out (world_of s) es t o in
        record {
          settled =
              λ {ds = ds} p. omega (
                arith,
                d.settled ds (comes_begins p),
                ap (λ (x : Tally). x.settled)
                    (calls_counts f (comes_by_calls p)),
              );
          no_counter_falls =
              λ {v = v} ds fs p q i j. subst⁻¹ (λ (w : World). counter (holding_at w i) j ≤ counter (holding_at (world_of v) i) j)
              (calls_world f (comes_by_calls p))
              (subst⁻¹ (λ (w : World). counter (holding_at (run (world_of s) ds) i) j ≤ counter (holding_at w i) j)
              (calls_world f (comes_by_calls q))
              (d.no_counter_falls ds fs (comes_begins q) i j));
          none_passes =
              λ {ds = ds} p i j h. subst⁻¹ (λ (w : World). counter (holding_at w i) j ≤ highest (world_of s) j)
              (calls_world f (comes_by_calls p)) (d.none_passes ds (comes_begins p) i j h);
        }

    -- conservation for a run of calls from a freshly read sheet
    pub calls_conserve : {s u : S} {es : List Event} {n : Tally} (net : Network) → Fit s → world_of s ≡ fresh net → Calls s es n u
        → ever_sent (fresh net) es ≡ ever_delivered (fresh net) es + ever_lost (fresh net) es + length (world_of u).letters
    calls_conserve {es = es} net f e r =
        letters_conserved net es ∙ ap (λ (w : World). ever_delivered (fresh net) es + ever_lost (fresh net) es + length w.letters)
        (sym (calls_world f r ∙ ap (λ (w : World). run w es) e))

-- one call from the state s for the event e, lent the tally x, handed back the state t and left y in the tally
module _ {S : Type 0} (world_of : S → World) (Lent : S → Tally → Event → S → Tally → Type 0) where
  -- a run of such calls, all of them lent the same tally
  pub data LentCalls : S → Tally → List Event → S → Tally → Type 0 where
    none : {s : S} {x : Tally} → LentCalls s x [] s x
    more : {s t u : S} {x y z : Tally} {e : Event} {es : List Event} → Lent s x e t y → LentCalls t y es u z → LentCalls s x (e ∷ es) u z

  pub record IsLentStep (Fit : S → Type 0) (s : S) (x : Tally) (e : Event) (t : S) (y : Tally) : Type 0 where
    pub fit : Fit t
    pub world : world_of t ≡ next (world_of s) e
    pub tally : y ≡ tally_by (accepted (world_of s) e) x (accepted_counts (world_of s) e)

  module _ (Fit : S → Type 0) (promise : (s : S) (x : Tally) (e : Event) (t : S) (y : Tally) → Fit s → Lent s x e t y
      → IsLentStep Fit s x e t y) where
    lent_after : {s u : S} {x y : Tally} {es : List Event} → Fit s → LentCalls s x es u y → y ≡ tally_after x (world_of s) es
    unfolding tally_after
    lent_after f none = refl
    lent_after f (more {s = s} {t = t} {x = x} {y = y} {e = e} {es = es} c r) =
        let p = promise s x e t y f c in
        lent_after p.fit r ∙ ap₂ (λ (z : Tally) (w : World). tally_after z w es) p.tally p.world

    -- the tally after the run: the one lent, with the history's counts added, each staying at its largest value
    pub lent_history : {s u : S} {x y : Tally} {es : List Event} → Fit s → Fits x → LentCalls s x es u y
        → y ≡ tallied x (ever_counted (world_of s) es)
    lent_history {s} {x = x} {es = es} f g r = lent_after f r ∙ tally_is_history x (world_of s) es g

    pub lent_world : {s u : S} {x y : Tally} {es : List Event} → Fit s → LentCalls s x es u y → world_of u ≡ run (world_of s) es
    unfolding run
    lent_world f none = refl
    lent_world f (more {s = s} {t = t} {x = x} {y = y} {e = e} {es = es} c r) =
        let p = promise s x e t y f c in
        lent_world p.fit r ∙ ap (λ (w : World). run w es) p.world
