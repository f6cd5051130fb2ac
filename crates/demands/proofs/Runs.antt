-- What one call counts (specs/Counted.antt); and runs of calls: a run of the step that is lent a tally is a run of the step, after any
-- first events of a run there is the state that it comes to, and runs from a freshly read sheet.
use Rattle.std.specs.Prelude.{if◌then◌else◌, Result, Ok}
use Prim.Native.Nat.{ℕ, ◌+◌, ◌*◌, ◌-◌, ◌≤◌, ◌<◌, max}
use mathlib.Core.Bool.{Bool, true, false, not, ◌&&◌, ◌||◌}
use mathlib.Core.Path.{◌≡◌, refl, sym, ap, ◌∙◌, subst, subst⁻¹, transport}
use mathlib.Core.List.{List, [], ◌∷◌, ◌++◌}
use native.Mathlib.Omega.{arith}
use lib.Dec.{T}
use lib.ListN.{length}
use Rattle.lists.specs.Lists.{sum_of, below}
use Rattle.lists.specs.Places.{largest_of}
use Rattle.lists.specs.Words.{bit}
use Rattle.lists.proofs.Tests.{T_is, T_not_is, eq→eqb, if_elim}
use Rattle.tally.specs.declared.Tally.{Tally}
use Rattle.fields.specs.Fields.{are_bytes}
use Rattle.net.specs.declared.Letter.{Letter}
use Rattle.net.specs.declared.Net.{Net}
use Rattle.net.specs.Network.{Network, link_numbers}
use Rattle.net.specs.Values.{network_of}
use Rattle.sheet.specs.declared.SheetError.{SheetError}
use Rattle.sheet.specs.Sheet.{read_sheet}
use Rattle.sheet.specs.Values as SheetValues
use Rattle.sheet.proofs.Laws.{read_holds}
use Rattle.sheet.proofs.ValueLaws.{low_long, high_long}
use Rattle.station.specs.declared.Kind.{Kind}
use Rattle.station.specs.declared.Kind.TheVariants.{NoSuch, Start, Stop, Recovery, IntervalEnd, TimeoutEnd, QuietEnd, Delivery, Loss}
use Rattle.station.specs.Holding.{counter, higher, is_live}
use Rattle.station.specs.Events.{kind_of, delivers, loses, takes_letter, is_notice}
use Rattle.station.proofs.Tallies.{rule_settles, rule_drops}
use Rattle.world.specs.World.{World, Event, holding_at, receiver_in, concerned_by, concerned, rule, comes, refusal, accepted, next}
use Rattle.world.specs.World.{fresh, notices_of, raised}
use Rattle.world.specs.History.{run, ever_sent, ever_delivered, ever_lost}
use Rattle.world.proofs.Steps.{is_accepted, step_accepts, taken}
use Rattle.state.specs.declared.State.{State}
use Rattle.state.specs.State.{world_of, Ends64}
use Rattle.state.proofs.Meaning.{world_well}
use Rattle.state.specs.declared.Begun.{Begun}
use Rattle.step_rules.specs.declared.Stepped.{Stepped}
use Rattle.step_rules.specs.Step.{stepped_of}
use Rattle.step_rules.proofs.Bridge.{Good, IsStep, counts_by, is_step}
use Rattle.laws.specs.Flood.{only_notices, carried, highest, neighbours, distance, share, bound}
use Rattle.laws.specs.Tallied.{accepted_counts, tally_by}
use Rattle.tally.proofs.Sums.{Fits}
use Rattle.laws.proofs.Demand3.{flood_of_notices_dies_out, at_the_end, settled_is_length}
use Rattle.laws.proofs.Calls as C
use Rattle.laws.proofs.Joined as Joined
use Rattle.laws.proofs.Joined.{Call, Calls, Comes}
use Rattle.step_counted.proofs.Runs.{Lent, LentCalls, one_lent, tally_is_history, lent_mean}
use Rattle.demands.specs.Given.{GoodNet}
use Rattle.demands.specs.Calls.{ReadsSheet, Begins}
use Rattle.demands.specs.Counted.{Counted, letter_of, heard_at, is_heard}
use Rattle.demands.proofs.Sheets.{good_sheet}
use Rattle.demands.proofs.Written.{sheet_taken}
use Rattle.demands.proofs.States.{begun_good}

-- ---- one accepted call
-- the receiver matters for event 7 alone
by_receiver : (heard : ℕ → Bool) (net : Network) (a : ℕ) (x : Letter) (k : Kind)
    → (loses k || (delivers k && not (heard (concerned_by k net a x)))) ≡ (loses k || (delivers k && not (heard (receiver_in net x))))
by_receiver heard net a x NoSuch = refl
by_receiver heard net a x Start = refl
by_receiver heard net a x Stop = refl
by_receiver heard net a x Recovery = refl
by_receiver heard net a x IntervalEnd = refl
by_receiver heard net a x TimeoutEnd = refl
by_receiver heard net a x QuietEnd = refl
by_receiver heard net a x Delivery = refl
by_receiver heard net a x Loss = refl

module _ (s : State) (e : Event) (r : Stepped) (i : IsStep s e r) (z : r.answer ≡ 0) where
  abbrev w : World
  w = world_of s

  zero : refusal w e ≡ 0
  zero = sym i.number ∙ z

  counts_are : r.counts ≡ counts_by true w e
  counts_are = i.counts ∙ ap (λ (b : Bool). counts_by b w e) (is_accepted w e zero)

  rule_counts : (comes w e).counts ≡ (rule w e).counts
  rule_counts = (taken w e zero).counts

  dropped_by : (rule w e).counts.dropped ≡ bit (loses
      (kind_of e.kind) || (delivers (kind_of e.kind) && not (heard_at w (letter_of s e) (concerned w e))))
  unfolding rule
  dropped_by = rule_drops (concerned w e) e.b (letter_of s e) (holding_at w (concerned w e)) (kind_of e.kind)

  settled_by : (rule w e).counts.settled ≡ (if takes_letter (kind_of e.kind) then bit (is_notice (letter_of s e).body) else 0)
  unfolding rule
  settled_by = rule_settles (concerned w e) e.b (letter_of s e) (holding_at w (concerned w e)) (kind_of e.kind)

  raised_by : raised w e
      ≡ sum_of (λ k. higher w.net (holding_at w k) (holding_at (world_of r.state) k)) (below w.net.stations)
  unfolding raised
  raised_by =
      ap (λ (v : World). sum_of (λ k. higher w.net (holding_at w k) (holding_at v k)) (below w.net.stations))
      (sym (i.world ∙ step_accepts w e zero))

  receiver_is : bit (loses (kind_of e.kind) || (delivers (kind_of e.kind) && not (heard_at w (letter_of s e) (concerned w e))))
      ≡ bit (loses (kind_of e.kind) || (delivers (kind_of e.kind) && not (is_heard s e)))
  unfolding concerned
  receiver_is = ap bit (by_receiver (heard_at w (letter_of s e)) w.net e.a (letter_of s e) (kind_of e.kind))

  pub counted : Counted s e r
  counted =
      record {
        settled = ap (λ (c : Tally). c.settled) counts_are ∙ ap (λ (c : Tally). c.settled) rule_counts ∙ settled_by;
        raised = ap (λ (c : Tally). c.raised) counts_are ∙ raised_by;
        dropped = ap (λ (c : Tally). c.dropped) counts_are ∙ ap (λ (c : Tally). c.dropped) rule_counts ∙ dropped_by ∙ receiver_is;
      }

-- ---- runs of calls
-- a run of the step that is lent a tally is a run of the step: the same events, from the same state to the same state
pub record IsRun (s : State) (es : List Event) (u : State) : Type 0 where
  pub counts : Tally
  pub calls : Calls s es counts u

pub lent_is_run : {s u : State} {x y : Tally} {es : List Event} → LentCalls s x es u y → IsRun s es u
lent_is_run C.none = record { counts = _; calls = C.none }
lent_is_run (C.more c r) =
    let q = lent_is_run r in
    let here : Call _ _ _ c.answer.counts = record { answer = c.answer; promised = c.promised; state = c.state; counts = refl } in
    record { counts = _; calls = C.more here q.calls }

-- after the first events ds of a run: the state that it has come to, and what is counted so far
pub record Moment {s u : State} {es : List Event} {n : Tally} (r : Calls s es n u) (ds : List Event) : Type 0 where
  pub state : State
  pub counts : Tally
  pub comes : Comes r ds counts state

pub every_moment : {s u : State} {n : Tally} (ds fs : List Event) (r : Calls s (ds ++ fs) n u) → Moment r ds
every_moment {s} [] fs r = record { state = s; counts = _; comes = C.here }
every_moment (e ∷ ds) fs (C.more {t = t} c r) =
    let m = every_moment {s = t} ds fs r in
    record { state = m.state; counts = _; comes = C.on m.comes }

-- ---- from a freshly read sheet: bytes are read, the fresh state of the network is made, and a run begins there
pub said : (bytes : List ℕ) (c : ReadsSheet bytes) (net : Net) → c.answer ≡ Ok net → SheetValues.Says (Ok net) (read_sheet bytes)
said bytes c net p = subst (λ (r : Result Net SheetError). SheetValues.Says r (read_sheet bytes)) p c.promise

module _ (bytes : List ℕ) (a : T (are_bytes bytes)) (c : ReadsSheet bytes) (net : Net) (p : c.answer ≡ Ok net) (b : Begins net) where
  says : SheetValues.Says (Ok net) (read_sheet bytes)
  says = said bytes c net p

  good : GoodNet net
  good = (sheet_taken bytes a net says).0

  sized : Ends64 net
  sized =
      let m = good_sheet bytes a (Ok net) says refl in
      let t = read_holds bytes m.0 m.1 in
      subst⁻¹ Ends64 (says.net ∙ ap SheetValues.sheet_net m.1) (record { low = low_long m.0 t; high = high_long m.0 t })

  begun : b.answer.state ≡ Joined.first net good sized
  begun = ap (λ (x : Begun). x.state) (b.promise ∙ begun_good net good)

  pub well_from_sheet : {u : State} {es : List Event} {n : Tally} → Calls b.answer.state es n u → Good u
  well_from_sheet {u} {es} {n} r = Joined.well_from_sheet net good sized (subst (λ (x : State). Calls x es n u) begun r)

  pub letters_conserved : {u : State} {es : List Event} {n : Tally} → Calls b.answer.state es n u
      → ever_sent (fresh (network_of net)) es ≡ ever_delivered (fresh (network_of net)) es + ever_lost (fresh (network_of net)) es + length
      (world_of u).letters
  letters_conserved {u} {es} {n} r = Joined.letters_conserved net good sized (subst (λ (x : State). Calls x es n u) begun r)

-- ---- the bound, sentence by sentence
module _ (w : World) where
  pub bound_is : bound w ≡ notices_of w.letters + sum_of (share w) (below w.net.stations)
  unfolding bound
  bound_is = refl

  pub share_live : (s : ℕ) → T (is_live (holding_at w s).condition)
      → share w s ≡ (length (neighbours w.net s) - 1) * sum_of (λ k. highest w k - counter (holding_at w s) k) (link_numbers w.net)
  unfolding share distance
  share_live s t =
      ap (λ (b : Bool). if b then (length (neighbours w.net s) - 1) * distance w (holding_at w s) else 0)
      (T_is (is_live (holding_at w s).condition) t)

  pub share_other : (s : ℕ) → T (not (is_live (holding_at w s).condition)) → share w s ≡ 0
  unfolding share
  share_other s t =
      ap (λ (b : Bool). if b then (length (neighbours w.net s) - 1) * distance w (holding_at w s) else 0)
      (T_not_is (is_live (holding_at w s).condition) t)

  pub highest_is : (k : ℕ) → highest w k
      ≡ max (largest_of (λ s. counter (holding_at w s) k) (below w.net.stations)) (largest_of (λ x. carried k x.body) w.letters)
  unfolding highest
  highest_is k = refl

-- ---- the events that the rules accept, each in the world that those before it leave. A refused call may be left out of a run
unfoldable pub accepted_of : World → List Event → List Event
accepted_of w [] = []
accepted_of w (e ∷ es) = if accepted w e then e ∷ accepted_of (next w e) es else accepted_of (next w e) es

pub lent_accepted : {s u : State} {x y : Tally} {es : List Event} → Good s → LentCalls s x es u y
    → LentCalls s x (accepted_of (world_of s) es) u y
unfolding accepted_of
lent_accepted g C.none = C.none
lent_accepted {u = u} {y = z} g (C.more {s = s} {t = t} {x = x} {y = y} {e = e} {es = es} c r) =
    let p = one_lent s x e t y g c in
    let rest : LentCalls t y (accepted_of (next (world_of s) e) es) u z
    = subst (λ (v : World). LentCalls t y (accepted_of v es) u z) p.world (lent_accepted p.fit r) in
    if_elim (λ (l : List Event). LentCalls s x l u z) (accepted (world_of s) e) (λ a. C.more c rest) (left_out p rest)
  where
    left_out : {fs : List Event} → C.IsLentStep world_of Lent Good s x e t y → LentCalls t y fs u z → T (not (accepted (world_of s) e))
        → LentCalls s x fs u z
    left_out {fs} p rest n =
        let i = is_step s e.kind e.a e.b g in
        let never : accepted (world_of s) e ≡ false = T_not_is (accepted (world_of s) e) n in
        let refused : (stepped_of s e.kind e.a e.b).answer ≡ 0 → ⊥
        = λ q. subst T never (eq→eqb (refusal (world_of s) e) 0 (sym i.number ∙ q)) in
        let state : t ≡ s = c.state ∙ ap (λ (r : Stepped). r.state) c.promised ∙ i.refused_same refused in
        let tally : y ≡ x = p.tally ∙ ap (λ (b : Bool). tally_by b x (accepted_counts (world_of s) e)) never in
        transport (λ k. LentCalls (state k) (tally k) fs u z) rest

-- ---- the flood, where a tally is lent: what is added to its settled count stays within the bound
pub lent_settled : {s u : State} {x y : Tally} {es : List Event} → Good s → Fits x → T (only_notices (world_of s) es) → LentCalls s x es u y
    → y.settled ≤ x.settled + bound (world_of s)
lent_settled {s} {es = es} g f o r =
    let d = flood_of_notices_dies_out (world_of s) es (world_well s g.sized g.holds) o in
    omega (arith, d.settled es (at_the_end es), ap (λ (t : Tally). t.settled) (tally_is_history g f r))

-- what is claimed of a run from the state s to the state u, lent the tally x and leaving y in it, with n events accepted
pub record LentDiesOut (s u : State) (x y : Tally) (n : ℕ) : Type 0 where
  -- what is added to the tally's settled count stays within the bound
  pub settled : y.settled ≤ x.settled + bound (world_of s)
  -- and so does how many events are accepted
  pub taken : n ≤ bound (world_of s)
  -- no counter falls, and none passes the highest one for its link
  pub no_counter_falls : (i j : ℕ) → counter (holding_at (world_of s) i) j ≤ counter (holding_at (world_of u) i) j
  pub none_passes : (i j : ℕ) → i < (world_of s).net.stations → counter (holding_at (world_of u) i) j ≤ highest (world_of s) j

pub lent_dies_out : {s u : State} {x y : Tally} (es : List Event) → Good s → Fits x → T (only_notices (world_of s) es) → LentCalls s x es u y
    → LentDiesOut s u x y (length es)
unfolding run
lent_dies_out {s} es g f o r =
    let d = flood_of_notices_dies_out (world_of s) es (world_well s g.sized g.holds) o in
    let w = lent_mean g r in
    let all = at_the_end es in
    record {
      settled = lent_settled g f o r;
      taken = omega (arith, d.settled es all, settled_is_length (world_of s) es o);
      no_counter_falls =
          λ i j. subst⁻¹ (λ (v : World). counter (holding_at (world_of s) i) j ≤ counter (holding_at v i) j) w
          (d.no_counter_falls [] es all i j);
      none_passes = λ i j h. subst⁻¹ (λ (v : World). counter (holding_at v i) j ≤ highest (world_of s) j) w (d.none_passes es all i j h);
    }
