-- From states to worlds: in a run from a freshly read sheet each state is a world laid out, each line does and prints what document 01 says
-- of that world, and the stations' lines are those of its tables.
use Rattle.std.specs.Prelude.{if◌then◌else◌}
use Prim.Native.Nat.{ℕ, zero, suc, ◌+◌, ◌≤◌, ◌<◌}
use mathlib.Core.Bool.{Bool, true}
use mathlib.Core.Path.{◌≡◌, refl, sym, ap, ap₂, ◌∙◌, subst⁻¹}
use mathlib.Core.List.{List, [], ◌∷◌, ◌++◌}
use native.Mathlib.Decide.{ℕ_discrete}
use native.Mathlib.Omega.{arith}
use lib.Dec.{T, eqb}
use lib.ListN.{length, get_or}
use borrow.Author.Tests.{ne_eqb}
use Rattle.lists.specs.Lists.{below, from}
use Rattle.lists.specs.Places.{collect}
use Rattle.lists.proofs.Tests.{T_is}
use Rattle.tally.specs.declared.Tally.{Tally}
use Rattle.tally.specs.Sums.{tallied}
use Rattle.tally.proofs.Sums.{Fits, tallied_fits}
use Rattle.event_lines.specs.Steps.{start, read_on, line_end}
use Rattle.net.specs.declared.Net.{Net}
use Rattle.net.specs.Values.{network_of}
use Rattle.sheet_rules.specs.Values.{net_holds}
use Rattle.net.specs.Network.{Network}
use Rattle.reach.specs.Values.{table_of}
use Rattle.station.specs.declared.Station.{Station}
use Rattle.station.specs.Holding.{Holding}
use Rattle.station.specs.Values.{holding_of}
use Rattle.world.specs.World.{World, Event, accepted, next, comes, refusal, after, holding_at}
use Rattle.world.proofs.Keeps.{Formed, step_formed}
use Rattle.world.proofs.Steps.{passes, accepted_passes, is_accepted, is_refused, step_accepts, step_refuses, after_net}
use Rattle.world.proofs.OneRaised.{counts_are}
use Rattle.state.specs.declared.State.{State}
use Rattle.state.specs.State.{station_in, world_of, state_of, state_holds, Ends64}
use Rattle.state.proofs.LaidOut.{laid_sized, laid_holds, laid_means}
use Rattle.state.proofs.Meaning.{count_is, world_holding}
use Rattle.step_rules.specs.declared.Stepped.{Stepped}
use Rattle.step_rules.specs.Step as Step
use Rattle.step_rules.specs.Counting.{tallied_by}
use Rattle.backlog_rules.proofs.Tracing.{refusal_counts_nothing}
use Rattle.laws.specs.Tallied.{accepted_counts, tally_by}
use Rattle.console.specs.Feeding as Feeding
use Rattle.event_program.specs.Stations.{station_text, station_line, stations_text}
use Rattle.event_program.specs.Events.{Standing, event_by, answer_text, done, printed_for, printed, done_all, end_text}
use Rattle.event_program.proofs.Desk.{Desk, desk_of, acted, spoken}

-- a world that a good network carries
pub record Carried (v : Net) (w : World) : Type 0 where
  pub good : T (net_holds v)
  pub ends : Ends64 v
  pub net : network_of v ≡ w.net
  pub formed : Formed w

-- ---- one step
module _ (v : Net) (w : World) (c : Carried v w) (kind a b : ℕ) where
  abbrev s : State
  s = state_of v w

  abbrev e : Event
  e = record { kind = kind; a = a; b = b }

  holds : state_holds s ≡ true
  holds = T_is (state_holds s) (laid_holds v w c.good c.net c.formed)

  means : world_of s ≡ w
  means = laid_means v w c.good c.net c.formed

  s_net : s.net ≡ v
  unfolding state_of
  s_net = refl

  number : Step.number_of s e ≡ refusal w e
  unfolding Step.number_of
  number = ap (λ (t : Bool). if t then refusal (world_of s) e else 11) holds ∙ ap (λ (x : World). refusal x e) means

  pub stepped_taken : refusal w e ≡ 0
      → Step.stepped_of s kind a b ≡ record { answer = 0; counts = accepted_counts w e; state = state_of v (after w e) }
  unfolding Step.stepped_of
  stepped_taken z =
      ap (λ (n : ℕ). if eqb n 0 then Step.accepting s e else Step.refusing n s) (number ∙ z)
      ∙ ap₂ (λ (x : World) (n : Net). record { answer = 0; counts = (comes x e).counts; state = state_of n (after x e) }) means s_net
      ∙ ap (λ (t : Tally). record { answer = 0; counts = t; state = state_of v (after w e) })
      (counts_are w c.formed e (passes w e (accepted_passes w e z)).exists)

  pub stepped_refused : (n : ℕ) → refusal w e ≡ n → (n ≡ 0 → ⊥) → Step.stepped_of s kind a b ≡ Step.refusing n s
  unfolding Step.stepped_of
  stepped_refused n p h = ap (λ (k : ℕ). if eqb k 0 then Step.accepting s e else Step.refusing k s) (number ∙ p) ∙ simp (ne_eqb n 0 h)

-- ---- one line
abbrev standing : World → Tally → Standing
standing w t = record { world = w; tally = t }

-- what holds after a line as before it, what the code does and prints, and what document 01 says
pub record Line (v : Net) (w : World) (t : Tally) (said : List ℕ) : Type 0 where
  pub carried : Carried v (done (standing w t) (event_by said)).world
  pub fits : Fits (done (standing w t) (event_by said)).tally
  pub acts : acted (desk_of (state_of v w) t) said ≡ desk_of (state_of v (done (standing w t) (event_by said)).world)
      (done (standing w t) (event_by said)).tally
  pub says : spoken (desk_of (state_of v w) t) said ≡ printed_for (standing w t) (event_by said)

module _ (v : Net) (w : World) (c : Carried v w) (t : Tally) (f : Fits t) (said : List ℕ) where
  abbrev ev : Event
  ev = event_by said

  flying_is : (x : World) → (state_of v x).flying ≡ length x.letters
  unfolding state_of
  flying_is x = refl

  line_taken : refusal w ev ≡ 0 → Line v w t said
  unfolding acted spoken done printed_for
  line_taken z =
      let d = stepped_taken v w c (get_or said 1 0) (get_or said 2 0) (get_or said 3 0) z in
      let world : next w ev ≡ after w ev = step_accepts w ev z in
      let tally : tally_by (accepted w ev) t (accepted_counts w ev) ≡ tallied t (accepted_counts w ev) = ap
      (λ (x : Bool). tally_by x t (accepted_counts w ev)) (is_accepted w ev z) in
      record {
        carried =
            subst⁻¹ (Carried v) world (record {
              good = c.good;
              ends = c.ends;
              net = c.net
                  ∙ sym (after_net w ev);
              formed = step_formed w ev c.formed z;
            });
        fits = subst⁻¹ Fits tally (tallied_fits t (accepted_counts w ev));
        acts =
            ap (λ (x : Stepped). desk_of x.state (tallied_by x t)) d
            ∙ sym (ap₂ (λ (x : World) (u : Tally). desk_of (state_of v x) u) world tally);
        says =
            ap (λ (x : Stepped). answer_text x.answer x.state.flying (tallied_by x t).settled) d
            ∙ ap (λ (n : ℕ). answer_text 0 n (tallied t (accepted_counts w ev)).settled) (flying_is (after w ev))
            ∙ sym (ap₂ (λ (x : World) (u : Tally). answer_text (refusal w ev) (length x.letters) u.settled) world tally
            ∙ ap (λ (n : ℕ). answer_text n (length (after w ev).letters) (tallied t (accepted_counts w ev)).settled) z);
      }

  line_refused : (n : ℕ) → refusal w ev ≡ n → (n ≡ 0 → ⊥) → Line v w t said
  unfolding acted spoken done printed_for
  line_refused n p h =
      let z : refusal w ev ≡ 0 → ⊥ = λ q. h (sym p ∙ q) in
      let d = stepped_refused v w c (get_or said 1 0) (get_or said 2 0) (get_or said 3 0) n p h in
      let uncounted : tallied_by (Step.refusing n (state_of v w)) t ≡ t =
      sym (refusal_counts_nothing (Step.refusing n (state_of v w)) t h) in
      let world : next w ev ≡ w = step_refuses w ev z in
      let tally : tally_by (accepted w ev) t (accepted_counts w ev) ≡ t = ap (λ (x : Bool). tally_by x t (accepted_counts w ev))
      (is_refused w ev z) in
      record {
        carried = subst⁻¹ (Carried v) world c;
        fits = subst⁻¹ Fits tally f;
        acts =
            ap (λ (x : Stepped). desk_of x.state (tallied_by x t)) d ∙ ap (desk_of (state_of v w)) uncounted
            ∙ sym (ap₂ (λ (x : World) (u : Tally). desk_of (state_of v x) u) world tally);
        says =
            ap (λ (x : Stepped). answer_text x.answer x.state.flying (tallied_by x t).settled) d
            ∙ ap₂ (λ (k : ℕ) (u : Tally). answer_text n k u.settled) (flying_is w) uncounted
            ∙ sym (ap₂ (λ (x : World) (u : Tally). answer_text (refusal w ev) (length x.letters) u.settled) world tally
            ∙ ap (λ (k : ℕ). answer_text k (length w.letters) t.settled) p);
      }

  pub line : Line v w t said
  line = go (ℕ_discrete (refusal w ev) 0)
    where
      go : Dec (refusal w ev ≡ 0) → Line v w t said
      go (yes z) = line_taken z
      go (no h) = line_refused (refusal w ev) refl h

-- ---- lines one after the other
pub lines_print : (v : Net) (w : World) (t : Tally) → Carried v w → Fits t → (said : List (List ℕ))
    → Feeding.printed start read_on line_end acted spoken (desk_of (state_of v w) t) said ≡ printed (standing w t) said
unfolding Feeding.printed printed
lines_print v w t c f [] = refl
lines_print v w t c f (x ∷ said) =
    let l = line v w c t f x in
    ap₂ (λ (a b : List ℕ). a ++ b) l.says
    (ap (λ (d : Desk). Feeding.printed start read_on line_end acted spoken d said) l.acts
    ∙ lines_print v (done (standing w t) (event_by x)).world (done (standing w t) (event_by x)).tally l.carried l.fits said)

-- where they end
pub record Ends (v : Net) (st : Standing) (d : Desk) : Type 0 where
  pub carried : Carried v st.world
  pub state : d.state ≡ state_of v st.world

pub lines_end : (v : Net) (w : World) (t : Tally) → Carried v w → Fits t → (said : List (List ℕ))
    → Ends v (done_all (standing w t) said) (Feeding.held_all start read_on line_end acted spoken (desk_of (state_of v w) t) said)
unfolding Feeding.held_all done_all
lines_end v w t c f [] = record { carried = c; state = refl }
lines_end v w t c f (x ∷ said) =
    let l = line v w c t f x in
    let st = done (standing w t) (event_by x) in
    subst⁻¹ (λ (d : Desk). Ends v (done_all st said) (Feeding.held_all start read_on line_end acted spoken d said)) l.acts
    (lines_end v st.world st.tally l.carried l.fits said)

-- ---- the stations' lines
collect_same : (f g : ℕ → List ℕ) (n i : ℕ) → ((k : ℕ) → i ≤ k → k < i + n → f k ≡ g k) → collect f (from i n) ≡ collect g (from i n)
collect_same f g zero i h = refl
collect_same f g (suc n) i h =
    ap₂ (λ (a b : List ℕ). a ++ b) (h i (omega arith) (omega arith)) (collect_same f g n (suc i) (λ k l m. h k (omega arith) (omega arith)))

table_is : (net : Net) (st : Station) → table_of net st.counters ≡ (holding_of net st).table
unfolding holding_of
table_is net st = refl

stations_same : (v : Net) (w : World) → network_of v ≡ w.net → (network_of (state_of v w).net).stations ≡ w.net.stations
unfolding state_of
stations_same v w e = ap (λ (n : Network). n.stations) e

pub end_prints : (v : Net) (w : World) → Carried v w → stations_text (state_of v w) ≡ end_text w
unfolding stations_text end_text
end_prints v w c =
    let s = state_of v w in
    let z = laid_sized v w c.good c.net c.formed c.ends in
    let t = laid_holds v w c.good c.net c.formed in
    let m = laid_means v w c.good c.net c.formed in
    let count : (network_of s.net).stations ≡ s.net.stations = count_is s z t in
    collect_same (station_line s) (λ i. station_text i (holding_at w i).table) (network_of s.net).stations 0
    (λ k l h. ap (station_text k) (table_is s.net (station_in s k)
    ∙ ap (λ (x : Holding). x.table) (sym (world_holding s z t k (omega arith))) ∙ ap (λ (x : World). (holding_at x k).table) m))
    ∙ ap (λ (n : ℕ). collect (λ i. station_text i (holding_at w i).table) (below n)) (stations_same v w c.net)
