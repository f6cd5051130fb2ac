-- The step is document 01's, for every state value; the fresh state is that of a sheet just read; and a report made after a step shows
-- what the table says that this step leaves. For every answer that the promises allow.
use Rattle.std.specs.Prelude.{if◌then◌else◌}
use Prim.Native.Nat.{ℕ, ◌<◌}
use mathlib.Core.Bool.{Bool, true, false}
use mathlib.Core.Path.{◌≡◌, refl, sym, ap, ◌∙◌, subst, subst⁻¹}
use mathlib.Core.Logic.{◌↔◌}
use mathlib.Core.List.{List}
use native.Mathlib.Omega.{arith}
use lib.Dec.{T, eqb}
use lib.ListN.{get_or}
use Rattle.lists.specs.Words.{bit_at}
use Rattle.lists.proofs.Tests.{T_not_is, is_T}
use Rattle.net.specs.declared.Net.{Net}
use Rattle.net.specs.Values.{network_of}
use Rattle.reach.specs.Reach.{works_in, Reaches}
use Rattle.world.specs.World.{World, Event, holding_at, fresh}
use Rattle.world.specs.World.{next}
use Rattle.state.specs.declared.State.{State}
use Rattle.state.specs.State.{world_of, state_of, state_holds, Ends64, Sized}
use Rattle.state.specs.declared.Begun.{Begun}
use Rattle.state.specs.Beginning.{begun_of}
use Rattle.state.proofs.First.{first_sized, first_holds, first_means}
use Rattle.step_rules.specs.declared.Stepped.{Stepped}
use Rattle.step_rules.specs.Step.{event, refusing, accepting, number_of, stepped_of}
use Rattle.step_rules.proofs.Bridge.{Good, IsStep, bad_refused, is_step}
use Rattle.report.proofs.Refusals.{Asks, stations_are, table_is}
use Rattle.report.specs.Answers.{Asked, asked_of}
use Rattle.report.proofs.WordShown.{own_table, PathTo, WordShown, word_shown}
use Rattle.report.specs.ReportsAnswers.{answer_of, output_of}
use Rattle.report.proofs.ReportsRefusals.{accepted_when}
use Rattle.report.proofs.Shown.{Shown, shown}
use Rattle.report.proofs.SameBits.{same_bits}
use Rattle.demands.specs.Given.{GoodNet}
use Rattle.demands.specs.StateReasons.{GoodState, BadState}
use Rattle.demands.proofs.States.{begun_good}

-- ---- the step
-- a state that isn't well formed is answered by 11, is handed back as it is, and nothing is counted; a well-formed one is stepped as
-- document 01 steps the world that it means
pub record Ruled (s : State) (e : Event) (r : Stepped) : Type 0 where
  pub not_formed : BadState s → r ≡ refusing 11 s
  pub by_rules : GoodState s → IsStep s e r

pub ruled : (s : State) → Sized s → (kind a b : ℕ) (r : Stepped) → r ≡ stepped_of s kind a b → Ruled s (event kind a b) r
ruled s z kind a b r p =
    record {
      not_formed = λ q. p ∙ bad_refused s kind a b (T_not_is (state_holds s) q);
      by_rules = λ g. subst⁻¹ (IsStep s (event kind a b)) p (is_step s kind a b (record { sized = z; holds = g }));
    }

-- ---- the fresh state
pub record FreshState (net : Net) (s : State) : Type 0 where
  -- every station is down and no letter is in flight
  pub means : world_of s ≡ fresh (network_of net)
  pub good : Good s

pub fresh_state : (net : Net) → GoodNet net → Ends64 net → (r : Begun) → r ≡ begun_of net → FreshState net r.state
fresh_state net g d r p =
    subst⁻¹ (FreshState net) (ap (λ (b : Begun). b.state) (p ∙ begun_good net g))
    (record { means = first_means net g; good = record { sized = first_sized net g d; holds = first_holds net g } })

-- ---- the report after a step
module _ (s : State) (z : Sized s) (g : GoodState s) (kind a b : ℕ) (r : Stepped) (p : r ≡ stepped_of s kind a b) where
  abbrev after : World
  after = next (world_of s) (event kind a b)

  same_net : r.state.net ≡ s.net
  unfolding stepped_of state_of
  same_net = ap (λ (x : Stepped). x.state.net) p ∙ go (eqb (number_of s (event kind a b)) 0)
    where
      go : (c : Bool) → (if c then accepting s (event kind a b) else refusing (number_of s (event kind a b)) s).state.net ≡ s.net
      go true = refl
      go false = refl

  means : world_of r.state ≡ after
  means = ((ruled s z kind a b r p).by_rules g).world

  -- a path of links with even counters in the table of station i that the step leaves
  abbrev pub PathAfter : ℕ → ℕ → Type 0
  PathAfter i t = Reaches (network_of s.net) (works_in (holding_at after i).table) i t

  own_table_lem : (i : ℕ) → Asks r.state i → own_table r.state i ≡ (holding_at after i).table
  own_table_lem i k =
      sym (table_is r.state i (omega (arith, stations_are r.state k.good, k.station)))
      ∙ ap (λ (w : World). (holding_at w i).table) means

  -- THE REPORT IS READ FROM THE TABLE THAT THE STEP LEAVES
  report_after : (i : ℕ) (old out : List ℕ) → answer_of r.state i old ≡ 0 → out ≡ output_of r.state i old → (t : ℕ)
      → t < s.net.stations → (get_or out t 0 ≡ 1) ↔ PathAfter i t
  report_after i old out q o t h =
      let k = ((accepted_when r.state i old).0 q).0 in
      let w : (get_or out t 0 ≡ 1) ↔ PathTo r.state i t =
      subst⁻¹ (λ (l : List ℕ). (get_or l t 0 ≡ 1) ↔ PathTo r.state i t) o
      ((shown r.state i old q).working t (subst⁻¹ (λ (n : Net). t < n.stations) same_net h)) in
      subst (λ (l : List ℕ). (get_or out t 0 ≡ 1) ↔ Reaches (network_of s.net) (works_in l) i t) (own_table_lem i k)
      (subst (λ (n : Net). (get_or out t 0 ≡ 1) ↔ Reaches (network_of n) (works_in (own_table r.state i)) i t) same_net w)

-- of every state: one that isn't well formed is handed back, and no report is made of it
module _ (s : State) (kind a b : ℕ) (r : Stepped) (p : r ≡ stepped_of s kind a b) where
  after_good : T (state_holds r.state) → GoodState s
  after_good t = go (state_holds s) refl
    where
      go : (c : Bool) → state_holds s ≡ c → GoodState s
      go true q = is_T (state_holds s) q
      go false q = subst (λ (x : State). T (state_holds x)) (ap (λ (x : Stepped). x.state) (p ∙ bad_refused s kind a b q)) t

  pub report_after_any : Sized s → (i : ℕ) (old out : List ℕ) → answer_of r.state i old ≡ 0 → out ≡ output_of r.state i old → (t : ℕ)
      → t < s.net.stations
      → (get_or out t 0 ≡ 1) ↔ Reaches (network_of s.net) (works_in (holding_at (next (world_of s) (event kind a b)) i).table) i t
  report_after_any z i old out q = report_after s z (after_good ((accepted_when r.state i old).0 q).0.good) kind a b r p i old out q

-- ---- what is shown, by the promises of the two calls
module _ (s : State) (a : ℕ) where
  pub report_shows : (old : List ℕ) (n : ℕ) (out : List ℕ) → n ≡ answer_of s a old → out ≡ output_of s a old → n ≡ 0 → Shown s a old out
  report_shows old n out p o z = subst⁻¹ (Shown s a old) o (shown s a old (sym p ∙ z))

  pub reach_shows : (r : Asked) → r ≡ asked_of s a → r.answer ≡ 0 → WordShown s a r.reached
  reach_shows r p z =
      subst⁻¹ (WordShown s a) (ap (λ (x : Asked). x.reached) p) (word_shown s a (sym (ap (λ (x : Asked). x.answer) p) ∙ z))

  pub bits_same : (old : List ℕ) (n : ℕ) (out : List ℕ) → n ≡ answer_of s a old → out ≡ output_of s a old → (r : Asked) → r ≡ asked_of s a
      → n ≡ 0
      → (t : ℕ) → t < s.net.stations → get_or out t 0 ≡ bit_at r.reached.word t
  bits_same old n out p o r q z t h =
      ap (λ (l : List ℕ). get_or l t 0) o ∙ same_bits s a old (sym p ∙ z) t h ∙ ap (λ (x : Asked). bit_at x.reached.word t) (sym q)
