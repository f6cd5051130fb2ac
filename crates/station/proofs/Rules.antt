-- The eight events together, by their rules, at the station that they concern: each that is allowed keeps what the station holds well
-- formed, and the number of raised counters that it counts is that of the counters which it leaves higher than before. And what the
-- event comes to: each number for its reason and no other.
use Prim.Native.Nat.{ℕ, ◌+◌, ◌≤◌, ◌<◌, zero-le}
use mathlib.Core.Bool.{Bool, true, false, not}
use mathlib.Core.Path.{◌≡◌, refl, ap, ◌∙◌, subst⁻¹}
use mathlib.Core.Logic.{◌≢◌}
use mathlib.Core.List.{List}
use native.Mathlib.Nat.{le_refl, le_of_eq}
use native.Mathlib.Omega.{arith}
use borrow.Author.Tests.{lt-ltb, le-ltb}
use lib.Dec.{T, ltb}
use lib.ListN.{length}
use Rattle.lists.specs.Words.{bit}
use Rattle.lists.proofs.Tests.{T_is, T_not_is, if_elim}
use Rattle.lists.proofs.OneSum.{sum_none, sum_only}
use Rattle.net.specs.declared.Letter.{Letter}
use Rattle.net.specs.Network.{Network, is_end}
use Rattle.net.specs.Letters.{letter_holds}
use Rattle.counters.specs.Counters.{even}
use Rattle.reach.specs.Reach.{counter_in}
use Rattle.station.specs.declared.Condition.{Condition}
use Rattle.station.specs.declared.Effect.{Effect}
use Rattle.station.specs.declared.Effect.TheVariants.{Defers, Answers, Heals, Levels, Equal, Takes}
use Rattle.station.specs.declared.Heard.{Heard}
use Rattle.station.specs.declared.Heard.TheVariants.{Gone, Nothing, Overflows, Does}
use Rattle.station.specs.declared.Kind.{Kind}
use Rattle.station.specs.declared.Kind.TheVariants.{NoSuch, Start, Stop, Recovery, IntervalEnd, TimeoutEnd, QuietEnd, Delivery, Loss}
use Rattle.station.specs.Holding.{Holding, counter, mark, higher, holding_holds}
use Rattle.station.specs.Done.{Done}
use Rattle.station.proofs.Doing.{unchanged, delivery_act, stopped, started, recovered, interval, timeout, spoken, answer, effect_on}
use Rattle.station.specs.Events.{raised_effect, heard_rule, Rule, rule_at, Due, refusing, due_of}
use Rattle.station.specs.Acts.{Act, idle}
use Rattle.station.specs.Done.{done_by}
use Rattle.station.proofs.Slots.{slot_counter}
use Rattle.station.proofs.Purges.{lowered_le}
use Rattle.station.proofs.Answers.{EffectFits, HeardFits, letter_link, answer_fits}
use Rattle.station.proofs.HoldingLaws.{formed}
use Rattle.station.proofs.Keeps.{Kept, started_keeps, stopped_keeps, recovered_keeps, interval_keeps, timeout_keeps, spoken_keeps}
use Rattle.station.proofs.Keeps.{received_keeps, unchanged_keeps}
use Rattle.station.proofs.Rises.{Sets, started_table, recovered_table, interval_table, spoken_table, defers_table, answers_table}
use Rattle.station.proofs.Rises.{equal_table, stopped_lowers, counter_positive, timeout_even, timeout_odd, heals_sets, levels_sets}
use Rattle.station.proofs.Rises.{takes_took}

-- what the event names is there at the station s: its link is an own one; its letter may travel, and comes to s
abbrev pub Names : Network → ℕ → Kind → ℕ → Letter → Type 0
Names net s NoSuch b x = T true
Names net s Start b x = T true
Names net s Stop b x = T true
Names net s Recovery b x = T true
Names net s IntervalEnd b x = (b < length net.links) × T (is_end net b s)
Names net s TimeoutEnd b x = (b < length net.links) × T (is_end net b s)
Names net s QuietEnd b x = (b < length net.links) × T (is_end net b s)
Names net s Delivery b x = T (letter_holds net x) × T (is_end net x.link s)
Names net s Loss b x = T true

-- ---- well formed before it, and allowed: well formed after it, and what is sent may travel
pub rule_keeps : (net : Network) (s : ℕ) (h : Holding) → T (holding_holds net s h) → (k : Kind) (b : ℕ) (x : Letter) → Names net s k b x
    → T (rule_at s k b x h).allowed
    → Kept net s (done_by net s h (rule_at s k b x h).act)
unfolding done_by answer
rule_keeps net s h ok NoSuch b x n a = unchanged_keeps net s h ok
rule_keeps net s h ok Start b x n a = started_keeps net s h ok a
rule_keeps net s h ok Stop b x n a = stopped_keeps net s
rule_keeps net s h ok Recovery b x n a = recovered_keeps net s h ok a
rule_keeps net s h ok IntervalEnd b x n a = interval_keeps net s h ok b n.0 n.1 a
rule_keeps net s h ok TimeoutEnd b x n a = timeout_keeps net s h ok b n.0 n.1 a
rule_keeps net s h ok QuietEnd b x n a = spoken_keeps net s h ok b n.0 n.1 a
rule_keeps net s h ok Delivery b x n a =
    subst⁻¹ (λ (y : Act). Kept net s (done_by net s h y)) (delivery_act s b x h)
    (received_keeps net s h ok x n.0 n.1)
rule_keeps net s h ok Loss b x n a = unchanged_keeps net s h ok

-- ---- how many counters are higher
module _ (net : Network) (g h : Holding) where
  risen_none : ((k : ℕ) → counter h k ≤ counter g k) → higher net g h ≡ 0
  risen_none f =
      sum_none (λ k. bit (ltb (counter g k) (counter h k))) (length net.links) (λ k l. ap bit (le-ltb (counter g k) (counter h k) (f k)))

  -- no counter but k's is higher
  risen_one : (k : ℕ) → k < length net.links → ((j : ℕ) → j ≢ k → counter h j ≤ counter g j)
      → higher net g h ≡ bit (ltb (counter g k) (counter h k))
  risen_one k l f =
      sum_only (λ k. bit (ltb (counter g k) (counter h k))) (length net.links) k l
      (λ j m n. ap bit (le-ltb (counter g j) (counter h j) (f j n)))

  pub risen_same : h.table ≡ g.table → higher net g h ≡ 0
  risen_same e = risen_none (λ k. le_of_eq (ap (λ (t : List ℕ). counter_in t k) e))

module _ (net : Network) (s : ℕ) (real : s < net.stations) (h : Holding) (ok : T (holding_holds net s h)) where
  abbrev Raises : ℕ → Done → Type 0
  Raises n d = higher net h d.holding ≡ n

  same : Raises 0 (unchanged h)
  same = risen_same net h h refl

  module _ (k : ℕ) (l : k < length net.links) (o : T (is_end net k s)) where
    sets_raises : (c : ℕ) (d : Done) → Sets net s k c h d → Raises (bit (ltb (counter h k) c)) d
    sets_raises c d p =
        risen_one net h d.holding k l (λ j n. lowered_le (counter h j) (counter d.holding j) (counter_positive net s h ok j)
        (p.others j n))
        ∙ ap (λ (x : ℕ). bit (ltb (counter h k) x)) p.own

    timeout_raises : Raises (bit (even (counter h k))) (timeout net s k h)
    timeout_raises = go (even (counter h k)) refl
      where
        go : (b : Bool) → even (counter h k) ≡ b → Raises (bit b) (timeout net s k h)
        go true e =
            sets_raises (counter h k + 1) (timeout net s k h) (timeout_even net s h ok k l real o (subst⁻¹ T e tt))
            ∙ ap bit (lt-ltb (counter h k) (counter h k + 1) (omega arith))
        go false e = risen_same net h (timeout net s k h).holding (timeout_odd net s h k (subst⁻¹ (λ (b : Bool). T (not b)) e tt))

    effect_raises : (e : Effect) → EffectFits net k h e → Raises (raised_effect (counter h k) e) (effect_on net s k h e)
    effect_raises Defers p = risen_same net h (effect_on net s k h Defers).holding (defers_table net s h k)
    effect_raises Answers p = risen_same net h (effect_on net s k h Answers).holding (answers_table net s h k)
    effect_raises (Heals c) p = sets_raises c (effect_on net s k h (Heals c)) (heals_sets net s h ok k l real o c)
    effect_raises (Levels c) p = sets_raises c (effect_on net s k h (Levels c)) (levels_sets net s h ok k l c)
    effect_raises Equal p = risen_same net h (effect_on net s k h Equal).holding (equal_table net s h k)
    effect_raises (Takes j c) p =
        let t = takes_took net s h ok k j c p.there p.above in
        let d = effect_on net s k h (Takes j c) in
        risen_one net h d.holding j p.there (λ i n. le_of_eq (t.others i n))
        ∙ ap bit (lt-ltb (counter h j) (counter d.holding j) (subst⁻¹ (λ (n : ℕ). counter h j < n) t.takes t.newer))

    heard_raises : (settled : ℕ) (a : Heard) → HeardFits net k h a
        → let r = heard_rule settled h.condition k (counter h k) a in Raises r.counts.raised (done_by net s h r.act)
    unfolding done_by
    heard_raises settled Gone p = same
    heard_raises settled Nothing p = same
    heard_raises settled Overflows p = same
    heard_raises settled (Does e) p = effect_raises e p.1

  received_raises : (settled : ℕ) (x : Letter) → T (letter_holds net x) → T (is_end net x.link s)
      → let r = heard_rule settled h.condition x.link (counter h x.link) (answer s x h) in
      Raises r.counts.raised (done_by net s h r.act)
  received_raises settled x t o =
      let k = x.link in
      let l = letter_link net x t in
      heard_raises k l o settled (answer s x h) (answer_fits net s x h
      (slot_counter h.condition (is_end net k s) (counter h k) (mark h k) ((formed net s h ok).slots k l)) t)

  -- what the rule counts as raised is what is higher
  pub rule_raises : (k : Kind) (b : ℕ) (x : Letter) → Names net s k b x
      → higher net h (done_by net s h (rule_at s k b x h).act).holding ≡ (rule_at s k b x h).counts.raised
  unfolding done_by answer
  rule_raises NoSuch b x n = same
  rule_raises Start b x n = risen_same net h (started net s h).holding (started_table net s h)
  rule_raises Stop b x n = risen_none net h (stopped net s).holding (stopped_lowers net s h ok)
  rule_raises Recovery b x n = risen_same net h (recovered net s h).holding (recovered_table net s h)
  rule_raises IntervalEnd b x n = risen_same net h (interval net s b h).holding (interval_table net s h b)
  rule_raises TimeoutEnd b x n = timeout_raises b n.0 n.1
  rule_raises QuietEnd b x n = risen_same net h (spoken net s b h).holding (spoken_table net s h b)
  rule_raises Delivery b x n = received_raises _ x n.0 n.1
  rule_raises Loss b x n = same

-- one at the most
bit_le : (b : Bool) → bit b ≤ 1
bit_le true = le_refl 1
bit_le false = zero-le

effect_one : (own : ℕ) (e : Effect) → raised_effect own e ≤ 1
effect_one own Defers = zero-le
effect_one own Answers = zero-le
effect_one own (Heals c) = bit_le (ltb own c)
effect_one own (Levels c) = bit_le (ltb own c)
effect_one own Equal = zero-le
effect_one own (Takes j c) = le_refl 1

heard_one : (settled : ℕ) (x : Condition) (k own : ℕ) (a : Heard) → (heard_rule settled x k own a).counts.raised ≤ 1
heard_one settled x k own Gone = zero-le
heard_one settled x k own Nothing = zero-le
heard_one settled x k own Overflows = zero-le
heard_one settled x k own (Does e) = effect_one own e

pub rule_one : (s : ℕ) (k : Kind) (b : ℕ) (x : Letter) (h : Holding) → (rule_at s k b x h).counts.raised ≤ 1
unfolding answer
rule_one s NoSuch b x h = zero-le
rule_one s Start b x h = zero-le
rule_one s Stop b x h = zero-le
rule_one s Recovery b x h = zero-le
rule_one s IntervalEnd b x h = zero-le
rule_one s TimeoutEnd b x h = bit_le (even (counter h b))
rule_one s QuietEnd b x h = zero-le
rule_one s Delivery b x h = heard_one _ h.condition x.link (counter h x.link) (answer s x h)
rule_one s Loss b x h = zero-le

-- ---- what an event comes to: each number for its reason, and where the reason holds
not_not : (b : Bool) → T (not (not b)) → T b
not_not true t = tt
not_not false t = t

module _ (there : Bool) (r : Rule) where
  pub data Why : ℕ → Type 0 where
    none : T there → T r.allowed → T (not r.over) → Why 0
    six : T (not there) → Why 6
    seven : T there → T (not r.allowed) → Why 7
    eight : T there → T r.allowed → T r.over → Why 8

  -- what holds of a refusal and of the rule where nothing refuses it holds of what it comes to
  pub due_elim : (x : Condition) (P : Due → Type 0) → ((n : ℕ) → (n ≡ 0 → ⊥) → P (refusing n x))
      → (T there → T r.allowed → T (not r.over) → P (record { number = 0; act = r.act; counts = r.counts }))
      → P (due_of there r x)
  unfolding due_of
  due_elim x P refused taken =
      if_elim P (not there) (λ p. refused 6 (λ z. omega arith))
      (λ p. if_elim P (not r.allowed) (λ q. refused 7 (λ z. omega arith))
      (λ q. if_elim P r.over (λ o. refused 8 (λ z. omega arith)) (taken (not_not there p) (not_not r.allowed q))))

  pub due_why : (x : Condition) → Why (due_of there r x).number
  unfolding due_of
  due_why x =
      let For : Due → Type 0 = λ d. Why d.number in
      if_elim For (not there) six
      (λ p. let t = not_not there p in if_elim For (not r.allowed) (seven t)
      (λ q. let a = not_not r.allowed q in if_elim For r.over (eight t a) (none t a)))

  -- nothing refuses it: the rule's
  pub due_done : (x : Condition) → T there → T r.allowed → T (not r.over)
      → due_of there r x ≡ record { number = 0; act = r.act; counts = r.counts }
  unfolding due_of
  due_done x t a o = simp (T_is there t, T_is r.allowed a, T_not_is r.over o)

  -- refused: the number, and nothing is done
  pub due_six : (x : Condition) → T (not there) → due_of there r x ≡ refusing 6 x
  unfolding due_of
  due_six x t = simp (T_not_is there t)

  due_seven : (x : Condition) → T there → T (not r.allowed) → due_of there r x ≡ refusing 7 x
  unfolding due_of
  due_seven x t a = simp (T_is there t, T_not_is r.allowed a)

  due_eight : (x : Condition) → T there → T r.allowed → T r.over → due_of there r x ≡ refusing 8 x
  unfolding due_of
  due_eight x t a o = simp (T_is there t, T_is r.allowed a, T_is r.over o)

  pub why_due : (x : Condition) {n : ℕ} → Why n → (due_of there r x).number ≡ n
  why_due x (none t a o) = ap (λ (d : Due). d.number) (due_done x t a o)
  why_due x (six t) = ap (λ (d : Due). d.number) (due_six x t)
  why_due x (seven t a) = ap (λ (d : Due). d.number) (due_seven x t a)
  why_due x (eight t a o) = ap (λ (d : Due). d.number) (due_eight x t a o)

-- what a refusal does
pub idle_done : (net : Network) (s : ℕ) (h : Holding) → done_by net s h (idle h.condition) ≡ unchanged h
unfolding done_by
idle_done net s h = refl

-- refused or not, by the rule of an event: well formed after it, and what it counts as raised is what is higher
module _ (net : Network) (s : ℕ) (h : Holding) (ok : T (holding_holds net s h)) (there : Bool) (k : Kind) (b : ℕ) (x : Letter)
    (n : T there → Names net s k b x) where
  abbrev due : Due
  due = due_of there (rule_at s k b x h) h.condition

  pub due_keeps : Kept net s (done_by net s h due.act)
  due_keeps =
      due_elim there (rule_at s k b x h) h.condition (λ (d : Due). Kept net s (done_by net s h d.act))
      (λ i z. subst⁻¹ (Kept net s) (idle_done net s h) (unchanged_keeps net s h ok))
      (λ t a o. rule_keeps net s h ok k b x (n t) a)

  pub due_raises : s < net.stations → higher net h (done_by net s h due.act).holding ≡ due.counts.raised
  due_raises real =
      due_elim there (rule_at s k b x h) h.condition (λ (d : Due). higher net h (done_by net s h d.act).holding ≡ d.counts.raised)
      (λ i z. ap (λ (d : Done). higher net h d.holding) (idle_done net s h) ∙ risen_same net h h refl)
      (λ t a o. rule_raises net s real h ok k b x (n t))
