-- An event of a kind from 4 on leaves its station's condition as it was. So where no counter is set either, it is enough to store the
-- marks, word by word.
use Rattle.std.specs.Prelude.{if◌then◌else◌}
use Prim.Native.Nat.{ℕ, zero, suc}
use mathlib.Core.Bool.{Bool, true, false, ◌||◌}
use mathlib.Core.Path.{◌≡◌, refl, sym, ap, ◌∙◌}
use mathlib.Core.List.{List, [], ◌∷◌}
use native.Mathlib.Omega.{arith}
use lib.Dec.{T, ltb}
use lib.ListN.{get_or, set}
use lib.Seq.{set-get_or}
use Rattle.lists.specs.Words.{bit}
use Rattle.net.specs.declared.Letter.{Letter}
use Rattle.counters.specs.Counters.{even}
use Rattle.marks.specs.declared.Marks.{Marks}
use Rattle.marks.specs.declared.Words.{Words}
use Rattle.marks.specs.Marks.{marks_at}
use Rattle.station.specs.declared.Condition.{Condition}
use Rattle.station.specs.declared.Effect.{Effect}
use Rattle.station.specs.declared.Effect.TheVariants.{Defers, Answers, Heals, Levels, Equal, Takes}
use Rattle.station.specs.declared.Heard.{Heard}
use Rattle.station.specs.declared.Heard.TheVariants.{Gone, Nothing, Overflows, Does}
use Rattle.station.specs.declared.Kind.{Kind}
use Rattle.station.specs.declared.Kind.TheVariants.{NoSuch, Start, Stop, Recovery, IntervalEnd, TimeoutEnd, QuietEnd, Delivery, Loss}
use Rattle.station.specs.declared.Station.{Station}
use Rattle.station.specs.Acts.{Tabling, kept, ones, sets, Act, effect_act, answer_by}
use Rattle.station.specs.Events.{kind_of, is_notice, heard_rule, rule_of, Due, due_of}
use Rattle.station.proofs.Rules.{due_elim}
use Rattle.station_plan.specs.declared.Plan.{Plan}
use Rattle.station_plan.specs.Plans.{tabled_plan, told_in}
use Rattle.station_plan.specs.Comes.{event_plan}
use Rattle.state.specs.declared.State.{State}
use Rattle.state.specs.State.{beyond, station_in}
use Rattle.step_parts.specs.declared.Names.{Names}
use Rattle.step_parts.specs.Parts.{counter_at, plan_by}
use Rattle.step_parts.proofs.Made.{stored}
use Rattle.step_parts.proofs.Loops.{with_station}
use Rattle.backlog_run.proofs.Turns.{told_same}

-- ---- the kinds from 4 on, and what is no kind
abbrev lasts : Kind → Bool
lasts NoSuch = true
lasts Start = false
lasts Stop = false
lasts Recovery = false
lasts IntervalEnd = true
lasts TimeoutEnd = true
lasts QuietEnd = true
lasts Delivery = true
lasts Loss = true

clash : true ≡ false → ⊥
clash e = let z : ◌≡◌ {A = ℕ} 0 1 = cc in omega arith

kind_lasts : (n : ℕ) → ltb n 4 ≡ false → T (lasts (kind_of n))
kind_lasts zero e = tt
kind_lasts (suc zero) e = absurd (clash e)
kind_lasts (suc (suc zero)) e = absurd (clash e)
kind_lasts (suc (suc (suc zero))) e = absurd (clash e)
kind_lasts (suc (suc (suc (suc zero)))) e = tt
kind_lasts (suc (suc (suc (suc (suc zero))))) e = tt
kind_lasts (suc (suc (suc (suc (suc (suc zero)))))) e = tt
kind_lasts (suc (suc (suc (suc (suc (suc (suc zero))))))) e = tt
kind_lasts (suc (suc (suc (suc (suc (suc (suc (suc zero)))))))) e = tt
kind_lasts (suc (suc (suc (suc (suc (suc (suc (suc (suc n))))))))) e = tt

-- ---- the condition after what is done
module _ (x : Condition) (k c : ℕ) where
  effect_lasts : (e : Effect) → (effect_act x k c e).condition ≡ x
  effect_lasts Defers = refl
  effect_lasts Answers = refl
  effect_lasts (Heals new) = refl
  effect_lasts (Levels new) = refl
  effect_lasts Equal = refl
  effect_lasts (Takes j new) = refl

  heard_lasts : (settled : ℕ) (a : Heard) → (heard_rule settled x k c a).act.condition ≡ x
  heard_lasts settled Gone = refl
  heard_lasts settled Nothing = refl
  heard_lasts settled Overflows = refl
  heard_lasts settled (Does e) = effect_lasts e

  by_test : (b : Bool) (f g : Act) → f.condition ≡ x → g.condition ≡ x → (if b then f else g).condition ≡ x
  by_test true f g p q = p
  by_test false f g p q = q

  rule_lasts : (s : ℕ) (l : Letter) (m : Marks) (told : ℕ) (e : Kind) → T (lasts e) → (rule_of s k l x m c told e).act.condition ≡ x
  rule_lasts s l m told NoSuch t = refl
  rule_lasts s l m told Start t = absurd t
  rule_lasts s l m told Stop t = absurd t
  rule_lasts s l m told Recovery t = absurd t
  rule_lasts s l m told IntervalEnd t = refl
  rule_lasts s l m told TimeoutEnd t = by_test (even c) _ _ refl refl
  rule_lasts s l m told QuietEnd t = refl
  rule_lasts s l m told Delivery t = heard_lasts (bit (is_notice l.body)) (answer_by s x m c told l)
  rule_lasts s l m told Loss t = refl

-- ---- and that of the plan
tabled : (own : ℕ) (w : Words) (d : Due) (t : Tabling) → (tabled_plan own w d t).condition ≡ d.act.condition
tabled own w d kept = refl
tabled own w d ones = refl
tabled own w d (sets j c purges) = refl

pub plan_lasts : (n : Names) (kind : ℕ) (e : Kind) (own : ℕ) (l : Letter) (st : Station) (p : Plan) → e ≡ kind_of kind
    → p ≡ plan_by n e own l st → ltb kind 4 ≡ false → p.condition ≡ st.condition
unfolding plan_by event_plan
plan_lasts n kind e own l st p d is q =
    let x = st.condition in
    let m = marks_at st.marks n.link in
    let c = counter_at st n.link in
    let told = counter_at st n.subject in
    let r = rule_of n.station n.link l x m c told (kind_of kind) in
    let due = due_of n.there r x in
    ap (λ (y : Plan). y.condition) (is ∙ ap (λ (e : Kind). plan_by n e own l st) d)
    ∙ tabled own st.marks due due.act.table
    ∙ due_elim n.there r x (λ (y : Due). y.act.condition ≡ x) (λ i z. refl)
    (λ t a o. rule_lasts x n.link c n.station l m told (kind_of kind) (kind_lasts kind q))

-- ---- the state with these stations
abbrev pub with_stations : State → List Station → State
with_stations s ss = record { net = s.net; flying = s.flying; stations = ss; letters = s.letters }

-- what stands there is as if it were stored
pub stands_stored : (s : State) (i : ℕ) → s ≡ with_station s i (station_in s i)
stands_stored s i = ap (with_stations s) (sym (set-get_or s.stations i beyond))

-- ---- the five words of a station's marks are stored one after the other
module _ (w : Words) (i : ℕ) where
  abbrev put : (Words → Words) → List Station → List Station
  put f ss =
      set ss i (record {
        condition = (get_or ss i beyond).condition;
        counters = (get_or ss i beyond).counters;
        marks = f (get_or ss i beyond).marks;
      })

  abbrev pub put_words : List Station → List Station
  put_words ss =
      put (λ m. record { token = m.token; turn = m.turn; testing = m.testing; asked = m.asked; quiet = w.quiet })
      (put (λ m. record { token = m.token; turn = m.turn; testing = m.testing; asked = w.asked; quiet = m.quiet })
      (put (λ m. record { token = m.token; turn = m.turn; testing = w.testing; asked = m.asked; quiet = m.quiet })
      (put (λ m. record { token = m.token; turn = w.turn; testing = m.testing; asked = m.asked; quiet = m.quiet })
      (put (λ m. record { token = w.token; turn = m.turn; testing = m.testing; asked = m.asked; quiet = m.quiet }) ss))))

words_put : (w : Words) (ss : List Station) (i : ℕ) (st : Station) → (get_or ss i beyond).condition ≡ st.condition
    → (get_or ss i beyond).counters ≡ st.counters → w ≡ st.marks → put_words w i ss ≡ set ss i st
words_put w [] i st p q r = refl
words_put w (x ∷ ss) zero st p q r = ap (λ (y : Station). y ∷ ss) (λ i. record { condition = p i; counters = q i; marks = r i })
words_put w (x ∷ ss) (suc i) st p q r = ap (λ (l : List Station). x ∷ l) (words_put w ss i st p q r)

-- where the plan sets no counter and has the same condition, that is the station as it is stored whole
pub words_stored : (ss old : List Station) → ss ≡ old → (i : ℕ) (p : Plan) (told : List ℕ) → p.condition ≡ (get_or old i beyond).condition
    → p.sets ≡ false → told ≡ told_in p (get_or old i beyond) → put_words p.marks i ss ≡ set ss i (stored p told)
words_stored ss old e i p told l z t =
    words_put p.marks ss i (stored p told) (ap (λ (ss : List Station). (get_or ss i beyond).condition) e ∙ sym l)
    (ap (λ (ss : List Station). (get_or ss i beyond).counters) e
    ∙ told_same p.sets p.at p.counter (get_or old i beyond).counters z ∙ sym t) refl

-- the test by which it goes
pub neither : (a b : Bool) → (a || b) ≡ false → (a ≡ false) × (b ≡ false)
neither true b e = absurd (clash e)
neither false b e = (refl, e)
