-- The plan of a letter, by the answer to it.
use Prim.Native.Nat.{ℕ}
use mathlib.Core.Bool.{true}
use mathlib.Core.Path.{◌≡◌, refl, sym, ap, ap₂, ◌∙◌}
use Rattle.lists.specs.Words.{bit}
use Rattle.net.specs.declared.Letter.{Letter}
use Rattle.marks.specs.declared.Words.{Words}
use Rattle.marks.specs.Marks.{marks_at}
use Rattle.station.specs.declared.Condition.{Condition}
use Rattle.station.specs.declared.Effect.{Effect}
use Rattle.station.specs.declared.Heard.{Heard}
use Rattle.station.specs.declared.Heard.TheVariants.{Gone, Nothing, Overflows, Does}
use Rattle.station.specs.declared.Kind.TheVariants.{Delivery}
use Rattle.station.specs.Acts.{effect_act, answer_by}
use Rattle.station.specs.Events.{counting, is_notice, raised_effect, heard_rule, due_of}
use Rattle.station_plan.specs.declared.Plan.{Plan}
use Rattle.station_plan.specs.Plans.{plan_of, done_plan, drop_plan}
use Rattle.station_plan.specs.Comes.{event_plan}

module _ (own k c settled : ℕ) (x : Condition) (w : Words) where
  -- ---- any answer but an effect
  abbrev Drops : Heard → Type 0
  Drops r = (e : Effect) → r ≡ Does e → ⊥

  -- the plan by the answer
  abbrev heard_plan : ℕ → Heard → Plan
  heard_plan n said = plan_of own w (due_of true (heard_rule n x k c said) x)

  drops_is : (said : Heard) → Drops said → drop_plan said settled x w ≡ heard_plan settled said
  unfolding drop_plan due_of
  drops_is Gone t = refl
  drops_is Nothing t = refl
  drops_is Overflows t = refl
  drops_is (Does e) t = absurd (t e refl)

  -- ---- by the answer to the letter
  module _ (s told : ℕ) (l : Letter) (said : Heard) (es : settled ≡ bit (is_notice l.body))
      (eh : said ≡ answer_by s x (marks_at w k) c told l) where
    by_answer : heard_plan settled said ≡ event_plan true Delivery own s k l c told x w
    unfolding event_plan
    by_answer = ap₂ heard_plan es eh

    pub letter_drops : (r : Plan) → Drops said → r ≡ drop_plan said settled x w → r ≡ event_plan true Delivery own s k l c told x w
    letter_drops r t q = q ∙ drops_is said t ∙ by_answer

    pub letter_does : (e : Effect) (r : Plan) → said ≡ Does e
        → r ≡ done_plan own w (effect_act x k c e) (counting settled (raised_effect c e) 0)
        → r ≡ event_plan true Delivery own s k l c told x w
    unfolding due_of
    letter_does e r p q = q ∙ ap (heard_plan settled) (sym p) ∙ by_answer
