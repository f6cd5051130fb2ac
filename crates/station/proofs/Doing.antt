-- Each act by its event's name, carried out at the station s that holds h; the laws of the other files speak of these.
use Prim.Native.Nat.{ℕ}
use mathlib.Core.Path.{◌≡◌, refl}
use mathlib.Core.List.{List, []}
use lib.ListN.{set}
use Rattle.lists.specs.Lists.{keep}
use Rattle.net.specs.declared.Letter.{Letter}
use Rattle.net.specs.Network.{Network, is_end, link_numbers}
use Rattle.reach.specs.Reach.{works_in, purge}
use Rattle.marks.specs.declared.Marks.{Marks}
use Rattle.station.specs.declared.Condition.{Condition}
use Rattle.station.specs.declared.Effect.{Effect}
use Rattle.station.specs.declared.Heard.{Heard}
use Rattle.station.specs.declared.Kind.TheVariants.{Delivery}
use Rattle.station.specs.declared.Heard.TheVariants.{Gone, Nothing, Overflows, Does}
use Rattle.station.specs.Holding.{Holding, nobody, counter, mark}
use Rattle.station.specs.Acts.{Act, start_act, recovery_act, interval_act, timeout_act, quiet_act, replied_marks, effect_act, stop_act, idle}
use Rattle.station.specs.Acts.{is_open, answer_by, subject_of}
use Rattle.station.specs.Done.{Done, own_links, done_by}
use Rattle.station.specs.Events.{heard_rule, rule_at}

abbrev pub unchanged : Holding → Done
unchanged h = record { holding = h; sent = [] }

-- a link's marks, the table, one counter set anew
abbrev pub marked : ℕ → Marks → Holding → Holding
marked k m h = record { condition = h.condition; table = h.table; marks = set h.marks k m }

abbrev pub tabled : List ℕ → Holding → Holding
tabled t h = record { condition = h.condition; table = t; marks = h.marks }

abbrev pub counted : ℕ → ℕ → Holding → Holding
counted k c h = tabled (set h.table k c) h

-- what is done with a letter, by the receiver's answer: what is gone, has no effect or would overflow changes nothing
abbrev pub heard_act : Condition → ℕ → ℕ → Heard → Act
heard_act x k c Gone = idle x
heard_act x k c Nothing = idle x
heard_act x k c Overflows = idle x
heard_act x k c (Does e) = effect_act x k c e

heard_act_lem : (settled : ℕ) (x : Condition) (k c : ℕ) (a : Heard) → (heard_rule settled x k c a).act ≡ heard_act x k c a
heard_act_lem settled x k c Gone = refl
heard_act_lem settled x k c Nothing = refl
heard_act_lem settled x k c Overflows = refl
heard_act_lem settled x k c (Does e) = refl

-- a station's own links, by number
abbrev pub own : Network → ℕ → List ℕ
own net s = keep (λ k. is_end net k s) (link_numbers net)

-- the answer of the station s to a letter
unfoldable pub answer : ℕ → Letter → Holding → Heard
answer s x h = answer_by s h.condition (mark h x.link) (counter h x.link) (counter h (subject_of x.body)) x

-- what a delivery's rule does is what is done by the answer
pub delivery_act : (s b : ℕ) (x : Letter) (h : Holding)
    → (rule_at s Delivery b x h).act ≡ heard_act h.condition x.link (counter h x.link) (answer s x h)
unfolding answer
delivery_act s b x h = heard_act_lem _ h.condition x.link (counter h x.link) (answer s x h)

module _ (net : Network) (s : ℕ) where
  -- its own links that aren't quiet
  abbrev pub open_links : Holding → List ℕ
  open_links h = own_links net s is_open h

  abbrev pub purged : Holding → Holding
  purged h = tabled (purge net (works_in h.table) s h.table) h

  -- a reply to a test: testing and asked off, and the new counter
  abbrev pub replied : ℕ → ℕ → Holding → Holding
  replied k c h = counted k c (marked k (replied_marks (mark h k)) h)

  -- what a stop leaves, whatever was held
  abbrev pub stopped : Done
  stopped = done_by net s nobody stop_act

  abbrev pub started : Holding → Done
  started h = done_by net s h start_act

  abbrev pub recovered : Holding → Done
  recovered h = done_by net s h recovery_act

  abbrev pub interval : ℕ → Holding → Done
  interval k h = done_by net s h (interval_act h.condition k (mark h k))

  abbrev pub timeout : ℕ → Holding → Done
  timeout k h = done_by net s h (timeout_act h.condition k (counter h k))

  abbrev pub spoken : ℕ → Holding → Done
  spoken k h = done_by net s h (quiet_act h.condition k)

  abbrev pub effect_on : ℕ → Holding → Effect → Done
  effect_on k h e = done_by net s h (effect_act h.condition k (counter h k) e)

  abbrev pub heard_on : ℕ → Holding → Heard → Done
  heard_on k h a = done_by net s h (heard_act h.condition k (counter h k) a)

  abbrev pub received : Letter → Holding → Done
  received x h = heard_on x.link h (answer s x h)
