-- What an event comes to at the one station that it concerns: the number that says no, or the station after it, the letters that it
-- sends, and what it adds to the tally. Document 01, "The eight events" and the numbers 6, 7 and 8. Which station that is, and 9: world.
use Rattle.std.specs.Prelude.{ℕ, Bool, true, false, not, ◌||◌, [], ◌∷◌, eqb, ltb, get_or, if◌then◌else◌}
use Rattle.lists.specs.Words.{bit}
use Rattle.tally.specs.declared.Tally.{Tally}
use Rattle.net.specs.declared.Body.{Body}
use Rattle.net.specs.declared.Body.TheVariants.{Request, Reply, Notice}
use Rattle.net.specs.declared.Letter.{Letter}
use Rattle.counters.specs.Counters.{even}
use Rattle.marks.specs.declared.Marks.{Marks}
use Rattle.station.specs.declared.Condition.{Condition}
use Rattle.station.specs.declared.Effect.{Effect}
use Rattle.station.specs.declared.Effect.TheVariants.{Defers, Answers, Heals, Levels, Equal, Takes}
use Rattle.station.specs.declared.Heard.{Heard}
use Rattle.station.specs.declared.Heard.TheVariants.{Gone, Nothing, Overflows, Does}
use Rattle.station.specs.declared.Kind.{Kind}
use Rattle.station.specs.declared.Kind.TheVariants.{NoSuch, Start, Stop, Recovery, IntervalEnd, TimeoutEnd, QuietEnd, Delivery, Loss}
use Rattle.station.specs.Holding.{Holding, counter, mark, is_waiting, is_down}
use Rattle.station.specs.Acts.{Act, idle, may_end, start_act, stop_act, recovery_act, interval_act, timeout_act, quiet_act, effect_act}
use Rattle.station.specs.Acts.{answer_by, subject_of}

-- ---- the kinds of event, by their numbers
abbrev pub kind_of : ℕ → Kind
kind_of n = get_or (NoSuch ∷ Start ∷ Stop ∷ Recovery ∷ IntervalEnd ∷ TimeoutEnd ∷ QuietEnd ∷ Delivery ∷ Loss ∷ []) n NoSuch

-- and back
abbrev pub kind_number : Kind → ℕ
kind_number NoSuch = 0
kind_number Start = 1
kind_number Stop = 2
kind_number Recovery = 3
kind_number IntervalEnd = 4
kind_number TimeoutEnd = 5
kind_number QuietEnd = 6
kind_number Delivery = 7
kind_number Loss = 8

-- event 7 delivers a letter, event 8 loses one; both take it off the list
abbrev pub delivers : Kind → Bool
delivers k = eqb (kind_number k) 7

abbrev pub loses : Kind → Bool
loses k = eqb (kind_number k) 8

abbrev pub takes_letter : Kind → Bool
takes_letter k = delivers k || loses k

-- ---- what the tally counts
-- a counter that is raised: a reply to a test may raise its link's, a notice that is taken raises its subject's. That a rule's number
-- is that of the counters which the event leaves higher than before: proofs/Rules.antt
abbrev pub raised_effect : ℕ → Effect → ℕ
raised_effect own Defers = 0
raised_effect own Answers = 0
raised_effect own (Heals c) = bit (ltb own c)
raised_effect own (Levels c) = bit (ltb own c)
raised_effect own Equal = 0
raised_effect own (Takes j c) = 1

-- a letter taken off that is a notice is settled
abbrev pub is_notice : Body → Bool
is_notice Request = false
is_notice (Reply c) = false
is_notice (Notice j c) = true

abbrev pub counting : ℕ → ℕ → ℕ → Tally
counting settled raised dropped = record { settled = settled; raised = raised; dropped = dropped }

-- ---- the eight events: what the station's condition and marks must allow (7), whether a counter would be 65,536 (8), what is done, and
-- what is counted
pub record Rule : Type 0 where
  pub allowed : Bool
  pub over : Bool
  pub act : Act
  pub counts : Tally

-- one that only the station's condition or marks refuse
abbrev pub acts : Bool → Act → ℕ → Rule
acts allowed a raised = record { allowed = allowed; over = false; act = a; counts = counting 0 raised 0 }

-- a letter that is taken off the list in the condition x on link k with the counter c, by the receiver's answer; it settles so many notices
module _ (settled : ℕ) (x : Condition) (k c : ℕ) where
  abbrev pub heard_rule : Heard → Rule
  heard_rule Gone = record { allowed = true; over = false; act = idle x; counts = counting settled 0 1 }
  heard_rule Nothing = record { allowed = true; over = false; act = idle x; counts = counting settled 0 0 }
  heard_rule Overflows = record { allowed = true; over = true; act = idle x; counts = counting settled 0 0 }
  heard_rule (Does e) = record { allowed = true; over = false; act = effect_act x k c e; counts = counting settled (raised_effect c e) 0 }

-- at the station s in the condition x, on link k, which has the marks m and the counter c; l is the letter, and told the counter of the
-- link that it tells of. A letter that is lost is as one that nobody hears
module _ (s k : ℕ) (l : Letter) (x : Condition) (m : Marks) (c told : ℕ) where
  abbrev pub rule_of : Kind → Rule
  rule_of NoSuch = acts true (idle x) 0
  rule_of Start = acts (is_down x) start_act 0
  rule_of Stop = acts (not (is_down x)) stop_act 0
  rule_of Recovery = acts (is_waiting x) recovery_act 0
  rule_of IntervalEnd = acts (may_end x m) (interval_act x k m) 0
  rule_of TimeoutEnd = acts m.testing (timeout_act x k c) (bit (even c))
  rule_of QuietEnd = acts m.quiet (quiet_act x k) 0
  rule_of Delivery = heard_rule (bit (is_notice l.body)) x k c (answer_by s x m c told l)
  rule_of Loss = heard_rule (bit (is_notice l.body)) x k c Gone

-- ---- what an event comes to: the number that says no, or 0 and what is done and counted
pub record Due : Type 0 where
  pub number : ℕ
  pub act : Act
  pub counts : Tally

-- refused: nothing is done
abbrev pub refusing : ℕ → Condition → Due
refusing n x = record { number = n; act = idle x; counts = counting 0 0 0 }

-- by whether there is what the event names (6), and the rule
unfoldable pub due_of : Bool → Rule → Condition → Due
due_of there r x =
    if not there then refusing 6 x
    else (if not r.allowed then refusing 7 x
    else (if r.over then refusing 8 x
    else record { number = 0; act = r.act; counts = r.counts }))

-- ---- the same where the station s of a network holds h: the event names the link b, or the letter l came on its link
abbrev pub link_of : Kind → ℕ → Letter → ℕ
link_of e b l = if takes_letter e then l.link else b

abbrev pub rule_at : ℕ → Kind → ℕ → Letter → Holding → Rule
rule_at s e b l h = let k = link_of e b l in rule_of s k l h.condition (mark h k) (counter h k) (counter h (subject_of l.body)) e
