-- What each event adds to the tally beside raised counters (Rules): a notice that is taken off the list is settled, and a letter that is
-- lost, or delivered where it is not heard, is dropped. A delivery that is not heard is as a loss in all else too.
use Rattle.std.specs.Prelude.{if◌then◌else◌}
use Prim.Native.Nat.{ℕ}
use mathlib.Core.Bool.{Bool, not, ◌&&◌, ◌||◌}
use mathlib.Core.Path.{◌≡◌, refl, sym, ap}
use lib.Dec.{T, eqb}
use Rattle.lists.specs.Words.{bit}
use Rattle.lists.proofs.Tests.{T_is, if_elim}
use Rattle.net.specs.declared.Body.{Body}
use Rattle.net.specs.declared.Body.TheVariants.{Request, Reply, Notice}
use Rattle.net.specs.declared.Letter.{Letter}
use Rattle.counters.specs.Counters.{odd}
use Rattle.station.specs.declared.Heard.{Heard}
use Rattle.station.specs.declared.Heard.TheVariants.{Gone, Nothing, Overflows, Does}
use Rattle.station.specs.declared.Kind.{Kind}
use Rattle.station.specs.declared.Kind.TheVariants.{NoSuch, Start, Stop, Recovery, IntervalEnd, TimeoutEnd, QuietEnd, Delivery, Loss}
use Rattle.station.specs.Holding.{Holding, counter}
use Rattle.station.proofs.Doing.{answer}
use Rattle.station.specs.Events.{delivers, loses, takes_letter, is_notice, heard_rule, rule_at}
use Rattle.station.proofs.Answers.{heard, answer_gone, request_cases, reply_cases, notice_cases}

-- a letter is dropped exactly if it is not heard
module _ (s : ℕ) (x : Letter) (h : Holding) where
  abbrev drops : Heard → ℕ
  drops a = (heard_rule (bit (is_notice x.body)) h.condition x.link (counter h x.link) a).counts.dropped

  abbrev Says : Heard → Type 0
  Says a = drops a ≡ bit (not (heard x h))

  deaf : T (not (heard x h)) → 1 ≡ bit (not (heard x h))
  deaf t = sym (ap bit (T_is (not (heard x h)) t))

  hearing : T (heard x h) → 0 ≡ bit (not (heard x h))
  hearing t = sym (ap (λ (b : Bool). bit (not b)) (T_is (heard x h) t))

  gone_body : (b : Body) → x.body ≡ b → Says (answer s x h)
  gone_body Request e = request_cases s x h Says e deaf (λ t u. hearing t) (λ t u. hearing t)
  gone_body (Reply c) e =
      reply_cases s x h c e Says deaf (λ t u. hearing t) (λ t u v. hearing t)
      (λ t u v. if_elim Says (odd (counter h x.link) || odd c) (λ y. hearing t)
      (λ y. if_elim Says (eqb (counter h x.link) c) (λ z. hearing t) (λ z. hearing t)))
  gone_body (Notice j c) e = notice_cases s x h Says j c e deaf (λ t u. hearing t) (λ t u. hearing t)

  pub dropped_unheard : drops (answer s x h) ≡ bit (not (heard x h))
  dropped_unheard = gone_body x.body refl

module _ (s b : ℕ) (x : Letter) (h : Holding) where
  heard_settles : (a : Heard) → (heard_rule (bit (is_notice x.body)) h.condition x.link (counter h x.link) a).counts.settled
      ≡ bit (is_notice x.body)
  heard_settles Gone = refl
  heard_settles Nothing = refl
  heard_settles Overflows = refl
  heard_settles (Does e) = refl

  pub rule_settles : (k : Kind) → (rule_at s k b x h).counts.settled ≡ (if takes_letter k then bit (is_notice x.body) else 0)
  unfolding answer
  rule_settles NoSuch = refl
  rule_settles Start = refl
  rule_settles Stop = refl
  rule_settles Recovery = refl
  rule_settles IntervalEnd = refl
  rule_settles TimeoutEnd = refl
  rule_settles QuietEnd = refl
  rule_settles Delivery = heard_settles (answer s x h)
  rule_settles Loss = refl

  pub rule_drops : (k : Kind) → (rule_at s k b x h).counts.dropped ≡ bit (loses k || (delivers k && not (heard x h)))
  unfolding answer
  rule_drops NoSuch = refl
  rule_drops Start = refl
  rule_drops Stop = refl
  rule_drops Recovery = refl
  rule_drops IntervalEnd = refl
  rule_drops TimeoutEnd = refl
  rule_drops QuietEnd = refl
  rule_drops Delivery = dropped_unheard s x h
  rule_drops Loss = refl

  -- event 7 where the letter is not heard is as event 8: the letter is gone, and nothing else happens
  pub unheard_is_lost : T (not (heard x h)) → rule_at s Delivery b x h ≡ rule_at s Loss b x h
  unfolding answer
  unheard_is_lost t =
      ap (heard_rule (bit (is_notice x.body)) h.condition x.link (counter h x.link)) (answer_gone s x h t)
