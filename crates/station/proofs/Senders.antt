-- Every letter that an act of the station s sends names s as its sender.
use Rattle.std.specs.Prelude.{if◌then◌else◌}
use Prim.Native.Nat.{ℕ}
use mathlib.Core.Path.{subst⁻¹}
use mathlib.Core.Bool.{Bool}
use mathlib.Core.List.{List, [], ◌∷◌}
use lib.Dec.{T, eqb, eqb_refl}
use Rattle.lists.specs.Lists.{every}
use Rattle.lists.proofs.Tests.{and_i, if_elim}
use Rattle.lists.proofs.Kept.{every_joined}
use Rattle.net.specs.declared.Body.{Body}
use Rattle.net.specs.declared.Body.TheVariants.{Request, Reply, Notice}
use Rattle.net.specs.declared.Letter.{Letter}
use Rattle.net.specs.Network.{Network}
use Rattle.counters.specs.Counters.{even, odd, timed_out}
use Rattle.station.specs.declared.Effect.{Effect}
use Rattle.station.specs.declared.Effect.TheVariants.{Defers, Answers, Heals, Levels, Equal, Takes}
use Rattle.station.specs.declared.Heard.{Heard}
use Rattle.station.specs.declared.Heard.TheVariants.{Gone, Nothing, Overflows, Does}
use Rattle.station.specs.declared.Kind.{Kind}
use Rattle.station.specs.declared.Kind.TheVariants.{NoSuch, Start, Stop, Recovery, IntervalEnd, TimeoutEnd, QuietEnd, Delivery, Loss}
use Rattle.station.specs.Holding.{Holding, counter, mark}
use Rattle.station.specs.Acts.{interval_tests}
use Rattle.station.specs.Done.{Done, letter, on_each, tell, less, known, done_by}
use Rattle.station.proofs.Doing.{delivery_act, open_links, stopped, started, recovered, interval, timeout, spoken, answer, replied}
use Rattle.station.proofs.Doing.{effect_on, heard_on}
use Rattle.station.proofs.Doing.{received}
use Rattle.station.specs.Events.{rule_at}
use Rattle.station.specs.Acts.{Sends, Act}
use Rattle.station.specs.Done.{own_links, sent_of}

-- all of them are sent by s
abbrev pub sent_by : ℕ → List Letter → Bool
sent_by s xs = every (λ x. eqb x.sender s) xs

on_each_by : (s : ℕ) (b : Body) (ks : List ℕ) → T (sent_by s (on_each s b ks))
on_each_by s b [] = tt
on_each_by s b (k ∷ ks) = and_i (eqb s s) _ (eqb_refl s) (on_each_by s b ks)

tell_by : (s : ℕ) (c : ℕ → ℕ) (js ks : List ℕ) → T (sent_by s (tell s c js ks))
tell_by s c [] ks = tt
tell_by s c (j ∷ js) ks =
    every_joined (λ x. eqb x.sender s) (on_each s (Notice j (c j)) ks) (tell s c js ks) (on_each_by s (Notice j (c j)) ks)
    (tell_by s c js ks)

module _ (net : Network) (s : ℕ) (h : Holding) where
  abbrev By : Done → Type 0
  By d = T (sent_by s d.sent)

  -- nothing is sent
  pub started_by : By (started net s h)
  unfolding done_by
  started_by = tt

  pub stopped_by : By (stopped net s)
  unfolding done_by
  stopped_by = tt

  pub spoken_by : (k : ℕ) → By (spoken net s k h)
  unfolding done_by
  spoken_by k = tt

  pub recovered_by : By (recovered net s h)
  unfolding done_by
  recovered_by = on_each_by s Request (own_links net s interval_tests h)

  pub interval_by : (k : ℕ) → By (interval net s k h)
  unfolding done_by
  interval_by k =
      if_elim (λ (l : Sends). T (sent_by s (sent_of net s h h.table l))) (interval_tests (mark h k)) (λ t. on_each_by s Request (k ∷ []))
      (λ t. tt)

  pub timeout_by : (k : ℕ) → By (timeout net s k h)
  unfolding done_by
  timeout_by k =
      if_elim (λ (a : Act). By (done_by net s h a)) (even (counter h k))
      (λ t. on_each_by s (Notice k (timed_out (counter h k))) (less k (open_links net s h))) (λ t. tt)

  pub effect_by : (k : ℕ) (e : Effect) → By (effect_on net s k h e)
  unfolding done_by
  effect_by k Defers = tt
  effect_by k Answers =
      every_joined (λ x. eqb x.sender s) (if odd (counter h k) then tell s (counter h) (less k (known net h.table)) (k ∷ []) else [])
      (letter s k (Reply (counter h k)) ∷ [])
      (if_elim (λ (xs : List Letter). T (sent_by s xs)) (odd (counter h k))
      (λ u. tell_by s (counter h) (less k (known net h.table)) (k ∷ [])) (λ u. tt))
      (on_each_by s (Reply (counter h k)) (k ∷ []))
  effect_by k (Heals c) = let next = replied net s k c h in tell_by s (counter next) (known net next.table) (open_links net s h)
  effect_by k (Levels c) = on_each_by s (Notice k c) (open_links net s h)
  effect_by k Equal = tt
  effect_by k (Takes j c) = on_each_by s (Notice j c) (less k (open_links net s h))

  heard_by : (k : ℕ) (a : Heard) → By (heard_on net s k h a)
  unfolding done_by
  heard_by k Gone = tt
  heard_by k Nothing = tt
  heard_by k Overflows = tt
  heard_by k (Does e) = effect_by k e

  pub received_by : (x : Letter) → By (received net s x h)
  received_by x = heard_by x.link (answer s x h)

  -- whatever the event
  pub rule_by : (k : Kind) (b : ℕ) (x : Letter) → By (done_by net s h (rule_at s k b x h).act)
  unfolding done_by answer
  rule_by NoSuch b x = tt
  rule_by Start b x = started_by
  rule_by Stop b x = stopped_by
  rule_by Recovery b x = recovered_by
  rule_by IntervalEnd b x = interval_by b
  rule_by TimeoutEnd b x = timeout_by b
  rule_by QuietEnd b x = spoken_by b
  rule_by Delivery b x = subst⁻¹ (λ (y : Act). By (done_by net s h y)) (delivery_act s b x h) (received_by x)
  rule_by Loss b x = tt
