-- The step: each number that says no, when and only when document 01's list says, in its order; and what an accepted one did.
use Rattle.std.specs.Prelude.{if◌then◌else◌}
use Prim.Native.Nat.{ℕ, ◌+◌, ◌≤◌}
use mathlib.Core.Bool.{Bool, true, false, not}
use mathlib.Core.Path.{◌≡◌, refl, sym, ap, ◌∙◌, subst⁻¹}
use native.Mathlib.Omega.{arith}
use borrow.Author.Tests.{eq-eqb, ne_eqb}
use mir.Facts.{T_not-not}
use lib.Dec.{T, eqb, ltb, leb, leb→le, eqb→eq}
use lib.ListN.{length, length-append}
use Rattle.net.specs.Sizes.{letter_room}
use Rattle.lists.proofs.Tests.{T_is, T_not_is, if_elim}
use Rattle.station.specs.declared.Condition.{Condition}
use Rattle.station.specs.Holding.{is_live}
use Rattle.station.specs.declared.Kind.TheVariants.{Delivery}
use Rattle.station.specs.Events.{Rule, Due, refusing, due_of}
use Rattle.station.specs.Done.{done_by}
use Rattle.station.proofs.Answers.{heard}
use Rattle.station.proofs.Tallies as Tallies
use Rattle.station.proofs.Rules as R
use Rattle.station.proofs.Rules.{due_why, why_due, due_done}
use Rattle.world.specs.World.{World, Event, holding_at, letter_at, receiver_in, exists_as, exists, concerned, rule}
use Rattle.world.specs.World.{comes, done, left, after, fits, refusal, accepted, next, ask_refusal}

module _ (w : World) (e : Event) where
  -- ---- what each answer says of the event
  pub data Why : ℕ → Type 0 where
    none : T (exists w e) → T (rule w e).allowed → T (not (rule w e).over) → T (fits w e) → Why 0
    six : T (not (exists w e)) → Why 6
    seven : T (exists w e) → T (not (rule w e).allowed) → Why 7
    eight : T (exists w e) → T (rule w e).allowed → T (rule w e).over → Why 8
    nine : T (exists w e) → T (rule w e).allowed → T (not (rule w e).over) → T (not (fits w e)) → Why 9

  -- by what it comes to at its station (station's Rules), and the room for letters
  abbrev there : Condition
  there = (holding_at w (concerned w e)).condition

  abbrev numbered : ℕ → ℕ
  numbered n = if eqb n 0 then (if fits w e then 0 else 9) else n

  why_by : {n : ℕ} → R.Why (exists w e) (rule w e) n → Why (numbered n)
  why_by (R.none p q o) = if_elim Why (fits w e) (none p q o) (nine p q o)
  why_by (R.six p) = six p
  why_by (R.seven p q) = seven p q
  why_by (R.eight p q o) = eight p q o

  refusal_by : {n : ℕ} → R.Why (exists w e) (rule w e) n → refusal w e ≡ numbered n
  unfolding refusal comes
  refusal_by y = ap numbered (why_due (exists w e) (rule w e) there y)

  -- only then: the number is given for its reason
  pub refusal_why : Why (refusal w e)
  unfolding refusal comes
  refusal_why = why_by (due_why (exists w e) (rule w e) there)

  -- when: where the reason holds, the number is given
  pub why_refusal : {n : ℕ} → Why n → refusal w e ≡ n
  why_refusal (none p q r t) = refusal_by (R.none p q r) ∙ simp (T_is (fits w e) t)
  why_refusal (six p) = refusal_by (R.six p)
  why_refusal (seven p q) = refusal_by (R.seven p q)
  why_refusal (eight p q r) = refusal_by (R.eight p q r)
  why_refusal (nine p q r t) = refusal_by (R.none p q r) ∙ simp (T_not_is (fits w e) t)

  -- the same by the number that it comes to at its station: that one, and 0 only if there is room
  pub refused_there : ((comes w e).number ≡ 0 → ⊥) → refusal w e ≡ (comes w e).number
  unfolding refusal
  refused_there n = ap (λ (b : Bool). if b then (if fits w e then 0 else 9) else (comes w e).number) (ne_eqb (comes w e).number 0 n)

  pub passes_there : (comes w e).number ≡ 0 → refusal w e ≡ (if fits w e then 0 else 9)
  unfolding refusal
  passes_there z = ap (λ (b : Bool). if b then (if fits w e then 0 else 9) else (comes w e).number) (eq-eqb (comes w e).number 0 z)

  -- the room: the letters that stay and those that are sent
  pub fits_is : fits w e ≡ leb (length (left w e) + length (done w e).sent) letter_room
  unfolding fits after
  fits_is = ap (λ (n : ℕ). leb n letter_room) (length-append (left w e) (done w e).sent)

  -- ---- an event that its station does not refuse: there is what it names, it is allowed, no counter would be 65,536, and it comes to
  -- what the rule of its kind does and counts
  pub record Passes : Type 0 where
    pub exists : T (exists w e)
    pub allowed : T (rule w e).allowed
    pub holds : T (not (rule w e).over)
    pub done : done w e ≡ done_by w.net (concerned w e) (holding_at w (concerned w e)) (rule w e).act
    pub counts : (comes w e).counts ≡ (rule w e).counts

  passes_by : {n : ℕ} → R.Why (exists w e) (rule w e) n → n ≡ 0 → Passes
  unfolding comes done
  passes_by (R.none p q o) z =
      let c = due_done (exists w e) (rule w e) there p q o in
      record {
        exists = p;
        allowed = q;
        holds = o;
        done = ap (λ (x : Due). done_by w.net (concerned w e) (holding_at w (concerned w e)) x.act) c;
        counts = ap (λ (x : Due). x.counts) c;
      }
  passes_by (R.six p) z = absurd (omega arith)
  passes_by (R.seven p q) z = absurd (omega arith)
  passes_by (R.eight p q o) z = absurd (omega arith)

  pub passes : (comes w e).number ≡ 0 → Passes
  unfolding comes
  passes z = passes_by (due_why (exists w e) (rule w e) there) z

  number_by : {n : ℕ} → R.Why (exists w e) (rule w e) n → numbered n ≡ 0 → n ≡ 0
  number_by (R.none p q o) z = refl
  number_by (R.six p) z = absurd (omega arith)
  number_by (R.seven p q) z = absurd (omega arith)
  number_by (R.eight p q o) z = absurd (omega arith)

  -- every accepted event is such a one
  pub accepted_passes : refusal w e ≡ 0 → (comes w e).number ≡ 0
  unfolding refusal comes
  accepted_passes z = number_by (due_why (exists w e) (rule w e) there) z

  -- there is no such thing: 6, whatever station was looked at, and nothing is done
  pub absent_six : T (not (exists w e)) → comes w e ≡ refusing 6 there
  unfolding comes
  absent_six n = R.due_six (exists w e) (rule w e) there n

  -- ---- the step by its number
  pub is_accepted : refusal w e ≡ 0 → accepted w e ≡ true
  is_accepted p = eq-eqb (refusal w e) 0 p

  pub accepted_zero : accepted w e ≡ true → refusal w e ≡ 0
  accepted_zero p = eqb→eq (refusal w e) 0 (subst⁻¹ T p tt)

  pub step_accepts : refusal w e ≡ 0 → next w e ≡ after w e
  step_accepts p = ap (λ (b : Bool). if b then after w e else w) (is_accepted p)

  -- a refusal hands back the world it was given
  pub is_refused : (refusal w e ≡ 0 → ⊥) → accepted w e ≡ false
  is_refused n = ne_eqb (refusal w e) 0 n

  pub step_refuses : (refusal w e ≡ 0 → ⊥) → next w e ≡ w
  step_refuses n = ap (λ (b : Bool). if b then after w e else w) (is_refused n)

  -- ---- an accepted event: nothing refuses it, what it comes to is what the rule of its kind does and counts, and there is room
  pub record Taken : Type 0 where
    pub exists : T (exists w e)
    pub allowed : T (rule w e).allowed
    pub holds : T (not (rule w e).over)
    pub done : done w e ≡ done_by w.net (concerned w e) (holding_at w (concerned w e)) (rule w e).act
    pub counts : (comes w e).counts ≡ (rule w e).counts
    pub room : length (after w e).letters ≤ letter_room

  why_fits : {n : ℕ} → Why n → n ≡ 0 → T (fits w e)
  why_fits (none p q r t) z = t
  why_fits (six p) z = absurd (omega arith)
  why_fits (seven p q) z = absurd (omega arith)
  why_fits (eight p q r) z = absurd (omega arith)
  why_fits (nine p q r t) z = absurd (omega arith)

  pub taken : refusal w e ≡ 0 → Taken
  unfolding fits
  taken z =
      let p = passes (accepted_passes z) in
      record {
        exists = p.exists;
        allowed = p.allowed;
        holds = p.holds;
        done = p.done;
        counts = p.counts;
        room = leb→le (length (after w e).letters) letter_room (why_fits refusal_why z);
      }

  -- the network stays
  pub after_net : (after w e).net ≡ w.net
  unfolding after
  after_net = refl

-- ---- event 7 at a receiver that isn't live, or is quiet on that link: the letter is gone and nothing else happens, as in event 8
module _ (w : World) (a b : ℕ) where
  abbrev to : ℕ
  to = receiver_in w.net (letter_at w a)

  abbrev deaf : Bool
  deaf = not (heard (letter_at w a) (holding_at w to))

  pub unheard_is_lost : T deaf → comes w (record { kind = 7; a = a; b = b }) ≡ comes w (record { kind = 8; a = a; b = b })
  unfolding comes exists rule concerned
  unheard_is_lost t = ap (λ (r : Rule). due_of (exists_as Delivery w.net (length w.letters) a b) r (holding_at w to).condition)
      (Tallies.unheard_is_lost to b (letter_at w a) (holding_at w to) t)

  pub unheard_leaves : T deaf → after w (record { kind = 7; a = a; b = b }) ≡ after w (record { kind = 8; a = a; b = b })
  unfolding after done left concerned
  unheard_leaves t = rw (unheard_is_lost t)

-- ---- the report and the reach: 6 for no such station, 7 for one that isn't live, else 0
module _ (w : World) (s : ℕ) where
  abbrev real : Bool
  real = ltb s w.net.stations

  abbrev live : Bool
  live = is_live (holding_at w s).condition

  pub data AskWhy : ℕ → Type 0 where
    none : T real → T live → AskWhy 0
    six : T (not real) → AskWhy 6
    seven : T real → T (not live) → AskWhy 7

  pub ask_why : AskWhy (ask_refusal w s)
  unfolding ask_refusal
  ask_why =
      if_elim AskWhy (not real) six (λ x. let p = T_not-not real x in if_elim AskWhy (not live) (seven p) (λ y. none p (T_not-not live y)))

  pub why_ask : {n : ℕ} → AskWhy n → ask_refusal w s ≡ n
  unfolding ask_refusal
  why_ask (none p q) = simp (T_is real p, T_is live q)
  why_ask (six p) = simp (T_not_is real p)
  why_ask (seven p q) = simp (T_is real p, T_not_is live q)
