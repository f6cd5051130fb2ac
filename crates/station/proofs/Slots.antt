-- One link at a station: its condition, whether the link is an own one, the counter and the marks. What of its well-formedness
-- stays when the counter or the marks are set anew. A rule of marks is tested at all 32 of them by computation.
use Rattle.std.specs.Prelude.{if◌then◌else◌}
use Prim.Native.Nat.{ℕ, ◌+◌, ◌%◌, ◌≤◌, max}
use mathlib.Core.Bool.{Bool, true, false, not, ◌&&◌, ◌||◌}
use mathlib.Core.Path.{◌≡◌, refl, subst⁻¹}
use native.Mathlib.Omega.{arith}
use lib.Dec.{T, T_not, eqb, leb, ltb, leb→le, le→leb, eqb→eq, nltb→le}
use Rattle.lists.proofs.Tests.{T_is, and_l, and_r, and_i, or_left, eq→eqb, if_elim}
use Rattle.net.specs.Letters.{is_counter}
use Rattle.counters.specs.Counters.{even, odd, healed}
use Rattle.marks.specs.declared.Marks.{Marks}
use Rattle.station.specs.declared.Condition.{Condition}
use Rattle.station.specs.declared.Condition.TheVariants.{Down, Waiting, Live}
use Rattle.station.specs.Holding.{no_marks, is_live, is_waiting, is_down, set_token, implies, together, is_off, is_token_alone}
use Rattle.station.specs.Holding.{condition_holds, slot_holds}
use Rattle.station.specs.Acts.{interval_marks}

-- ---- a test that passes at all 32 marks passes at each
abbrev pub both_bool : (Bool → Bool) → Bool
both_bool p = p true && p false

both_at : (p : Bool → Bool) → T (both_bool p) → (b : Bool) → T (p b)
both_at p t true = and_l (p true) _ t
both_at p t false = and_r (p true) _ t

abbrev pub all_marks : (Marks → Bool) → Bool
all_marks p =
    both_bool (λ a. both_bool (λ b. both_bool (λ c. both_bool
    (λ d. both_bool (λ e. p (record { token = a; turn = b; testing = c; asked = d; quiet = e }))))))

marks_at_lem : (p : Marks → Bool) → T (all_marks p) → (m : Marks) → T (p m)
marks_at_lem p t m =
    both_at (λ e. p (record { token = m.token; turn = m.turn; testing = m.testing; asked = m.asked; quiet = e }))
    (both_at (λ d. both_bool (λ e. p (record { token = m.token; turn = m.turn; testing = m.testing; asked = d; quiet = e })))
    (both_at (λ c. both_bool (λ d. both_bool (λ e. p (record { token = m.token; turn = m.turn; testing = c; asked = d; quiet = e }))))
    (both_at (λ b. both_bool (λ c. both_bool (λ d. both_bool
    (λ e. p (record { token = m.token; turn = b; testing = c; asked = d; quiet = e })))))
    (both_at (λ a. both_bool (λ b. both_bool (λ c. both_bool
    (λ d. both_bool (λ e. p (record { token = a; turn = b; testing = c; asked = d; quiet = e }))))))
    t m.token) m.turn) m.testing) m.asked) m.quiet

imp_at : (a b : Bool) → T (implies a b) → T a → T b
imp_at true b t u = t
imp_at false b t u = absurd u

-- a rule of marks: where p passes, q does
pub rule : (p q : Marks → Bool) → T (all_marks (λ m. implies (p m) (q m))) → (m : Marks) → T (p m) → T (q m)
rule p q t m u = imp_at (p m) (q m) (marks_at_lem (λ m. implies (p m) (q m)) t m) u

-- ---- the four parts of a slot's test
module _ (x : Condition) (own : Bool) (c : ℕ) (m : Marks) where
  pub slot_counter : T (slot_holds x own c m) → T (is_counter c)
  slot_counter t = and_l (is_counter c) _ (and_l (is_counter c && together m) _ (and_l (is_counter c && together m && (own || is_off m)) _ t))

  pub slot_together : T (slot_holds x own c m) → T (together m)
  slot_together t = and_r (is_counter c) _ (and_l (is_counter c && together m) _ (and_l (is_counter c && together m && (own || is_off m)) _ t))

  slot_foreign : T (slot_holds x own c m) → T (own || is_off m)
  slot_foreign t = and_r (is_counter c && together m) _ (and_l (is_counter c && together m && (own || is_off m)) _ t)

  slot_condition : T (slot_holds x own c m) → T (condition_holds x own c m)
  slot_condition t = and_r (is_counter c && together m && (own || is_off m)) _ t

  slot_of : T (is_counter c) → T (together m) → T (own || is_off m) → T (condition_holds x own c m) → T (slot_holds x own c m)
  slot_of p q r s =
      and_i (is_counter c && together m && (own || is_off m)) _ (and_i (is_counter c && together m) _ (and_i (is_counter c) _ p q) r) s

live_condition : (x : Condition) (own : Bool) (c : ℕ) (m : Marks) → T (is_live x) → T (condition_holds x own c m)
live_condition Down own c m l = absurd l
live_condition Waiting own c m l = absurd l
live_condition Live own c m l = tt

-- ---- a live station: any counter, and on an own link any marks that may stand together
pub own_slot : (x : Condition) (own : Bool) (c : ℕ) (m : Marks) → T (is_live x) → T own → T (is_counter c) → T (together m)
    → T (slot_holds x own c m)
own_slot x own c m l h p q = slot_of x own c m p q (or_left own (is_off m) h) (live_condition x own c m l)

pub slot_recount : (x : Condition) (own : Bool) (c d : ℕ) (m : Marks) → T (is_live x) → T (is_counter d) → T (slot_holds x own c m)
    → T (slot_holds x own d m)
slot_recount x own c d m l p t = slot_of x own d m p (slot_together x own c m t) (slot_foreign x own c m t) (live_condition x own d m l)

-- ---- any station: a counter may be set to 1
condition_one : (x : Condition) (own : Bool) (c : ℕ) (m : Marks) → T (condition_holds x own c m) → T (condition_holds x own 1 m)
condition_one Down own c m t = and_r (eqb c 1) _ t
condition_one Waiting own c m t = and_r (eqb c 1) _ t
condition_one Live own c m t = tt

pub slot_one : (x : Condition) (own : Bool) (c : ℕ) (m : Marks) → T (slot_holds x own c m) → T (slot_holds x own 1 m)
slot_one x own c m t =
    slot_of x own 1 m tt (slot_together x own c m t) (slot_foreign x own c m t) (condition_one x own c m (slot_condition x own c m t))

-- ---- testing or quiet stands only at a live station
abbrev pub busy : Marks → Bool
busy m = m.testing || m.quiet

waiting_idle : (own : Bool) (m : Marks) → T (own || is_off m) → T (implies own (is_token_alone m)) → T (not (busy m))
waiting_idle true m t u = rule is_token_alone (λ m. not (busy m)) tt m u
waiting_idle false m t u = rule is_off (λ m. not (busy m)) tt m t

pub busy_live : (x : Condition) (own : Bool) (c : ℕ) (m : Marks) → T (slot_holds x own c m) → T (busy m) → T (is_live x)
busy_live Down own c m t b =
    absurd (T_not (busy m) (rule is_off (λ m. not (busy m)) tt m (and_r (eqb c 1) _ (slot_condition Down own c m t))) b)
busy_live Waiting own c m t b =
    absurd (T_not (busy m) (waiting_idle own m (slot_foreign Waiting own c m t) (and_r (eqb c 1) _ (slot_condition Waiting own c m t))) b)
busy_live Live own c m t b = tt

-- ---- a change of the condition
pub stopped_slot : (own : Bool) → T (slot_holds Down own 1 no_marks)
stopped_slot true = tt
stopped_slot false = tt

-- down to waiting: token alone on each own link
pub started_slot : (x : Condition) (own : Bool) (c : ℕ) (m : Marks) → T (is_down x) → T (slot_holds x own c m)
    → T (slot_holds Waiting own c (if own then set_token true no_marks else no_marks))
started_slot Waiting own c m d t = absurd d
started_slot Live own c m d t = absurd d
started_slot Down true c m d t =
    slot_of Waiting true c (set_token true no_marks) (slot_counter Down true c m t) tt tt
    (and_i (eqb c 1) _ (and_l (eqb c 1) _ (slot_condition Down true c m t)) tt)
started_slot Down false c m d t =
    slot_of Waiting false c no_marks (slot_counter Down false c m t) tt tt
    (and_i (eqb c 1) _ (and_l (eqb c 1) _ (slot_condition Down false c m t)) tt)

-- waiting to live: an interval's work on each own link
pub recovered_slot : (x : Condition) (own : Bool) (c : ℕ) (m : Marks) → T (is_waiting x) → T (slot_holds x own c m)
    → T (slot_holds Live own c (if own then interval_marks m else m))
recovered_slot Down own c m w t = absurd w
recovered_slot Live own c m w t = absurd w
recovered_slot Waiting true c m w t =
    slot_of Live true c (interval_marks m) (slot_counter Waiting true c m t)
    (rule is_token_alone (λ m. together (interval_marks m)) tt m (and_r (eqb c 1) _ (slot_condition Waiting true c m t))) tt tt
recovered_slot Waiting false c m w t =
    slot_of Live false c m (slot_counter Waiting false c m t) (slot_together Waiting false c m t) (slot_foreign Waiting false c m t) tt

-- ---- a counter that is raised stays in its range
pub counter_range : (c : ℕ) → T (is_counter c) → (1 ≤ c) × (c ≤ 65535)
counter_range c t = (leb→le 1 c (and_l (leb 1 c) _ t), leb→le c 65535 (and_r (leb 1 c) _ t))

range_counter : (c : ℕ) → 1 ≤ c → c ≤ 65535 → T (is_counter c)
range_counter c p q = and_i (leb 1 c) _ (le→leb 1 c p) (le→leb c 65535 q)

-- an even counter is below 65,535
pub counter_next : (c : ℕ) → T (is_counter c) → T (even c) → T (is_counter (c + 1))
counter_next c t e = let r = counter_range c t in range_counter (c + 1) (omega arith) (omega (arith, eqb→eq (c % 2) 0 e))

-- unless it would be 65,536
pub counter_healed : (o c : ℕ) → T (is_counter o) → T (not (ltb 65535 (healed o c))) → T (is_counter (healed o c))
unfolding healed
counter_healed o c t u =
    range_counter (healed o c)
    (if_elim (λ (h : ℕ). 1 ≤ h) (even (max o c)) (λ e. omega (arith, counter_range o t)) (λ e. omega arith))
    (nltb→le 65535 (healed o c) u)

-- the larger of the two, or one more: above both, and even
pub healed_above : (o c : ℕ) → (o ≤ healed o c) × (c ≤ healed o c)
unfolding healed
healed_above o c =
    if_elim (λ (m : ℕ). (o ≤ m) × (c ≤ m)) (even (max o c)) (λ e. (omega arith, omega arith)) (λ e. (omega arith, omega arith))

pub healed_works : (o c : ℕ) → T (even (healed o c))
unfolding healed
healed_works o c = if_elim (λ (m : ℕ). T (even m)) (even (max o c)) (λ e. e) (λ e. above (max o c) e)
  where
    above : (m : ℕ) → T (odd m) → T (even (m + 1))
    above m e = let n : m % 2 ≡ 0 → ⊥ = (λ q. T_not (even m) e (eq→eqb (m % 2) 0 q)) in eq→eqb ((m + 1) % 2) 0 (omega arith)

-- of two even ones that are equal it is the same
pub healed_equal : (o c : ℕ) → T (even o) → o ≡ c → healed o c ≡ o
unfolding healed
healed_equal o c e q =
    let m : max o c ≡ o = omega arith in
    subst⁻¹ (λ (n : ℕ). (if even n then n else n + 1) ≡ o) m (rw (T_is (even o) e) refl)
