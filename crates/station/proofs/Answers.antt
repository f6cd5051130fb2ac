-- The receiver's answer to a letter: when it is which, by what the letter carries, and what each answer says of the station and the
-- letter.
use Rattle.std.specs.Prelude.{if◌then◌else◌}
use Prim.Native.Nat.{ℕ, ◌≤◌, ◌<◌}
use mathlib.Core.Bool.{Bool, true, not, ◌&&◌, ◌||◌}
use mathlib.Core.Path.{◌≡◌, refl, ap, ◌∙◌, subst⁻¹}
use lib.Dec.{T, eqb, ltb, ltb→lt}
use lib.ListN.{length}
use Rattle.lists.proofs.Tests.{T_is, T_not_is, and_l, and_r, if_elim}
use Rattle.net.specs.declared.Body.{Body}
use Rattle.net.specs.declared.Body.TheVariants.{Request, Reply, Notice}
use Rattle.net.specs.declared.Letter.{Letter}
use Rattle.net.specs.Network.{Network, is_end}
use Rattle.net.specs.Letters.{is_counter, body_holds, letter_holds}
use Rattle.std.specs.Prelude.{Option, Some, None}
use Rattle.counters.specs.Counters.{even, odd, healed, healing, newer}
use Rattle.station.specs.declared.Effect.{Effect}
use Rattle.station.specs.declared.Effect.TheVariants.{Defers, Answers, Heals, Levels, Equal, Takes}
use Rattle.station.specs.declared.Heard.{Heard}
use Rattle.station.specs.declared.Heard.TheVariants.{Gone, Nothing, Overflows, Does}
use Rattle.station.specs.Holding.{Holding, counter, mark}
use Rattle.station.specs.Acts.{hears, replied_by, body_answer, subject_of}
use Rattle.station.proofs.Doing.{answer}
use Rattle.station.proofs.Slots.{counter_healed, healed_above, healed_works}

-- the letter is heard: the receiver is live and not quiet on its link
abbrev pub heard : Letter → Holding → Bool
heard x h = hears h.condition (mark h x.link)

module _ (s : ℕ) (x : Letter) (h : Holding) where
  abbrev own : ℕ
  own = counter h x.link

  abbrev tests : Bool
  tests = (mark h x.link).testing

  abbrev by_body : Body → Heard
  by_body b = body_answer s x.sender (mark h x.link) (counter h x.link) (counter h (subject_of b)) b

  -- ---- gone, or by its body
  pub answer_gone : T (not (heard x h)) → answer s x h ≡ Gone
  unfolding answer
  answer_gone t = rw (T_not_is (heard x h) t) refl

  answer_body : (b : Body) → x.body ≡ b → T (heard x h) → answer s x h ≡ by_body b
  unfolding answer
  answer_body b e t = rw (T_is (heard x h) t) (ap by_body e)

  by_hearing : (P : Heard → Type 0) (b : Body) → x.body ≡ b → (T (not (heard x h)) → P Gone) → (T (heard x h) → P (by_body b))
      → P (answer s x h)
  unfolding answer
  by_hearing P b e gone here = if_elim P (heard x h) (λ t. subst⁻¹ (λ (b : Body). P (by_body b)) e (here t)) gone

  -- ---- a request: of two testers the higher-numbered puts it off
  pub request_cases : (P : Heard → Type 0) → x.body ≡ Request → (T (not (heard x h)) → P Gone)
      → (T (heard x h) → T ((mark h x.link).testing && ltb x.sender s) → P (Does Defers))
      → (T (heard x h) → T (not ((mark h x.link).testing && ltb x.sender s)) → P (Does Answers)) → P (answer s x h)
  request_cases P e gone defers answers = by_hearing P Request e gone (λ t. if_elim P (tests && ltb x.sender s) (defers t) (answers t))

  -- ---- a notice: taken if it is newer
  pub notice_cases : (P : Heard → Type 0) (j c : ℕ) → x.body ≡ Notice j c → (T (not (heard x h)) → P Gone)
      → (T (heard x h) → T (not (newer (counter h j) c)) → P Nothing)
      → (T (heard x h) → T (newer (counter h j) c) → P (Does (Takes j c))) → P (answer s x h)
  notice_cases P j c e gone old takes = by_hearing P (Notice j c) e gone (λ t. if_elim P (newer (counter h j) c) (takes t) (old t))

  pub notice_taken : (j c : ℕ) → x.body ≡ Notice j c → T (heard x h) → T (newer (counter h j) c) → answer s x h ≡ Does (Takes j c)
  notice_taken j c e t u =
      answer_body (Notice j c) e t ∙ ap (λ (b : Bool). if b then Does (Takes j c) else Nothing) (T_is (newer (counter h j) c) u)

  pub notice_old : (j c : ℕ) → x.body ≡ Notice j c → T (heard x h) → T (not (newer (counter h j) c)) → answer s x h ≡ Nothing
  notice_old j c e t u =
      answer_body (Notice j c) e t ∙ ap (λ (b : Bool). if b then Does (Takes j c) else Nothing) (T_not_is (newer (counter h j) c) u)

  -- ---- a reply: nothing without a test; to a test it overflows, or heals where either counter was odd, levels, or finds them equal
  module _ (c : ℕ) (e : x.body ≡ Reply c) where
    abbrev over : Bool
    over = ltb 65535 (healed own c)

    abbrev by_healing : Bool → Heard
    by_healing b = replied_by own c (if b then None else Some (healed own c))

    pub reply_cases : (P : Heard → Type 0) → (T (not (heard x h)) → P Gone)
        → (T (heard x h) → T (not (mark h x.link).testing) → P Nothing)
        → (T (heard x h) → T (mark h x.link).testing → T (ltb 65535 (healed (counter h x.link) c)) → P Overflows)
        → (T (heard x h) → T (mark h x.link).testing → T (not (ltb 65535 (healed (counter h x.link) c)))
        → P (if odd (counter h x.link) || odd c then Does (Heals (healed (counter h x.link) c))
        else (if eqb (counter h x.link) c then Does Equal
        else Does (Levels (healed (counter h x.link) c))))) → P (answer s x h)
    unfolding healing
    reply_cases P gone idle too fits =
        by_hearing P (Reply c) e gone
        (λ t. if_elim P tests (λ u. if_elim (λ (y : Option ℕ). P (replied_by own c y)) over (too t u) (fits t u)) (idle t))

    pub reply_idle : T (heard x h) → T (not (mark h x.link).testing) → answer s x h ≡ Nothing
    reply_idle t u =
        answer_body (Reply c) e t ∙ ap (λ (b : Bool). if b then replied_by own c (healing own c) else Nothing) (T_not_is tests u)

    tested : T (heard x h) → T (mark h x.link).testing → answer s x h ≡ by_healing over
    unfolding healing
    tested t u = answer_body (Reply c) e t ∙ ap (λ (b : Bool). if b then replied_by own c (healing own c) else Nothing) (T_is tests u)

    pub reply_over : T (heard x h) → T (mark h x.link).testing → T (ltb 65535 (healed (counter h x.link) c))
        → answer s x h ≡ Overflows
    reply_over t u v = tested t u ∙ ap by_healing (T_is over v)

    module _ (t : T (heard x h)) (u : T (mark h x.link).testing) (v : T (not (ltb 65535 (healed (counter h x.link) c)))) where
      pub reply_tested : answer s x h ≡ (if odd (counter h x.link) || odd c then Does (Heals (healed (counter h x.link) c))
          else (if eqb (counter h x.link) c then Does Equal
          else Does (Levels (healed (counter h x.link) c))))
      reply_tested = tested t u ∙ ap by_healing (T_not_is over v)

      pub reply_heals : T (odd (counter h x.link) || odd c) → answer s x h ≡ Does (Heals (healed (counter h x.link) c))
      reply_heals w = reply_tested ∙ rw (T_is (odd own || odd c) w) refl

      -- both even
      pub reply_even : T (not (odd (counter h x.link) || odd c))
          → answer s x h ≡ (if eqb (counter h x.link) c then Does Equal else Does (Levels (healed (counter h x.link) c)))
      reply_even w = reply_tested ∙ rw (T_not_is (odd own || odd c) w) refl

      pub reply_equals : T (not (odd (counter h x.link) || odd c)) → T (eqb (counter h x.link) c) → answer s x h ≡ Does Equal
      reply_equals w q = reply_even w ∙ rw (T_is (eqb own c) q) refl

      pub reply_levels : T (not (odd (counter h x.link) || odd c)) → T (not (eqb (counter h x.link) c))
          → answer s x h ≡ Does (Levels (healed (counter h x.link) c))
      reply_levels w q = reply_even w ∙ rw (T_not_is (eqb own c) q) refl

-- ---- what an effect on link k says: a reply is to a test, and its new counter is even and not below the own one; a notice is newer
pub record Replied (k c : ℕ) (h : Holding) : Type 0 where
  pub testing : T (mark h k).testing
  pub above : counter h k ≤ c
  pub works : T (even c)
  pub range : T (is_counter c)

pub record Newer (net : Network) (j c : ℕ) (h : Holding) : Type 0 where
  pub there : j < length net.links
  pub above : counter h j < c
  pub range : T (is_counter c)

abbrev pub EffectFits : Network → ℕ → Holding → Effect → Type 0
EffectFits net k h Defers = T (mark h k).testing
EffectFits net k h Answers = T true
EffectFits net k h (Heals c) = Replied k c h
EffectFits net k h (Levels c) = Replied k c h
EffectFits net k h Equal = T (mark h k).testing
EffectFits net k h (Takes j c) = Newer net j c h

-- what has an effect is heard
abbrev pub HeardFits : Network → ℕ → Holding → Heard → Type 0
HeardFits net k h Gone = T true
HeardFits net k h Nothing = T true
HeardFits net k h Overflows = T true
HeardFits net k h (Does e) = T (hears h.condition (mark h k)) × EffectFits net k h e

-- the link of a letter that may travel is there
pub letter_link : (net : Network) (x : Letter) → T (letter_holds net x) → x.link < length net.links
unfolding letter_holds
letter_link net x t =
    let there = ltb x.link (length net.links) in
    ltb→lt x.link _ (and_l there _ (and_l (there && is_end net x.link x.sender) _ t))

-- so for every letter that may travel, on a link with a good counter
module _ (net : Network) (s : ℕ) (x : Letter) (h : Holding) where
  abbrev Fits : Heard → Type 0
  Fits = HeardFits net x.link h

  body_fits : T (is_counter (counter h x.link)) → (b : Body) → x.body ≡ b → T (body_holds net b) → Fits (answer s x h)
  body_fits r Request e p = request_cases s x h Fits e (λ t. tt) (λ t u. (t, and_l (mark h x.link).testing _ u)) (λ t u. (t, tt))
  body_fits r (Reply c) e p =
      reply_cases s x h c e Fits (λ t. tt) (λ t u. tt) (λ t u v. tt)
      (λ t u v. if_elim Fits (odd (counter h x.link) || odd c) (λ w. (t, replied u v))
      (λ w. if_elim Fits (eqb (counter h x.link) c) (λ q. (t, u)) (λ q. (t, replied u v))))
    where
      replied : T (mark h x.link).testing → T (not (ltb 65535 (healed (counter h x.link) c)))
          → Replied x.link (healed (counter h x.link) c) h
      replied u v =
          record {
            testing = u;
            above = (healed_above (counter h x.link) c).0;
            works = healed_works (counter h x.link) c;
            range = counter_healed (counter h x.link) c r v;
          }
  body_fits r (Notice j c) e p =
      notice_cases s x h Fits j c e (λ t. tt) (λ t u. tt)
      (λ t u. (
        t,
        record {
          there = ltb→lt j _ (and_l (ltb j (length net.links)) _ p);
          above = ltb→lt (counter h j) c u;
          range = and_r
              (ltb j (length net.links)) _ p;
        },
      ))

  pub answer_fits : T (is_counter (counter h x.link)) → T (letter_holds net x) → HeardFits net x.link h (answer s x h)
  unfolding letter_holds
  answer_fits r t = body_fits r x.body refl (and_r (ltb x.link (length net.links) && is_end net x.link x.sender) _ t)
