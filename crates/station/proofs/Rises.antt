-- Which act changes which counter, and which way: only a timeout, a reply and a notice do, each at one link, before a purge that
-- lowers others to 1. A stop sets all to 1, and no counter is below that. How many are higher: Rules.
use Prim.Native.Nat.{ℕ, zero, suc, ◌+◌, ◌≤◌, ◌<◌}
use mathlib.Core.Bool.{Bool, true, false, not, ◌||◌}
use mathlib.Core.Path.{◌≡◌, refl, sym, ap, ◌∙◌, subst, subst⁻¹}
use mathlib.Core.Logic.{inl, ◌≢◌}
use mathlib.Core.List.{List, [], ◌∷◌, map}
use native.Mathlib.Decide.{dec_lt, ℕ_discrete}
use native.Mathlib.Omega.{arith}
use lib.Dec.{T, eqb, ltb, ltb→lt, eqb→eq}
use lib.ListN.{length, get_or, set, get_or-eq_default}
use lib.Seq.{get_or-set_same, get_or-set_other, set-get_or}
use Rattle.lists.proofs.Tests.{T_is, T_not_is, if_elim}
use Rattle.net.specs.declared.Body.TheVariants.{Request, Reply, Notice}
use Rattle.net.specs.declared.Letter.{Letter}
use Rattle.net.specs.Network.{Network, is_end, link_numbers}
use Rattle.counters.specs.Counters.{even, odd, healed, newer}
use Rattle.reach.specs.Reach.{counter_in}
use Rattle.station.specs.declared.Effect.TheVariants.{Defers, Answers, Heals, Levels, Equal, Takes}
use Rattle.station.specs.declared.Heard.{Heard}
use Rattle.station.specs.declared.Heard.TheVariants.{Gone, Nothing, Overflows, Does}
use Rattle.station.specs.Holding.{Holding, counter, mark, holding_holds}
use Rattle.station.specs.Done.{Done, done_by}
use Rattle.station.proofs.Doing.{unchanged, stopped, purged, started, recovered, interval, timeout, spoken, answer, effect_on}
use Rattle.station.proofs.Doing.{heard_on}
use Rattle.station.proofs.Doing.{received}
use Rattle.station.proofs.Slots.{slot_counter, counter_range, healed_above, healed_works, healed_equal}
use Rattle.station.proofs.Purges.{Lowered, lowered_le, purged_lowers, purged_own}
use Rattle.station.proofs.Answers as A
use Rattle.station.proofs.Answers.{heard, answer_gone, request_cases, notice_taken, notice_old}
use Rattle.station.proofs.HoldingLaws.{formed}

both_even : (a b : Bool) → T (not (not a || b)) → T a
both_even true b t = tt
both_even false b t = absurd t

module _ (net : Network) (s : ℕ) where
  -- ---- acts that change no counter: start, recovery, interval, quiet end, a request, an equal reply
  module _ (h : Holding) where
    pub started_table : (started net s h).holding.table ≡ h.table
    unfolding done_by
    started_table = refl

    pub recovered_table : (recovered net s h).holding.table ≡ h.table
    unfolding done_by
    recovered_table = refl

    pub interval_table : (k : ℕ) → (interval net s k h).holding.table ≡ h.table
    unfolding done_by
    interval_table k = refl

    pub spoken_table : (k : ℕ) → (spoken net s k h).holding.table ≡ h.table
    unfolding done_by
    spoken_table k = refl

    pub defers_table : (k : ℕ) → (effect_on net s k h Defers).holding.table ≡ h.table
    unfolding done_by
    defers_table k = refl

    pub answers_table : (k : ℕ) → (effect_on net s k h Answers).holding.table ≡ h.table
    unfolding done_by
    answers_table k = refl

    pub equal_table : (k : ℕ) → (effect_on net s k h Equal).holding.table ≡ h.table
    unfolding done_by
    equal_table k = refl

  -- a stop sets every counter to 1
  pub stopped_table : (j : ℕ) → counter (stopped net s).holding j ≡ 1
  unfolding done_by
  stopped_table j = ones (link_numbers net) j
    where
      ones : (xs : List ℕ) (j : ℕ) → ◌≡◌ {A = ℕ} (get_or (map (λ k. 1) xs) j 1) 1
      ones [] j = refl
      ones (x ∷ xs) zero = refl
      ones (x ∷ xs) (suc j) = ones xs j

  -- no counter is below 1
  pub counter_positive : (h : Holding) → T (holding_holds net s h) → (j : ℕ) → 1 ≤ counter h j
  counter_positive h ok j = go (dec_lt j (length net.links))
    where
      go : Dec (j < length net.links) → 1 ≤ counter h j
      go (yes l) =
          (counter_range (counter h j) (slot_counter h.condition (is_end net j s) (counter h j) (mark h j)
          ((formed net s h ok).slots j l))).0
      go (no l) = omega (arith, get_or-eq_default h.table 1 {n = j} (omega (arith, (formed net s h ok).table_length)))

  -- so a stop raises none
  pub stopped_lowers : (h : Holding) → T (holding_holds net s h) → (j : ℕ) → counter (stopped net s).holding j ≤ counter h j
  stopped_lowers h ok j = omega (arith, stopped_table j, counter_positive h ok j)

  -- ---- acts that set the counter of an own link k
  -- k's counter is c after it, and each other is as it was or, by the purge, 1
  pub record Sets (k c : ℕ) (h : Holding) (d : Done) : Type 0 where
    pub own : counter d.holding k ≡ c
    pub others : (j : ℕ) → j ≢ k → Lowered (counter h j) (counter d.holding j)

  -- no counter but k's is higher than before
  pub one_rises : (h : Holding) → T (holding_holds net s h) → {k c : ℕ} {d : Done} → Sets k c h d → (j : ℕ)
      → counter h j < counter d.holding j → j ≡ k
  one_rises h ok {k} {c} {d} p j r = go (ℕ_discrete j k)
    where
      go : Dec (j ≡ k) → j ≡ k
      go (yes e) = e
      go (no n) = absurd (omega (arith, lowered_le (counter h j) (counter d.holding j) (counter_positive h ok j) (p.others j n)))

  module _ (h : Holding) (ok : T (holding_holds net s h)) (k : ℕ) (l : k < length net.links) where
    in_table : k < length h.table
    in_table = subst⁻¹ (λ (n : ℕ). k < n) (formed net s h ok).table_length l

    set_own : (c : ℕ) → counter_in (set h.table k c) k ≡ c
    set_own c = get_or-set_same h.table k c 1 in_table

    sets : (c : ℕ) (d : Done) → d.holding.table ≡ set h.table k c → Sets k c h d
    sets c d e =
        record {
          own = ap (λ (t : List ℕ). counter_in t k) e ∙ set_own c;
          others = λ j n. inl (ap (λ (t : List ℕ). counter_in t j) e ∙ get_or-set_other h.table k j c 1 n);
        }

    -- a reply that levels
    pub levels_sets : (c : ℕ) → Sets k c h (effect_on net s k h (Levels c))
    unfolding done_by
    levels_sets c = sets c _ refl

    -- with a purge after it
    module _ (real : s < net.stations) (o : T (is_end net k s)) where
      sets_purged : (c : ℕ) (g : Holding) (xs : List Letter) → g.table ≡ set h.table k c
          → Sets k c h (record { holding = purged net s g; sent = xs })
      sets_purged c g xs e =
          record {
            own = purged_own net s g k real l o ∙ ap (λ (t : List ℕ). counter_in t k) e ∙ set_own c;
            others = λ j n.
                subst (λ (x : ℕ). Lowered x (counter (purged net s g) j))
                (ap (λ (t : List ℕ). counter_in t j) e ∙ get_or-set_other h.table k j c 1 n) (purged_lowers net s g j);
          }

      -- a timeout: an even counter is raised by one, then purge; with an odd one no counter changes
      pub timeout_even : T (even (counter h k)) → Sets k (counter h k + 1) h (timeout net s k h)
      unfolding done_by
      timeout_even e = rw (T_is (even (counter h k)) e) (sets_purged (counter h k + 1) _ _ refl)

      -- a reply that heals
      pub heals_sets : (c : ℕ) → Sets k c h (effect_on net s k h (Heals c))
      unfolding done_by
      heals_sets c = sets_purged c _ _ refl

  module _ (h : Holding) (k : ℕ) where
    pub timeout_odd : T (odd (counter h k)) → (timeout net s k h).holding.table ≡ h.table
    unfolding done_by
    timeout_odd e = rw (T_not_is (even (counter h k)) e) refl

    -- no purge, and no other counter changes
    pub levels_table : (c : ℕ) → (effect_on net s k h (Levels c)).holding.table ≡ set h.table k c
    unfolding done_by
    levels_table c = refl

  -- ---- a notice of link j with c, come on link k: taken, it sets one counter, strictly higher, and changes nothing else
  pub record Took (j c : ℕ) (h after : Holding) : Type 0 where
    pub newer : counter h j < c
    pub takes : counter after j ≡ c
    pub others : (i : ℕ) → i ≢ j → counter after i ≡ counter h i
    pub marks : after.marks ≡ h.marks
    pub condition : after.condition ≡ h.condition

  module _ (h : Holding) (ok : T (holding_holds net s h)) where
    pub takes_took : (k j c : ℕ) → j < length net.links → counter h j < c → Took j c h (effect_on net s k h (Takes j c)).holding
    unfolding done_by
    takes_took k j c l n =
        record {
          newer = n;
          takes = get_or-set_same h.table j c 1 (subst⁻¹ (λ (n : ℕ). j < n) (formed net s h ok).table_length l);
          others = λ i n. get_or-set_other h.table j i c 1 n;
          marks = refl;
          condition = refl;
        }

  -- ---- a letter does what its answer says
  module _ (h : Holding) (x : Letter) where
    pub received_is : (a : Heard) → answer s x h ≡ a → received net s x h ≡ heard_on net s x.link h a
    received_is a e = ap (heard_on net s x.link h) e

    -- one that is not heard is gone
    pub received_gone : T (not (heard x h)) → received net s x h ≡ unchanged h
    unfolding done_by
    received_gone t = received_is Gone (answer_gone s x h t)

    -- a notice that is heard: newer, it is taken and changes one counter alone; else nothing happens, equal ones among them
    pub notice_takes : T (holding_holds net s h) → (j c : ℕ) → x.body ≡ Notice j c → j < length net.links → T (heard x h)
        → T (newer (counter h j) c)
        → Took j c h (received net s x h).holding
    notice_takes ok j c e l t n =
        subst⁻¹ (λ (d : Done). Took j c h d.holding) (received_is (Does (Takes j c)) (notice_taken s x h j c e t n))
        (takes_took h ok x.link j c l (ltb→lt (counter h j) c n))

    pub notice_drops : (j c : ℕ) → x.body ≡ Notice j c → T (heard x h) → T (not (newer (counter h j) c)) → received net s x h ≡ unchanged h
    unfolding done_by
    notice_drops j c e t n = received_is Nothing (notice_old s x h j c e t n)

    -- a request changes no counter
    pub request_table : x.body ≡ Request → (received net s x h).holding.table ≡ h.table
    unfolding done_by
    request_table e =
        request_cases s x h (λ (a : Heard). (heard_on net s x.link h a).holding.table ≡ h.table) e
        (λ t. refl) (λ t u. defers_table h x.link) (λ t u. answers_table h x.link)

    -- ---- a reply with c that is heard: without a test nothing happens, nor where the counter would be 65,536
    module _ (c : ℕ) (e : x.body ≡ Reply c) (t : T (heard x h)) where
      pub reply_idle : T (not (mark h x.link).testing) → received net s x h ≡ unchanged h
      unfolding done_by
      reply_idle u = received_is Nothing (A.reply_idle s x h c e t u)

      pub reply_over : T (mark h x.link).testing → T (ltb 65535 (healed (counter h x.link) c)) → received net s x h ≡ unchanged h
      unfolding done_by
      reply_over u v = received_is Overflows (A.reply_over s x h c e t u v)

      module _ (u : T (mark h x.link).testing) (v : T (not (ltb 65535 (healed (counter h x.link) c)))) where
        abbrev own : ℕ
        own = counter h x.link

        abbrev new : ℕ
        new = healed (counter h x.link) c

        -- by which of the three it is
        reply_elim : (P : Done → Type 0) → P (effect_on net s x.link h (Heals (healed (counter h x.link) c)))
            → (T (not (odd (counter h x.link) || odd c)) → counter h x.link ≡ c → P (effect_on net s x.link h Equal))
            → P (effect_on net s x.link h (Levels (healed (counter h x.link) c))) → P (received net s x h)
        reply_elim P heals equal levels =
            let Q : Heard → Type 0 = λ a. P (heard_on net s x.link h a) in
            subst⁻¹ P (received_is _ (A.reply_tested s x h c e t u v))
            (if_elim Q (odd own || odd c) (λ w. heals) (λ w. if_elim Q (eqb own c) (λ q. equal w (eqb→eq own c q)) (λ q. levels)))

        -- to a test: the counter is set to the larger of the two, or one more
        pub reply_sets : s < net.stations → T (holding_holds net s h) → x.link < length net.links → T (is_end net x.link s)
            → Sets x.link (healed (counter h x.link) c) h (received net s x h)
        reply_sets real ok l o =
            reply_elim (Sets x.link new h) (heals_sets h ok x.link l real o new)
            (λ w q. record {
              own =
                  ap (λ (t : List ℕ). counter_in t x.link) (equal_table h x.link)
                  ∙ sym (healed_equal own c (both_even (even own) (odd c) w) q);
              others = λ j n. inl (ap (λ (t : List ℕ). counter_in t j) (equal_table h x.link));
            })
            (levels_sets h ok x.link l new)

        -- so it is not lowered, and it is even
        pub reply_rises : s < net.stations → T (holding_holds net s h) → x.link < length net.links → T (is_end net x.link s)
            → counter h x.link ≤ counter (received net s x h).holding x.link
        reply_rises real ok l o = subst⁻¹ (λ (n : ℕ). own ≤ n) (reply_sets real ok l o).own (healed_above own c).0

        pub reply_works : s < net.stations → T (holding_holds net s h) → x.link < length net.links → T (is_end net x.link s)
            → T (even (counter (received net s x h).holding x.link))
        reply_works real ok l o = subst⁻¹ (λ (n : ℕ). T (even n)) (reply_sets real ok l o).own (healed_works own c)

        -- both even: no purge, and no other counter changes
        pub reply_level : T (not (odd (counter h x.link) || odd c))
            → (received net s x h).holding.table ≡ set h.table x.link (healed (counter h x.link) c)
        reply_level w =
            let Q : Heard → Type 0 = λ a. (heard_on net s x.link h a).holding.table ≡ set h.table x.link new in
            subst⁻¹ (λ (d : Done). d.holding.table ≡ set h.table x.link new) (received_is _ (A.reply_even s x h c e t u v w))
            (if_elim Q (eqb own c)
            (λ q. equal_table h x.link ∙ sym (ap (set h.table x.link)
            (healed_equal own c (both_even (even own) (odd c) w) (eqb→eq own c q)) ∙ set-get_or h.table x.link 1))
            (λ q. levels_table h x.link new))
