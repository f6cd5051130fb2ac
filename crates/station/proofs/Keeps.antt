-- Each act keeps what the station holds well formed, and each letter that it sends is good: document 01, "Well formed means".
-- What the caller shows is what the numbers that say no test: what the event names is there (6), it is allowed (7), no counter would
-- be 65,536 (8). The sheet rules are not needed here. All eight events together: Rules.
use Rattle.std.specs.Prelude.{if◌then◌else◌}
use Prim.Native.Nat.{ℕ, ◌<◌}
use mathlib.Core.Bool.{Bool, true, false, not, ◌&&◌}
use mathlib.Core.Path.{subst⁻¹}
use mathlib.Core.List.{List, [], ◌∷◌, ◌++◌, map}
use lib.Dec.{T, ltb, lt→ltb}
use lib.ListN.{length}
use Rattle.lists.specs.Lists.{every}
use Rattle.lists.proofs.Tests.{T_is, and_l, and_r, and_i, if_elim}
use Rattle.lists.proofs.Numbers.{get_or_map_below, length_map_below}
use Rattle.lists.proofs.Kept.{every_joined}
use Rattle.net.specs.declared.Body.TheVariants.{Request, Reply, Notice}
use Rattle.net.specs.declared.Letter.{Letter}
use Rattle.net.specs.Network.{Network, is_end, link_numbers}
use Rattle.net.specs.Letters.{is_counter, letter_holds}
use Rattle.counters.specs.Counters.{even, odd, timed_out}
use Rattle.marks.specs.declared.Marks.{Marks}
use Rattle.station.specs.declared.Condition.TheVariants.{Down, Waiting, Live}
use Rattle.station.specs.declared.Effect.{Effect}
use Rattle.station.specs.declared.Effect.TheVariants.{Defers, Answers, Heals, Levels, Equal, Takes}
use Rattle.station.specs.declared.Heard.{Heard}
use Rattle.station.specs.declared.Heard.TheVariants.{Gone, Nothing, Overflows, Does}
use Rattle.station.specs.Holding.{Holding, no_marks, counter, mark, is_live, is_waiting, is_down, set_token, set_asked, set_quiet}
use Rattle.station.specs.Holding.{implies, together, slot_holds, holding_holds}
use Rattle.station.specs.Acts.{interval_tests, interval_marks, test_ended, requested_marks, replied_marks}
use Rattle.station.specs.Done.{Done, letter, on_each, tell, less, known, done_by}
use Rattle.station.specs.Acts.{may_end, is_open, the_link, Sends, nothing, requests, Act}
use Rattle.station.specs.Done.{own_links, sent_of}
use Rattle.station.proofs.Doing.{unchanged, marked, counted, stopped, open_links, purged, started, recovered, interval, timeout}
use Rattle.station.proofs.Doing.{spoken, answer, replied}
use Rattle.station.proofs.Doing.{effect_on, heard_on, received}
use Rattle.station.proofs.Slots.{all_marks, rule, slot_counter, slot_together, own_slot, busy, busy_live, stopped_slot, started_slot}
use Rattle.station.proofs.Slots.{recovered_slot, counter_next}
use Rattle.station.proofs.Answers.{EffectFits, HeardFits, letter_link, answer_fits}
use Rattle.station.proofs.HoldingLaws.{Formed, formed, holds, marked_formed, recounted_formed, purged_formed, anew_formed, own_link}
use Rattle.station.proofs.HoldingLaws.{own_is, on_each_holds, tell_holds, own_links_own, open_less_own, known_tell}
use Rattle.station.proofs.HoldingLaws.{known_less_tell}

module _ (net : Network) (s : ℕ) where
  -- what is claimed of an act: the holding after it is well formed, and each letter sent may travel
  pub record Kept (d : Done) : Type 0 where
    pub holding : T (holding_holds net s d.holding)
    pub sent : T (every (letter_holds net) d.sent)

  kept : (h : Holding) (xs : List Letter) → Formed net s h → T (every (letter_holds net) xs) → Kept (record { holding = h; sent = xs })
  kept h xs f t = record { holding = holds net s h f; sent = t }

  -- ---- 2. Stop: whatever it held
  pub stopped_keeps : Kept (stopped net s)
  unfolding done_by
  stopped_keeps =
      kept (record { condition = Down; table = map (λ k. 1) (link_numbers net); marks = map (λ k. no_marks) (link_numbers net) }) []
      (anew_formed net s Down (map (λ k. 1) (link_numbers net)) (λ k. no_marks) (length_map_below (λ k. 1) (length net.links))
      (λ k l. subst⁻¹ (λ (c : ℕ). T (slot_holds Down (is_end net k s) c no_marks)) (get_or_map_below (λ k. 1) (length net.links) k 1 l)
      (stopped_slot (is_end net k s))))
      tt

  module _ (h : Holding) (ok : T (holding_holds net s h)) where
    f : Formed net s h
    f = formed net s h ok

    -- ---- 1. Start
    pub started_keeps : T (is_down h.condition) → Kept (started net s h)
    unfolding done_by
    started_keeps d =
        kept (record {
          condition = Waiting;
          table = h.table;
          marks = map (λ k. if is_end net k s then set_token true no_marks else no_marks)
              (link_numbers net);
        }) []
        (anew_formed net s Waiting h.table (λ k. if is_end net k s then set_token true no_marks else no_marks) f.table_length
        (λ k l. started_slot h.condition (is_end net k s) (counter h k) (mark h k) d (f.slots k l)))
        tt

    -- ---- 3. Recovery wait ends
    pub recovered_keeps : T (is_waiting h.condition) → Kept (recovered net s h)
    unfolding done_by
    recovered_keeps w =
        kept (record {
          condition = Live;
          table = h.table;
          marks = map (λ k. if is_end net k s then interval_marks (mark h k) else mark h k)
              (link_numbers net);
        })
        (on_each s Request (own_links net s interval_tests h))
        (anew_formed net s Live h.table (λ k. if is_end net k s then interval_marks (mark h k) else mark h k) f.table_length
        (λ k l. recovered_slot h.condition (is_end net k s) (counter h k) (mark h k) w (f.slots k l)))
        (on_each_holds net s Request (own_links net s interval_tests h) tt (own_links_own net s h interval_tests))

    -- ---- on an own link k
    module _ (k : ℕ) (l : k < length net.links) (o : T (is_end net k s)) where
      slot : T (slot_holds h.condition (is_end net k s) (counter h k) (mark h k))
      slot = f.slots k l

      own_counter : T (is_counter (counter h k))
      own_counter = slot_counter h.condition (is_end net k s) (counter h k) (mark h k) slot

      own_one : T (every (own_link net s) (k ∷ []))
      own_one = and_i (own_link net s k) _ (own_is net s k l o) tt

      is_live_lem : T (busy (mark h k)) → T (is_live h.condition)
      is_live_lem t = busy_live h.condition (is_end net k s) (counter h k) (mark h k) slot t

      -- marks anew, by a rule that was tested at all of them
      remarked : (p : Marks → Bool) (g : Marks → Marks) → T (all_marks (λ m. implies (together m && p m) (together (g m))))
          → T (is_live h.condition) → T (p (mark h k))
          → Formed net s (marked k (g (mark h k)) h)
      remarked p g t v q =
          marked_formed net s h f k (g (mark h k)) l
          (own_slot h.condition (is_end net k s) (counter h k) (g (mark h k)) v o own_counter
          (rule (λ m. together m && p m) (λ m. together (g m)) t (mark h k)
          (and_i (together (mark h k)) _ (slot_together h.condition (is_end net k s) (counter h k) (mark h k) slot) q)))

      -- marks and counter anew
      renewed : (p : Marks → Bool) (g : Marks → Marks) (c : ℕ) → T (all_marks (λ m. implies (together m && p m) (together (g m))))
          → T (is_live h.condition)
          → T (p (mark h k)) → T (is_counter c) → Formed net s (counted k c (marked k (g (mark h k)) h))
      renewed p g c t v q r = recounted_formed net s (marked k (g (mark h k)) h) (remarked p g t v q) k c l v r

      -- ---- 4. Interval ends
      pub interval_keeps : T (may_end h.condition (mark h k)) → Kept (interval net s k h)
      unfolding done_by
      interval_keeps a =
          kept (marked k (interval_marks (mark h k)) h) (sent_of net s h h.table
          (if interval_tests (mark h k) then requests (the_link k) else nothing))
          (remarked (λ m. not m.testing && not m.quiet) interval_marks tt (and_l (is_live h.condition) _ a)
          (and_r (is_live h.condition) _ a))
          (if_elim (λ (y : Sends). T (every (letter_holds net) (sent_of net s h h.table y))) (interval_tests (mark h k))
          (λ t. on_each_holds net s Request (k ∷ []) tt own_one) (λ t. tt))

      -- ---- 5. Timeout ends
      pub timeout_keeps : T (mark h k).testing → Kept (timeout net s k h)
      unfolding done_by
      timeout_keeps a =
          if_elim (λ (y : Act). Kept (done_by net s h y)) (even (counter h k)) raises
          (λ e. kept (marked k (test_ended (mark h k)) h) [] (remarked (λ m. m.testing) test_ended tt v a) tt)
        where
          v : T (is_live h.condition)
          v = is_live_lem (rule (λ m. m.testing) busy tt (mark h k) a)

          c : ℕ
          c = timed_out (counter h k)

          fits : T (even (counter h k)) → T (is_counter c)
          fits e = rw (T_is (even (counter h k)) e) (counter_next (counter h k) own_counter e)

          raised : Holding
          raised = counted k c (marked k (set_quiet true (test_ended (mark h k))) h)

          raises : T (even (counter h k))
              → Kept (record { holding = purged net s raised; sent = on_each s (Notice k c) (less k (open_links net s h)) })
          raises e =
              kept (purged net s raised) (on_each s (Notice k c) (less k (open_links net s h)))
              (purged_formed net s raised (renewed (λ m. m.testing) (λ m. set_quiet true (test_ended m)) c tt v a (fits e)))
              (on_each_holds net s (Notice k c) (less k (open_links net s h)) (and_i (ltb k (length net.links)) _ (lt→ltb k _ l) (fits e))
              (open_less_own net s h k))

      -- ---- 6. Quiet ends
      pub spoken_keeps : T (mark h k).quiet → Kept (spoken net s k h)
      unfolding done_by
      spoken_keeps a =
          kept (marked k (set_quiet false (mark h k)) h) []
          (remarked (λ m. m.quiet) (set_quiet false) tt (is_live_lem (rule (λ m. m.quiet) busy tt (mark h k) a)) a) tt

      -- ---- 7. what a letter does at a live station
      module _ (v : T (is_live h.condition)) where
        next_formed : (c : ℕ) → T (is_counter c) → Formed net s (replied net s k c h)
        next_formed c r = renewed (λ m. true) replied_marks c tt v tt r

        pub effect_keeps : (e : Effect) → EffectFits net k h e → Kept (effect_on net s k h e)
        unfolding done_by
        effect_keeps Defers p = kept (marked k (set_asked true (mark h k)) h) [] (remarked (λ m. m.testing) (set_asked true) tt v p) tt
        effect_keeps Answers p =
            kept (marked k (requested_marks (mark h k)) h) (news ++ (letter s k (Reply (counter h k)) ∷ []))
            (remarked (λ m. true) requested_marks tt v tt)
            (every_joined (letter_holds net) news (letter s k (Reply (counter h k)) ∷ [])
            (if_elim (λ xs. T (every (letter_holds net) xs)) (odd (counter h k))
            (λ u. tell_holds net s (counter h) (less k (known net h.table)) (k ∷ []) (known_less_tell net s h f k) own_one) (λ u. tt))
            (on_each_holds net s (Reply (counter h k)) (k ∷ []) own_counter own_one))
          where
            news : List Letter
            news = if odd (counter h k) then tell s (counter h) (less k (known net h.table)) (k ∷ []) else []
        effect_keeps (Heals c) p =
            let next = replied net s k c h in
            kept (purged net s next) (tell s (counter next) (known net next.table) (open_links net s h))
            (purged_formed net s next (next_formed c p.range))
            (tell_holds net s (counter next) (known net next.table) (open_links net s h)
            (known_tell net s next (next_formed c p.range)) (own_links_own net s h is_open))
        effect_keeps (Levels c) p =
            let next = replied net s k c h in
            kept next (on_each s (Notice k c) (open_links net s h)) (next_formed c p.range)
            (on_each_holds net s (Notice k c) (open_links net s h) (and_i (ltb k (length net.links)) _ (lt→ltb k _ l) p.range)
            (own_links_own net s h is_open))
        effect_keeps Equal p = kept (marked k (replied_marks (mark h k)) h) [] (remarked (λ m. true) replied_marks tt v tt) tt
        effect_keeps (Takes j c) p =
            kept (counted j c h) (on_each s (Notice j c) (less k (open_links net s h)))
            (recounted_formed net s h f j c p.there v p.range)
            (on_each_holds net s (Notice j c) (less k (open_links net s h))
            (and_i (ltb j (length net.links)) _ (lt→ltb j _ p.there) p.range) (open_less_own net s h k))

      heard_keeps : (a : Heard) → HeardFits net k h a → Kept (heard_on net s k h a)
      unfolding done_by
      heard_keeps Gone p = kept h [] f tt
      heard_keeps Nothing p = kept h [] f tt
      heard_keeps Overflows p = kept h [] f tt
      heard_keeps (Does e) p = effect_keeps (and_l (is_live h.condition) _ p.0) e p.1

    -- nothing is done
    pub unchanged_keeps : Kept (unchanged h)
    unchanged_keeps = record { holding = ok; sent = tt }

    -- whatever letter comes on an own link
    pub received_keeps : (x : Letter) → T (letter_holds net x) → T (is_end net x.link s) → Kept (received net s x h)
    received_keeps x t o =
        let l = letter_link net x t in
        heard_keeps x.link l o (answer s x h) (answer_fits net s x h (own_counter x.link l o) t)
