-- How many letters each act sends, on which links, and that the notices of one link are alike. Start, stop and quiet end: none.
-- An interval: at most one. A recovery: at most one on each own link. A timeout and a notice taken: alike notices on own links
-- that aren't quiet, at most one fewer than there are own links, since none goes on the link itself or where the notice came from.
-- A request: at most a notice of each other link, then the reply. A reply: subjects times open own links.
use Rattle.std.specs.Prelude.{if◌then◌else◌}
use Prim.Native.Nat.{ℕ, ◌+◌, ◌-◌, ◌*◌, ◌≤◌, ◌<◌, zero-le}
use mathlib.Core.Bool.{Bool, true, false, not, ◌&&◌, ◌||◌}
use mathlib.Core.Path.{◌≡◌, refl, sym, ap₂, ◌∙◌, subst, subst⁻¹}
use mathlib.Core.List.{List, [], ◌∷◌}
use native.Mathlib.Nat.{add_comm, le_trans, mul-le-mul, mul-le-mul_right, zero-mul, one-mul, suc-mul}
use native.Mathlib.Omega.{arith}
use lib.Dec.{T, eqb, ltb, eqb→eq, eqb_refl}
use lib.ListN.{length, length-map, length-append}
use Rattle.lists.specs.Lists.{keep, every}
use Rattle.lists.proofs.Tests.{T_is, and_l, and_r, and_i, if_elim}
use Rattle.lists.proofs.Numbers.{length_from}
use Rattle.lists.proofs.Kept.{every_imp, every_both, every_joined, every_keep, every_kept, every_map, keep_le, keep_fewer, keep_keep}
use Rattle.lists.proofs.Kept.{keep_one_fewer}
use Rattle.net.specs.declared.Body.{Body}
use Rattle.net.specs.declared.Body.TheVariants.{Request, Reply, Notice}
use Rattle.net.specs.declared.Letter.{Letter}
use Rattle.net.specs.Network.{Network, is_end, link_numbers}
use Rattle.counters.specs.Counters.{even, odd, healed}
use Rattle.station.specs.declared.Effect.TheVariants.{Defers, Answers, Heals, Levels, Equal, Takes}
use Rattle.station.specs.declared.Heard.{Heard}
use Rattle.station.specs.Holding.{Holding, counter, mark}
use Rattle.station.specs.Acts.{interval_tests}
use Rattle.station.specs.Done.{letter, on_each, tell, less, known, done_by, own_links}
use Rattle.station.specs.Acts.{Sends, Act}
use Rattle.station.specs.Done.{sent_of}
use Rattle.station.proofs.Doing.{own, open_links, stopped, started, recovered, interval, timeout, spoken, replied, effect_on}
use Rattle.station.proofs.Doing.{heard_on, received}
use Rattle.station.proofs.Answers.{request_cases, reply_cases, notice_cases}
use Rattle.station.proofs.HoldingLaws.{own_link, own_kept}

-- ---- what a letter says
-- a notice of link j with c
abbrev pub is_notice : ℕ → ℕ → Body → Bool
is_notice j c Request = false
is_notice j c (Reply d) = false
is_notice j c (Notice i d) = eqb i j && eqb d c

pub is_notice_lem : (j c : ℕ) (b : Body) → T (is_notice j c b) → b ≡ Notice j c
is_notice_lem j c Request t = absurd t
is_notice_lem j c (Reply d) t = absurd t
is_notice_lem j c (Notice i d) t = ap₂ Notice (eqb→eq i j (and_l (eqb i j) _ t)) (eqb→eq d c (and_r (eqb i j) _ t))

-- ---- lists of letters
pub on_each_count : (s : ℕ) (b : Body) (ks : List ℕ) → length (on_each s b ks) ≡ length ks
on_each_count s b ks = length-map ks (λ k. letter s k b)

-- subjects times ways
pub tell_count : (s : ℕ) (c : ℕ → ℕ) (js ks : List ℕ) → length (tell s c js ks) ≡ length js * length ks
tell_count s c [] ks = sym (zero-mul (length ks))
tell_count s c (j ∷ js) ks =
    length-append (on_each s (Notice j (c j)) ks) (tell s c js ks)
    ∙ ap₂ ◌+◌ (on_each_count s (Notice j (c j)) ks) (tell_count s c js ks)
    ∙ add_comm (length ks) (length js * length ks) ∙ sym (suc-mul (length js) (length ks))

on_each_every : (p : Letter → Bool) (s : ℕ) (b : Body) (ks : List ℕ) → T (every (λ k. p (letter s k b)) ks) → T (every p (on_each s b ks))
on_each_every p s b ks t = every_map p (λ k. letter s k b) ks t

tell_every : (p : Letter → Bool) (s : ℕ) (c : ℕ → ℕ) (js ks : List ℕ) → ((j : ℕ) → T (every (λ k. p (letter s k (Notice j (c j)))) ks))
    → T (every p (tell s c js ks))
tell_every p s c [] ks f = tt
tell_every p s c (j ∷ js) ks f =
    every_joined p (on_each s (Notice j (c j)) ks) (tell s c js ks) (on_each_every p s (Notice j (c j)) ks (f j)) (tell_every p s c js ks f)

always : (ks : List ℕ) → T (every (λ k. true) ks)
always [] = tt
always (k ∷ ks) = always ks

refuse : (a b : Bool) → T b → T (not (a && not b))
refuse true true t = tt
refuse false true t = tt
refuse a false t = absurd t

module _ (net : Network) (s : ℕ) where
  -- ---- start, stop, quiet end: no letter
  pub started_sends : (h : Holding) → (started net s h).sent ≡ []
  unfolding done_by
  started_sends h = refl

  pub stopped_sends : (stopped net s).sent ≡ []
  unfolding done_by
  stopped_sends = refl

  pub spoken_sends : (k : ℕ) (h : Holding) → (spoken net s k h).sent ≡ []
  unfolding done_by
  spoken_sends k h = refl

  -- ---- an interval: at most one
  pub interval_few : (k : ℕ) (h : Holding) → length (interval net s k h).sent ≤ 1
  unfolding done_by
  interval_few k h =
      if_elim (λ (y : Sends). length (sent_of net s h h.table y) ≤ 1) (interval_tests (mark h k)) (λ t. omega arith) (λ t. omega arith)

  -- ---- a recovery: at most one on each own link
  pub recovered_few : (h : Holding) → length (recovered net s h).sent ≤ length (own net s)
  unfolding done_by own_links
  recovered_few h =
      subst⁻¹ (λ (n : ℕ). n ≤ length (own net s)) (on_each_count s Request (own_links net s interval_tests h))
      (keep_fewer (λ k. is_end net k s && interval_tests (mark h k)) (λ k. is_end net k s) (λ k t. and_l (is_end net k s) _ t)
      (link_numbers net))

  -- ---- own links that aren't quiet
  -- an own link of the station that isn't quiet
  abbrev pub open_own : Holding → ℕ → Bool
  open_own h k = own_link net s k && not (mark h k).quiet

  module _ (h : Holding) where
    pub known_few : length (known net h.table) ≤ length net.links
    unfolding known
    known_few = omega (arith, keep_le (λ k. ltb 1 (counter h k)) (link_numbers net), length_from 0 (length net.links))

    pub open_few : length (open_links net s h) ≤ length (own net s)
    unfolding own_links
    open_few =
        keep_fewer (λ k. is_end net k s && not (mark h k).quiet) (λ k. is_end net k s) (λ k t. and_l (is_end net k s) _ t) (link_numbers net)

    pub open_open : T (every (open_own h) (open_links net s h))
    unfolding own_links
    open_open =
        let p : ℕ → Bool = λ k. is_end net k s && not (mark h k).quiet in
        every_both (own_link net s) (λ k. not (mark h k).quiet) (keep p (link_numbers net))
        (own_kept net s p (λ k t. and_l (is_end net k s) _ t))
        (every_imp p (λ k. not (mark h k).quiet) (λ k t. and_r (is_end net k s) _ t) (keep p (link_numbers net))
        (every_kept p (link_numbers net)))

    module _ (k : ℕ) where
      abbrev but : ℕ → Bool
      but j = (is_end net j s && not (mark h j).quiet) && not (eqb j k)

      -- one fewer than the own links, where k is one
      pub open_less_few : k < length net.links → T (is_end net k s) → length (less k (open_links net s h)) ≤ length (own net s) - 1
      unfolding own_links
      open_less_few l o =
          subst⁻¹ (λ (ks : List ℕ). length ks ≤ length (own net s) - 1)
          (keep_keep (λ j. is_end net j s && not (mark h j).quiet) (λ j. not (eqb j k)) (link_numbers net))
          (keep_one_fewer but (λ j. is_end net j s) (λ j t. and_l (is_end net j s) _ (and_l (is_end net j s && not (mark h j).quiet) _ t)) k
          (refuse (is_end net k s && not (mark h k).quiet) (eqb k k) (eqb_refl k)) o (length net.links) l)

      open_less_open : T (every (open_own h) (less k (open_links net s h)))
      open_less_open = every_keep (open_own h) (λ j. not (eqb j k)) (open_links net s h) open_open

      open_less_away : T (every (λ j. not (eqb j k)) (less k (open_links net s h)))
      open_less_away = every_kept (λ j. not (eqb j k)) (open_links net s h)

  -- ---- alike notices of link j with c that go on: what a notice taken on link k, and a timeout on it, send
  pub record Spreads (k j c : ℕ) (h : Holding) (xs : List Letter) : Type 0 where
    -- at most one fewer than the own links
    pub few : length xs ≤ length (own net s) - 1
    -- the same subject and counter
    pub alike : T (every (λ x. is_notice j c x.body) xs)
    -- none on the link k
    pub away : T (every (λ x. not (eqb x.link k)) xs)
    -- each on an own link that isn't quiet
    pub ways : T (every (λ x. open_own h x.link) xs)

  module _ (h : Holding) (k : ℕ) (l : k < length net.links) (o : T (is_end net k s)) where
    no_letters : (j c : ℕ) → Spreads k j c h []
    no_letters j c = record { few = zero-le; alike = tt; away = tt; ways = tt }

    spread : (j c : ℕ) → Spreads k j c h (on_each s (Notice j c) (less k (open_links net s h)))
    spread j c =
        let ks = less k (open_links net s h) in
        record {
          few = subst⁻¹ (λ (n : ℕ). n ≤ length (own net s) - 1) (on_each_count s (Notice j c) ks) (open_less_few h k l o);
          alike =
              on_each_every (λ x. is_notice j c x.body) s (Notice j c) ks
              (every_imp (λ i. true) (λ i. eqb j j && eqb c c) (λ i t. and_i (eqb j j) _ (eqb_refl j) (eqb_refl c)) ks (always ks));
          away = on_each_every (λ x. not (eqb x.link k)) s (Notice j c) ks (open_less_away h k);
          ways = on_each_every (λ x. open_own h x.link) s (Notice j c) ks (open_less_open h k);
        }

    -- a notice taken on link k is sent on
    pub takes_spreads : (j c : ℕ) → Spreads k j c h (effect_on net s k h (Takes j c)).sent
    unfolding done_by
    takes_spreads j c = spread j c

    -- a timeout on link k: the raised counter is told, or nothing
    pub timeout_spreads : Spreads k k (counter h k + 1) h (timeout net s k h).sent
    unfolding done_by
    timeout_spreads =
        if_elim (λ (a : Act). Spreads k k (counter h k + 1) h (done_by net s h a).sent) (even (counter h k))
        (λ t. rw (T_is (even (counter h k)) t) (spread k (counter h k + 1))) (λ t. no_letters k (counter h k + 1))

  -- a notice come on an own link: taken and sent on, or nothing
  pub notice_spreads : (h : Holding) (x : Letter) → x.link < length net.links → T (is_end net x.link s) → (j c : ℕ)
      → x.body ≡ Notice j c
      → Spreads x.link j c h (received net s x h).sent
  unfolding done_by
  notice_spreads h x l o j c e =
      let none = no_letters h x.link l o j c in
      notice_cases s x h (λ (a : Heard). Spreads x.link j c h (heard_on net s x.link h a).sent) j c e (λ t. none) (λ t u. none)
      (λ t u. takes_spreads h x.link l o j c)

  -- ---- a request that is answered on link k: at most a notice of each other known link, then the reply, all of it on k
  module _ (h : Holding) (k : ℕ) where
    pub defers_sends : (effect_on net s k h Defers).sent ≡ []
    unfolding done_by
    defers_sends = refl

    abbrev knows : ℕ → Bool
    knows j = ltb 1 (counter h j) && not (eqb j k)

    not_itself : T (not (knows k))
    not_itself = refuse (ltb 1 (counter h k)) (eqb k k) (eqb_refl k)

    -- those but k as one test
    known_less : less k (known net h.table) ≡ keep knows (link_numbers net)
    unfolding known
    known_less = keep_keep (λ j. ltb 1 (counter h j)) (λ j. not (eqb j k)) (link_numbers net)

    -- one fewer than the links
    pub known_less_few : k < length net.links → length (less k (known net h.table)) ≤ length net.links - 1
    known_less_few l =
        subst⁻¹ (λ (ks : List ℕ). length ks ≤ length net.links - 1) known_less
        (omega (
          arith,
          keep_one_fewer knows (λ j. true) (λ j t. tt) k not_itself tt (length net.links) l,
          keep_le (λ j. true)
              (link_numbers net),
          length_from 0 (length net.links),
        ))

    -- and, where k is known, one fewer than the known ones
    pub known_less_known : k < length net.links → T (ltb 1 (counter h k))
        → length (less k (known net h.table)) ≤ length (known net h.table) - 1
    unfolding known
    known_less_known l t =
        subst⁻¹ (λ (ks : List ℕ). length ks ≤ length (known net h.table) - 1) known_less
        (keep_one_fewer knows (λ j. ltb 1 (counter h j)) (λ j u. and_l (ltb 1 (counter h j)) _ u) k not_itself t (length net.links) l)

    pub record Answered (xs : List Letter) : Type 0 where
      pub few : length xs ≤ length (less k (known net h.table)) + 1
      pub back : T (every (λ x. eqb x.link k) xs)

    pub answers_back : Answered (effect_on net s k h Answers).sent
    unfolding done_by
    answers_back =
        record {
          few = subst⁻¹ (λ (n : ℕ). n ≤ length (less k (known net h.table)) + 1) (length-append news last)
              (if_elim (λ (xs : List Letter). length xs + 1 ≤ length (less k (known net h.table)) + 1) (odd (counter h k))
              (λ u. told_few) (λ u. omega arith));
          back =
              every_joined (λ x. eqb x.link k) news last (told (λ x. eqb x.link k) (λ b. eqb_refl k))
              (and_i (eqb k k) _ (eqb_refl k) tt);
        }
      where
        news : List Letter
        news = if odd (counter h k) then tell s (counter h) (less k (known net h.table)) (k ∷ []) else []

        last : List Letter
        last = letter s k (Reply (counter h k)) ∷ []

        told_few : length (tell s (counter h) (less k (known net h.table)) (k ∷ [])) + 1 ≤ length (less k (known net h.table)) + 1
        told_few = omega (arith, tell_count s (counter h) (less k (known net h.table)) (k ∷ []))

        told : (p : Letter → Bool) → ((b : Body) → T (p (letter s k b))) → T (every p news)
        told p f =
            if_elim (λ (xs : List Letter). T (every p xs)) (odd (counter h k))
            (λ u. tell_every p s (counter h) (less k (known net h.table)) (k ∷ [])
            (λ j. and_i (p (letter s k (Notice j (counter h j)))) _ (f (Notice j (counter h j))) tt))
            (λ u. tt)

    -- so no more than there are links
    pub answers_few : k < length net.links → length (effect_on net s k h Answers).sent ≤ length net.links
    answers_few l = omega (arith, answers_back.few, known_less_few l)

  -- a request that comes on a link that is there
  pub request_few : (h : Holding) (x : Letter) → x.link < length net.links → x.body ≡ Request
      → length (received net s x h).sent ≤ length net.links
  unfolding done_by
  request_few h x l e =
      request_cases s x h (λ (a : Heard). length (heard_on net s x.link h a).sent ≤ length net.links) e (λ t. zero-le)
      (λ t u. subst⁻¹ (λ (xs : List Letter). length xs ≤ length net.links) (defers_sends h x.link) zero-le)
      (λ t u. answers_few h x.link l)

  -- ---- a reply to a test on link k, with c for the new counter
  module _ (h : Holding) (k c : ℕ) where
    -- either was odd, a healing: subjects times open own links
    pub heals_count : length (effect_on net s k h (Heals c)).sent ≡ length (known net (replied net s k c h).table) * length
        (open_links net s h)
    unfolding done_by
    heals_count =
        let next = replied net s k c h in
        tell_count s (counter next) (known net next.table) (open_links net s h)

    -- both even and different, a level: this link alone, at most once on each own link, alike
    pub record Levelled (xs : List Letter) : Type 0 where
      pub few : length xs ≤ length (own net s)
      pub alike : T (every (λ x. is_notice k c x.body) xs)
      pub ways : T (every (λ x. open_own h x.link) xs)

    pub levels_alike : Levelled (effect_on net s k h (Levels c)).sent
    unfolding done_by
    levels_alike =
        let ks = open_links net s h in
        record {
          few = subst⁻¹ (λ (n : ℕ). n ≤ length (own net s)) (on_each_count s (Notice k c) ks) (open_few h);
          alike =
              on_each_every (λ x. is_notice k c x.body) s (Notice k c) ks
              (every_imp (λ i. true) (λ i. eqb k k && eqb c c) (λ i t. and_i (eqb k k) _ (eqb_refl k) (eqb_refl c)) ks (always ks));
          ways = on_each_every (λ x. open_own h x.link) s (Notice k c) ks (open_open h);
        }

    -- equal: nothing
    pub equal_sends : (effect_on net s k h Equal).sent ≡ []
    unfolding done_by
    equal_sends = refl

    -- in every case no more than links times own links
    pub heals_few : length (effect_on net s k h (Heals c)).sent ≤ length net.links * length (own net s)
    heals_few =
        subst⁻¹ (λ (n : ℕ). n ≤ length net.links * length (own net s)) heals_count
        (mul-le-mul (known_few (replied net s k c h)) (open_few h))

    pub levels_few : k < length net.links → length (effect_on net s k h (Levels c)).sent ≤ length net.links * length (own net s)
    levels_few l =
        le_trans levels_alike.few
        (subst (λ (n : ℕ). n ≤ length net.links * length (own net s)) (one-mul (length (own net s)))
        (mul-le-mul_right (length (own net s)) (omega arith)))

  pub reply_few : (h : Holding) (x : Letter) → x.link < length net.links → (c : ℕ) → x.body ≡ Reply c
      → length (received net s x h).sent ≤ length net.links * length (own net s)
  unfolding done_by
  reply_few h x l c e =
      let Few : Heard → Type 0 = λ a. length (heard_on net s x.link h a).sent ≤ length net.links * length (own net s) in
      let new : ℕ = healed (counter h x.link) c in
      reply_cases s x h c e Few (λ t. zero-le) (λ t u. zero-le) (λ t u v. zero-le)
      (λ t u v. if_elim Few (odd (counter h x.link) || odd c) (λ w. heals_few h x.link new)
      (λ w. if_elim Few (eqb (counter h x.link) c)
      (λ q. subst⁻¹ (λ (xs : List Letter). length xs ≤ length net.links * length (own net s)) (equal_sends h x.link new) zero-le)
      (λ q. levels_few h x.link new l)))
