-- The computed reach is the reach by stations that lead there, for every network, every choice of working links and every station.
-- Callers use `sound` and `complete`, and not the text of `reach`.
-- Inside: sets that grow, one link further, and that after as many rounds as there are stations nothing is left to add.
use Prim.Native.Nat.{ℕ, zero, suc, ◌≤◌, ◌<◌}
use mathlib.Core.Bool.{Bool, true, false, ◌&&◌, ◌||◌}
use mathlib.Core.Path.{◌≡◌, refl, sym, ap, ◌∙◌, subst, subst⁻¹}
use mathlib.Core.Logic.{◌⊎◌, inl, inr, ⊎_elim}
use mathlib.Core.List.{List, [], ◌∷◌, ◌++◌}
use native.Mathlib.Nat.{le_refl, zero-add}
use native.Mathlib.Omega.{arith}
use native.Mathlib.Decide.{dec_lt}
use lib.Dec.{T, eqb, eqb→eq, eqb_refl}
use lib.ListN.{length, get_or-eq_default}
use Rattle.lists.specs.Lists.{any}
use Rattle.lists.proofs.Tests.{and_l, and_r, and_i, or_cases, or_left, or_right}
use Rattle.lists.proofs.Numbers.{any_out, any_in, get_or_map_below, length_map_below}
use Rattle.net.specs.Network.{Network, ends, link_numbers}
use Rattle.reach.specs.Reach.{Joined, Leads, Reaches, has, joins_to, spread, within, reach, count_of}
use Rattle.reach.specs.Reach.Leads.{here, next}

-- ---- sets that grow
count_le : (xs : List Bool) → count_of xs ≤ length xs
count_le [] = le_refl 0
count_le (true ∷ xs) = omega (arith, count_le xs)
count_le (false ∷ xs) = omega (arith, count_le xs)

-- a set that holds all of another is the same or has more members
grow : (a b : List Bool) → length a ≡ length b → ((t : ℕ) → T (has a t) → T (has b t)) → (a ≡ b) ⊎ (count_of a < count_of b)
grow [] [] e f = inl refl
grow [] (y ∷ b) e f = absurd (lemma e)
  where
    lemma : 0 ≡ suc (length b) → ⊥
    lemma p = omega arith
grow (x ∷ a) [] e f = absurd (lemma e)
  where
    lemma : suc (length a) ≡ 0 → ⊥
    lemma p = omega arith
grow (x ∷ a) (y ∷ b) e f = go x y (f 0) (grow a b (omega arith) (λ t u. f (suc t) u))
  where
    go : (x y : Bool) → (T x → T y) → (a ≡ b) ⊎ (count_of a < count_of b) → ((x ∷ a) ≡ (y ∷ b)) ⊎ (count_of (x ∷ a) < count_of (y ∷ b))
    go true true i (inl r) = inl (ap {B = List Bool} (λ l. true ∷ l) r)
    go true true i (inr r) = inr (omega arith)
    go true false i r = absurd (i tt)
    go false true i (inl r) = inr (omega (arith, ap (λ (l : List Bool). count_of l) r))
    go false true i (inr r) = inr (omega arith)
    go false false i (inl r) = inl (ap {B = List Bool} (λ l. false ∷ l) r)
    go false false i (inr r) = inr (omega arith)

has_real : (a : List Bool) (t : ℕ) → T (has a t) → t < length a
has_real a t u = go (dec_lt t (length a))
  where
    go : Dec (t < length a) → t < length a
    go (yes h) = h
    go (no h) = absurd (subst T (get_or-eq_default a false {n = t} (omega arith)) u)

-- ---- ways that go one station further
module _ {net : Network} {works : ℕ → Bool} where
  lead_on : {s u t : ℕ} {us : List ℕ} → Leads net works s us u → Joined net works u t → Leads net works s (us ++ (t ∷ [])) t
  lead_on here j = next j here
  lead_on (next i l) j = next i (lead_on l j)

  pub reach_on : {s u t : ℕ} → Reaches net works s u → Joined net works u t → Reaches net works s t
  reach_on {t = t} r j = record { station = r.station; way = r.way ++ (t ∷ []); leads = lead_on r.leads j }

  -- s reaches itself
  pub reach_self : {s : ℕ} → s < net.stations → Reaches net works s s
  reach_self h = record { station = h; way = []; leads = here }

  leads_real : {s t : ℕ} {us : List ℕ} → s < net.stations → Leads net works s us t → t < net.stations
  leads_real h here = h
  leads_real h (next j l) = leads_real j.to l

  -- only stations are reached
  pub reaches_real : {s t : ℕ} → Reaches net works s t → t < net.stations
  reaches_real r = leads_real r.station r.leads

  -- what holds of a station and goes over each working link holds of all that it reaches
  leads_keep : {s t : ℕ} {us : List ℕ} (P : ℕ → Type 0) → ((u v : ℕ) → Joined net works u v → P u → P v) → P s → Leads net works s us t
      → P t
  leads_keep P f p here = p
  leads_keep P f p (next {s = s} {u = u} j l) = leads_keep P f (f s u j p) l

  pub reaches_keep : {s t : ℕ} (P : ℕ → Type 0) → ((u v : ℕ) → Joined net works u v → P u → P v) → P s → Reaches net works s t → P t
  reaches_keep P f p r = leads_keep P f p r.leads

-- ---- one link further
module _ (net : Network) (works : ℕ → Bool) where
  beside_out : (set : List Bool) (t : ℕ) → length set ≡ net.stations → t < net.stations
      → T (any (joins_to net works set t) (link_numbers net))
      → (u : ℕ) × T (has set u) × Joined net works u t
  beside_out set t n m b =
      let r = any_out (joins_to net works set t) (length net.links) 0 b in
      let k = r.0 in
      let lo = (ends net k).low in
      let hi = (ends net k).high in
      let h : k < length net.links = omega (arith, r.2) in
      let w = and_l (works k) _ r.3 in
      ⊎_elim
      (λ p. (
        hi,
        and_r (eqb lo t) _ p,
        record {
          link = k;
          exists = h;
          working = w;
          tied = or_right (eqb lo hi && eqb hi t) _
              (and_i (eqb lo t) _ (and_l (eqb lo t) _ p) (eqb_refl hi));
          from = real hi (and_r (eqb lo t) _ p);
          to = m;
        },
      ))
      (λ p. (
        lo,
        and_r (eqb hi t) _ p,
        record {
          link = k;
          exists = h;
          working = w;
          tied = or_left (eqb lo lo && eqb hi t) _
              (and_i (eqb lo lo) _ (eqb_refl lo) (and_l (eqb hi t) _ p));
          from = real lo (and_r (eqb hi t) _ p);
          to = m;
        },
      ))
      (or_cases (eqb lo t && has set hi) _ (and_r (works k) _ r.3))
    where
      real : (u : ℕ) → T (has set u) → u < net.stations
      real u p = subst (λ (x : ℕ). u < x) n (has_real set u p)

  beside_in : (set : List Bool) (u t : ℕ) → T (has set u) → Joined net works u t → T (any (joins_to net works set t) (link_numbers net))
  beside_in set u t b j =
      let k = j.link in
      let lo = (ends net k).low in
      let hi = (ends net k).high in
      any_in (joins_to net works set t) (length net.links) 0 k j.exists
      (subst⁻¹ (λ (x : ℕ). T (joins_to net works set t x)) (zero-add k)
      (and_i (works k) _ j.working
      (⊎_elim
      (λ p. or_right (eqb lo t && has set hi) _ (and_i (eqb hi t) _ (and_r (eqb lo u) _ p)
      (subst⁻¹ (λ (x : ℕ). T (has set x)) (eqb→eq lo u (and_l (eqb lo u) _ p)) b)))
      (λ p. or_left (eqb lo t && has set hi) _ (and_i (eqb lo t) _ (and_l (eqb lo t) _ p)
      (subst⁻¹ (λ (x : ℕ). T (has set x)) (eqb→eq hi u (and_r (eqb lo t) _ p)) b)))
      (or_cases (eqb lo u && eqb hi t) _ j.tied))))

  spread_at : (set : List Bool) (t : ℕ) → t < net.stations
      → has (spread net works set) t ≡ (has set t || any (joins_to net works set t) (link_numbers net))
  unfolding spread
  spread_at set t h = get_or_map_below (λ t. has set t || any (joins_to net works set t) (link_numbers net)) net.stations t false h

  spread_length : (set : List Bool) → length (spread net works set) ≡ net.stations
  unfolding spread
  spread_length set = length_map_below (λ t. has set t || any (joins_to net works set t) (link_numbers net)) net.stations

  module _ (s : ℕ) where
    pub within_length : (h : ℕ) → length (within net works s h) ≡ net.stations
    unfolding within
    within_length zero = length_map_below (λ t. eqb s t) net.stations
    within_length (suc h) = spread_length (within net works s h)

    within_real : (h t : ℕ) → T (has (within net works s h) t) → t < net.stations
    within_real h t u = subst (λ (n : ℕ). t < n) (within_length h) (has_real (within net works s h) t u)

    -- what is reached within h links is reached
    pub within_sound : (h t : ℕ) → T (has (within net works s h) t) → Reaches net works s t
    unfolding within
    within_sound zero t u =
        let l = within_real 0 t u in
        let e = eqb→eq s t (subst T (get_or_map_below (λ t. eqb s t) net.stations t false l) u) in
        subst (Reaches net works s) e (reach_self (subst⁻¹ (λ (x : ℕ). x < net.stations) e l))
    within_sound (suc h) t u =
        let l = within_real (suc h) t u in
        ⊎_elim (within_sound h t)
        (λ b. let r = beside_out (within net works s h) t (within_length h) l b in reach_on (within_sound h r.0 r.1) r.2)
        (or_cases (has (within net works s h) t) _ (subst T (spread_at (within net works s h) t l) u))

    further : (h t : ℕ) → T (has (within net works s h) t) → T (has (within net works s (suc h)) t)
    unfolding within
    further h t u = rw (spread_at (within net works s h) t (within_real h t u)) (or_left (has (within net works s h) t) _ u)

    -- after h + 1 rounds the set is closed, or holds more than h stations
    rounds : (h : ℕ) → (within net works s h ≡ within net works s (suc h)) ⊎ (h < count_of (within net works s (suc h)))
    unfolding within
    rounds zero =
        ⊎_elim inl (λ p. inr (omega arith)) (grow (within net works s 0) (within net works s 1) (within_length 0 ∙ sym (within_length 1))
        (further 0))
    rounds (suc h) =
        ⊎_elim (λ e. inl (ap (spread net works) e))
        (λ p. ⊎_elim inl (λ q. inr (omega arith)) (grow (within net works s (suc h)) (within net works s (suc (suc h)))
        (within_length (suc h) ∙ sym (within_length (suc (suc h)))) (further (suc h))))
        (rounds h)

    closed : reach net works s ≡ spread net works (reach net works s)
    unfolding reach within
    closed =
        ⊎_elim (λ e. e)
        (λ p. absurd (full p (count_le (within net works s (suc net.stations))) (within_length (suc net.stations))))
        (rounds net.stations)
      where
        full : net.stations < count_of (within net works s (suc net.stations))
            → count_of (within net works s (suc net.stations)) ≤ length (within net works s (suc net.stations))
            → length (within net works s (suc net.stations)) ≡ net.stations → ⊥
        full a b c = omega arith

    starts : (h : ℕ) → s < net.stations → T (has (within net works s h) s)
    unfolding within
    starts zero l = rw (get_or_map_below (λ t. eqb s t) net.stations s false l) (eqb_refl s)
    starts (suc h) l = further h s (starts h l)

    -- ---- what callers use
    pub reach_length : length (reach net works s) ≡ net.stations
    unfolding reach
    reach_length = within_length net.stations

    -- a member of the computed reach is reached
    pub sound : (t : ℕ) → T (has (reach net works s) t) → Reaches net works s t
    unfolding reach
    sound t u = within_sound net.stations t u

    reach_starts : s < net.stations → T (has (reach net works s) s)
    unfolding reach
    reach_starts l = starts net.stations l

    -- whatever is reached is a member
    pub complete : (t : ℕ) → Reaches net works s t → T (has (reach net works s) t)
    complete t r =
        reaches_keep (λ v. T (has (reach net works s) v))
        (λ u v j b. subst⁻¹ (λ (x : List Bool). T (has x v)) closed
        (rw (spread_at (reach net works s) v j.to) (or_right (has (reach net works s) v) _ (beside_in (reach net works s) u v b j))))
        (reach_starts r.station) r
