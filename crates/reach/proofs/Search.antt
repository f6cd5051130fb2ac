-- The search of `reach_word`, step by step over the definitions: what holds between the turns of its two loops.
use Prim.Native.Nat.{ℕ, ◌+◌, ◌^◌, ◌≤◌, ◌<◌, min}
use mathlib.Core.Bool.{Bool, true, false, not, ◌&&◌, ◌||◌}
use mathlib.Core.Path.{◌≡◌, refl, sym, ap, ap₂, ◌∙◌, subst, subst⁻¹}
use mathlib.Core.Logic.{◌⊎◌, inl, inr, ⊎_elim}
use native.Mathlib.Decide.{ℕ_discrete}
use native.Mathlib.Omega.{arith}
use lib.Dec.{T, eqb, ltb, eqb→eq, ltb→lt, lt→ltb}
use lib.ListN.{get_or}
use lib.Pow.{pow_pos}
use borrow.Author.Tests.{eqb-true, eqb-false, not-true}
use Rattle.lists.specs.Words.{bit_at, word_of}
use Rattle.lists.proofs.Tests.{T_is, is_T, and_l, and_r, or_cases, or_left, or_right, and_i, eq→eqb}
use Rattle.lists.proofs.Words.{none_in, put_same, put_other, put_fits}
use Rattle.net.specs.declared.Net.{Net}
use Rattle.net.specs.Network.{Ends}
use Rattle.reach.specs.Reach.{Joined}
use Rattle.net.specs.Values.{network_of, link_count}
use Rattle.reach.specs.Values.{reach_of}
use Rattle.reach.specs.Steps.{crosses, Apart}
use Rattle.reach.proofs.ReachLaws.{reach_on, reach_self, reaches_keep}
use Rattle.net.specs.Sizes.{station_room}
use Rattle.net.proofs.ValueLaws.{stations_of, links_of_lem, ends_of}
use Rattle.reach.proofs.Word.{ReachesBy, word_is_reach}

-- the test of link k at the word w
abbrev pub test : Net → (ℕ → Bool) → ℕ → ℕ → Bool
test net works w k = crosses (min net.stations station_room) (get_or net.low k 0) (get_or net.high k 0) (works k) w

-- what the code's answer to the test says, n being the number of stations and v whether the link works, as the code has them
pub test_seen : (net : Net) (works : ℕ → Bool) (w k n : ℕ) (v r b : Bool) → n ≡ min net.stations station_room → v ≡ works k
    → r ≡ crosses n (get_or net.low k 0) (get_or net.high k 0) v w → r ≡ b → test net works w k ≡ b
test_seen net works w k n v r b e f p q =
    ap₂ (λ (x : ℕ) (y : Bool). crosses x (get_or net.low k 0) (get_or net.high k 0) y w) (sym e) (sym f) ∙ sym p ∙ q

-- a link that crosses works, joins two stations, and has just one of them in the word
pub record Crossing (n a b : ℕ) (c : Bool) (w : ℕ) : Type 0 where
  pub works : T c
  pub low : a < n
  pub high : b < n
  pub apart : bit_at w a ≡ bit_at w b → ⊥

pub crosses_true : (n a b : ℕ) (c : Bool) (w : ℕ) → crosses n a b c w ≡ true → Crossing n a b c w
crosses_true n a b c w h =
    let t = is_T (crosses n a b c w) h in
    let u = and_r c _ t in
    let v = and_r (ltb a n) _ u in
    record {
      works = and_l c _ t;
      low = ltb→lt a n (and_l (ltb a n) _ u);
      high = ltb→lt b n (and_l (ltb b n) _ v);
      apart = eqb-false _ _ (not-true _ (T_is _ (and_r (ltb b n) _ v)));
    }

crosses_false : (n a b : ℕ) (c : Bool) (w : ℕ) → T c → a < n → b < n → crosses n a b c w ≡ false → bit_at w a ≡ bit_at w b
crosses_false n a b c w t la lb h = go (eqb (bit_at w a) (bit_at w b)) refl
  where
    go : (e : Bool) → eqb (bit_at w a) (bit_at w b) ≡ e → bit_at w a ≡ bit_at w b
    go true e = eqb-true _ _ e
    go false e =
        absurd (subst T h (and_i c _ t (and_i (ltb a n) _ (lt→ltb a n la) (and_i (ltb b n) _ (lt→ltb b n lb) (is_T _ (ap not e))))))

-- a working link that does not cross has both of its ends in the word or none
same_side : (n a b : ℕ) (c : Bool) (w u v : ℕ) → T c → u < n → v < n → T ((eqb a u && eqb b v) || (eqb a v && eqb b u))
    → crosses n a b c w ≡ false → bit_at w u ≡ 1 → bit_at w v ≡ 1
same_side n a b c w u v ev hu hv tied f e =
    ⊎_elim
    (λ p. let x = eqb→eq a u (and_l (eqb a u) _ p) in let y = eqb→eq b v (and_r (eqb a u) _ p) in
    ap (bit_at w) (sym y) ∙ sym (crosses_false n a b c w ev (subst⁻¹ (λ (z : ℕ). z < n) x hu) (subst⁻¹ (λ (z : ℕ). z < n) y hv) f)
    ∙ ap (bit_at w) x ∙ e)
    (λ p. let x = eqb→eq a v (and_l (eqb a v) _ p) in let y = eqb→eq b u (and_r (eqb a v) _ p) in
    ap (bit_at w) (sym x) ∙ crosses_false n a b c w ev (subst⁻¹ (λ (z : ℕ). z < n) x hv) (subst⁻¹ (λ (z : ℕ). z < n) y hu) f ∙ ap (bit_at w) y
    ∙ e)
    (or_cases (eqb a u && eqb b v) _ tied)

ties_by : (a b u t : ℕ) → ((a ≡ u) × (b ≡ t)) ⊎ ((a ≡ t) × (b ≡ u)) → T ((eqb a u && eqb b t) || (eqb a t && eqb b u))
ties_by a b u t (inl p) =
    or_left (eqb a u && eqb b t) (eqb a t && eqb b u) (and_i (eqb a u) (eqb b t) (eq→eqb a u p.0) (eq→eqb b t p.1))
ties_by a b u t (inr p) =
    or_right (eqb a u && eqb b t) (eqb a t && eqb b u) (and_i (eqb a t) (eqb b u) (eq→eqb a t p.0) (eq→eqb b u p.1))

module _ (net : Net) (works : ℕ → Bool) (s : ℕ) where
  abbrev pub Sound : ℕ → Type 0
  Sound w = (t : ℕ) → bit_at w t ≡ 1 → ReachesBy net works s t

  -- link k, as the code reads it, joins its two ends
  joined : (k : ℕ) (u t : ℕ) → k < link_count net → T (works k) → u < min net.stations station_room → t < min net.stations station_room
      → ((get_or net.low k 0 ≡ u) × (get_or net.high k 0 ≡ t)) ⊎ ((get_or net.low k 0 ≡ t) × (get_or net.high k 0 ≡ u))
      → Joined (network_of net) works u t
  joined k u t l ev hu ht which = record {
    link = k;
    exists = subst⁻¹ (λ (n : ℕ). k < n) (links_of_lem net) l;
    working = ev;
    tied =
        subst⁻¹ (λ (e : Ends). T ((eqb e.low u && eqb e.high t) || (eqb e.low t && eqb e.high u))) (ends_of net k l)
        (ties_by _ _ u t which);
    from = subst⁻¹ (λ (n : ℕ). u < n) (stations_of net) hu;
    to = subst⁻¹ (λ (n : ℕ). t < n) (stations_of net) ht;
  }

  -- where no link crosses, the word has all that s reaches
  pub closed : (w : ℕ) → bit_at w s ≡ 1 → ((k : ℕ) → k < link_count net → test net works w k ≡ false) → (t : ℕ) → ReachesBy net works s t
      → bit_at w t ≡ 1
  closed w h none t r = reaches_keep (λ v. bit_at w v ≡ 1) over h r
    where
      over : (u v : ℕ) → Joined (network_of net) works u v → bit_at w u ≡ 1 → bit_at w v ≡ 1
      over u v j e =
          let k = j.link in
          let l : k < link_count net = subst (λ (n : ℕ). k < n) (links_of_lem net) j.exists in
          let lo = get_or net.low k 0 in
          let hi = get_or net.high k 0 in
          let tied : T ((eqb lo u && eqb hi v) || (eqb lo v && eqb hi u))
          = subst (λ (x : Ends). T ((eqb x.low u && eqb x.high v) || (eqb x.low v && eqb x.high u))) (ends_of net k l)
          j.tied in
          same_side (min net.stations station_room) lo hi (works k) w u v
          j.working
          (subst (λ (n : ℕ). u < n) (stations_of net) j.from) (subst (λ (n : ℕ). v < n) (stations_of net) j.to)
          tied (none k l) e

  -- a word that grows over a crossing link stays sound
  grows : (w r k : ℕ) → k < link_count net → Sound w
      → Crossing (min net.stations station_room) (get_or net.low k 0) (get_or net.high k 0) (works k) w
      → Apart (get_or net.low k 0) (get_or net.high k 0) w r → Sound r
  grows w r k l so x g t b = go (ℕ_discrete t g.new)
    where
      b' : bit_at (w + 2 ^ g.new) t ≡ 1
      b' = subst (λ (y : ℕ). bit_at y t ≡ 1) g.more b

      go : Dec (t ≡ g.new) → ReachesBy net works s t
      go (no n) = so t (sym (put_other w g.new t g.lacks n) ∙ b')
      go (yes q) = subst⁻¹ (ReachesBy net works s) q (⊎_elim
          (λ (e : (g.new ≡ get_or net.low k 0) × (bit_at w (get_or net.high k 0) ≡ 1)).
          subst⁻¹ (ReachesBy net works s) e.0 (reach_on (so _ e.1) (joined k _ _ l x.works x.high x.low (inr (refl, refl)))))
          (λ (e : (g.new ≡ get_or net.high k 0) × (bit_at w (get_or net.low k 0) ≡ 1)).
          subst⁻¹ (ReachesBy net works s) e.0 (reach_on (so _ e.1) (joined k _ _ l x.works x.low x.high (inl (refl, refl)))))
          g.which)

-- what holds between the turns of the outer loop
pub record Growing (net : Net) (works : ℕ → Bool) (s w : ℕ) : Type 0 where
  pub fits : w < 2 ^ 32
  pub self : bit_at w s ≡ 1
  pub sound : (t : ℕ) → bit_at w t ≡ 1 → ReachesBy net works s t

-- and of the inner one
pub record Searching (net : Net) (works : ℕ → Bool) (w k : ℕ) : Type 0 where
  pub le : k ≤ link_count net
  pub none : (j : ℕ) → j < k → test net works w j ≡ false

module _ (net : Net) (works : ℕ → Bool) (s : ℕ) where
  pub start : s < min net.stations station_room → (w : ℕ) → w ≡ 0 + 2 ^ s → Growing net works s w
  start h w e = record {
    fits = subst⁻¹ (λ (x : ℕ). x < 2 ^ 32) e (put_fits 0 s 32 (omega arith) (pow_pos 32) (none_in s));
    self = subst⁻¹ (λ (x : ℕ). bit_at x s ≡ 1) e (put_same 0 s (none_in s));
    sound = λ t b. go t b (ℕ_discrete t s);
  }
    where
      go : (t : ℕ) → bit_at w t ≡ 1 → Dec (t ≡ s) → ReachesBy net works s t
      go t b (yes q) = subst⁻¹ (ReachesBy net works s) q (reach_self (subst⁻¹ (λ (n : ℕ). s < n) (stations_of net) h))
      go t b (no n) = absurd (omega (arith, put_other 0 s t (none_in s) n, none_in t, ap (λ (x : ℕ). bit_at x t) e))

  pub turn : (w r k : ℕ) → k < link_count net → Growing net works s w → test net works w k ≡ true
      → Apart (get_or net.low k 0) (get_or net.high k 0) w r → Growing net works s r
  turn w r k l g t a = record {
    fits = subst⁻¹ (λ (x : ℕ). x < 2 ^ 32) a.more (put_fits w a.new 32 a.small g.fits a.lacks);
    self =
        subst⁻¹ (λ (x : ℕ). bit_at x s ≡ 1) a.more (put_other w a.new s a.lacks
        (λ e. omega (arith, ap (λ (x : ℕ). bit_at w x) e, a.lacks, g.self)) ∙ g.self);
    sound = grows net works s w r k l g.sound (crosses_true _ _ _ _ _ t) a;
  }

  pub done : (w k : ℕ) → Growing net works s w → Searching net works w k → link_count net ≤ k → w ≡ word_of (reach_of net works s)
  done w k g i h = word_is_reach net works s w g.fits g.sound (closed net works s w g.self (λ j l. i.none j (omega arith)))

  -- a station that is not there reaches nothing
  pub nobody : min net.stations station_room ≤ s → 0 ≡ word_of (reach_of net works s)
  nobody h =
      word_is_reach net works s 0 (pow_pos 32) (λ t e. absurd (omega (arith, none_in t)))
      (λ t r. absurd (omega (arith, subst (λ (n : ℕ). s < n) (stations_of net) r.station)))
