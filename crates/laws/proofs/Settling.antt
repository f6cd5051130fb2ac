-- The world as a flood over ranks: an accepted delivery or loss of a notice settles one there, and no station changes its
-- condition. What the receiver does is known by the station's laws alone. The theorem over runs: Demand3.
use Rattle.std.specs.Prelude.{if◌then◌else◌}
use Prim.Native.Nat.{ℕ, suc, ◌-◌, ◌≤◌, ◌<◌}
use mathlib.Core.Bool.{Bool, true, false, not}
use mathlib.Core.Path.{◌≡◌, refl, ap, ◌∙◌, subst, subst⁻¹}
use mathlib.Core.Logic.{inl, inr, ⊎_elim}
use mathlib.Core.List.Memᴰ
use mathlib.Core.List.{List, [], ◌∷◌, ◌++◌, append-nil}
use native.Mathlib.Decide.{ℕ_discrete}
use native.Mathlib.Nat.{le_trans}
use lib.Dec.{T, ltb, ltb→lt}
use lib.ListN.{length, get_or, set, take, drop}
use lib.Seq.{get_or-set_same, get_or-set_other, set-get_or}
use Rattle.lists.specs.Lists.{every}
use Rattle.lists.specs.Places.{without, collect}
use Rattle.lists.proofs.Tests.{and_l, and_r}
use Rattle.lists.proofs.Places.{collect_at, collect_without}
use Rattle.net.specs.declared.Body.{Body}
use Rattle.net.specs.declared.Body.TheVariants.{Request, Reply, Notice}
use Rattle.net.specs.declared.Letter.{Letter}
use Rattle.net.specs.Network.{Network, other}
use Rattle.net.specs.Letters.{body_holds}
use Rattle.counters.specs.Counters.{newer}
use Rattle.station.specs.declared.Kind.{Kind}
use Rattle.station.specs.declared.Kind.TheVariants.{NoSuch, Start, Stop, Recovery, IntervalEnd, TimeoutEnd, QuietEnd, Delivery, Loss}
use Rattle.station.specs.Holding.{Holding, counter, is_live}
use Rattle.station.specs.Acts.{Act}
use Rattle.station.specs.Done.{Done, done_by}
use Rattle.station.proofs.Doing.{unchanged, answer, delivery_act, received}
use Rattle.station.specs.Events.{kind_of, takes_letter, is_notice, rule_at}
use Rattle.station.proofs.Answers.{heard}
use Rattle.station.proofs.Rises.{Took, notice_takes, notice_drops, received_gone}
use Rattle.station.proofs.Counts.{is_notice_lem, Spreads, notice_spreads}
use Rattle.station.proofs.Counts as Counts
use Rattle.world.specs.World.{World, Event, nobody, no_letter, holding_at, letter_at, exists_as, exists, receiver_in, concerned_by}
use Rattle.world.specs.World.{concerned, rule, left, after, refusal}
use Rattle.world.proofs.Steps.{taken}
use Rattle.world.proofs.Keeps.{Formed, Posted, at_posted, step_formed}
use Rattle.laws.specs.Flood.{takes_notice, neighbours}
use Rattle.laws.proofs.Neighbours.{neighbours_count}
use Rattle.ranks.specs.Flood as R
use Rattle.ranks.specs.Flood.{Flood, Site, ◌∈◌, Gone, Settles}

-- ---- the world as a flood over ranks
abbrev pub notice_of : Network → ℕ → ℕ → Body → List R.Notice
notice_of net k s Request = []
notice_of net k s (Reply c) = []
notice_of net k s (Notice j c) = record { over = k; sender = s; receiver = other net k s; subject = j; rank = c } ∷ []

abbrev pub notice : Network → Letter → List R.Notice
notice net x = notice_of net x.link x.sender x.body

abbrev pub flood_of : World → Flood
flood_of w = record { rank = λ s k. counter (holding_at w s) k; flying = collect (notice w.net) w.letters }

-- a live station passes a notice on to its neighbours less one at the most, any other station to none
abbrev pub weight_in : World → ℕ → ℕ
weight_in w s = if is_live (holding_at w s).condition then (length (neighbours w.net s) - 1) else 0

abbrev pub site_of : World → Site
site_of w = record { stations = w.net.stations; links = length w.net.links; weight = weight_in w }

-- ---- alike letters as notices
module _ (net : Network) (j c : ℕ) where
  abbrev says : Letter → Bool
  says x = Counts.is_notice j c x.body

  copies_length : (xs : List Letter) → T (every says xs) → length (collect (notice net) xs) ≡ length xs
  copies_length [] t = refl
  copies_length (x ∷ xs) t =
      ap (λ (b : Body). length (notice_of net x.link x.sender b ++ collect (notice net) xs))
      (is_notice_lem j c x.body (and_l (says x) _ t))
      ∙ ap suc (copies_length xs (and_r (says x) _ t))

  copies_alike : (xs : List Letter) → T (every says xs) → (y : R.Notice) → y ∈ collect (notice net) xs → (y.subject ≡ j) × (y.rank ≡ c)
  copies_alike [] t y m = absurd (Memᴰ.not-nil m)
  copies_alike (x ∷ xs) t y m =
      ⊎_elim (λ e. (ap (λ (z : R.Notice). z.subject) e, ap (λ (z : R.Notice). z.rank) e)) (λ n. copies_alike xs (and_r (says x) _ t) y n)
      (Memᴰ.cases_cons (subst (λ (b : Body). y ∈ (notice_of net x.link x.sender b ++ collect (notice net) xs))
      (is_notice_lem j c x.body (and_l (says x) _ t)) m))

-- ---- one event
-- what stays in such a run: the network, and which stations are live
pub record Fits (site : Site) (w : World) : Type 0 where
  pub ok : Formed w
  pub stations : w.net.stations ≡ site.stations
  pub links : length w.net.links ≡ site.links
  pub heavy : (s : ℕ) → T (is_live (holding_at w s).condition) → length (neighbours w.net s) - 1 ≤ site.weight s

module _ (site : Site) (w : World) (f : Fits site w) (a : ℕ) (h : a < length w.letters) (j c : ℕ) (q : (letter_at w a).body ≡ Notice j c)
  where
    abbrev k : ℕ
    k = (letter_at w a).link

    abbrev r : ℕ
    r = receiver_in w.net (letter_at w a)

    abbrev here : Holding
    here = holding_at w r

    abbrev it : R.Notice
    it = record { over = k; sender = (letter_at w a).sender; receiver = r; subject = j; rank = c }

    abbrev before : List R.Notice
    before = collect (notice w.net) (take a w.letters)

    abbrev behind : List R.Notice
    behind = collect (notice w.net) (drop (suc a) w.letters)

    was : collect (notice w.net) w.letters ≡ before ++ it ∷ behind
    was = collect_at (notice w.net) w.letters a no_letter it h (ap (notice_of w.net k (letter_at w a).sender) q)

    now : (xs : List Letter) → collect (notice w.net) (without a w.letters ++ xs) ≡ (before ++ behind) ++ collect (notice w.net) xs
    now xs = collect_without (notice w.net) w.letters a xs

    posted : Posted w (letter_at w a)
    posted = at_posted w f.ok a h

    subject_real : j < length w.net.links
    subject_real = ltb→lt j _ (and_l (ltb j (length w.net.links)) _ (subst (λ (b : Body). T (body_holds w.net b)) q posted.body))

    in_holdings : r < length w.holdings
    in_holdings = subst⁻¹ (λ (n : ℕ). receiver_in w.net (letter_at w a) < n) f.ok.count posted.real

    -- the notice is taken off, and no holding changes
    gone : (hs : List Holding) → hs ≡ w.holdings
        → Gone (flood_of w) (flood_of (record { net = w.net; holdings = hs; letters = without a w.letters ++ [] }))
    gone hs e =
        record {
          before = before;
          it = it;
          after = behind;
          was = was;
          now = now [] ∙ append-nil (before ++ behind);
          same = λ s i. ap (λ (xs : List Holding). counter (get_or xs s nobody) i) e;
        }

    -- the world after its receiver has done so: the notice is settled, and the receiver stays in its condition
    abbrev Goal : Done → Type 0
    Goal d =
        let v : World = record { net = w.net; holdings = set w.holdings r d.holding; letters = without a w.letters ++ d.sent } in
        Settles site (flood_of w) (flood_of v) × (d.holding.condition ≡ here.condition)

    dropped : Goal (unchanged here)
    dropped = (inl (gone (set w.holdings r here) (set-get_or w.holdings r nobody)), refl)

    kept : (d : Done) → T (is_live here.condition) → Took w.net r j c here d.holding → Spreads w.net r k j c here d.sent
        → Goal d
    kept d live t sp = (
      inr (record {
        before = before;
        it = it;
        after = behind;
        copies = collect (notice w.net) d.sent;
        was = was;
        now = now d.sent;
        station = subst (λ (n : ℕ). receiver_in w.net (letter_at w a) < n) f.stations posted.real;
        link = subst (λ (n : ℕ). j < n) f.links subject_real;
        newer = t.newer;
        takes = ap (λ (g : Holding). counter g j) (get_or-set_same w.holdings r d.holding nobody in_holdings) ∙ t.takes;
        others = λ s i z. others s i z (ℕ_discrete s r);
        few = subst⁻¹ (λ (n : ℕ). n ≤ site.weight r) (copies_length w.net j c d.sent sp.alike)
            (le_trans (subst⁻¹ (λ (n : ℕ). length d.sent ≤ n - 1) (neighbours_count w.net f.ok.sheet r) sp.few)
            (f.heavy r live));
        alike = copies_alike w.net j c d.sent sp.alike;
      }),
      t.condition,
    )
      where
        others : (s i : ℕ) → ((s ≡ r) × (i ≡ j) → ⊥) → Dec (s ≡ r)
            → counter (get_or (set w.holdings r d.holding) s nobody) i ≡ counter (holding_at w s) i
        others s i z (yes e) =
            rw e (ap (λ (g : Holding). counter g i) (get_or-set_same w.holdings r d.holding nobody in_holdings)
            ∙ t.others i (λ p. z (e, p)))
        others s i z (no e) = ap (λ (g : Holding). counter g i) (get_or-set_other w.holdings r s d.holding nobody e)

    delivered : Goal (received w.net r (letter_at w a) here)
    delivered = go (heard (letter_at w a) here) (newer (counter here j) c) refl refl
      where
        passed : (x : Bool) → x ≡ true → T x
        passed x e = subst⁻¹ T e tt

        failed : (x : Bool) → x ≡ false → T (not x)
        failed x e = subst⁻¹ (λ (b : Bool). T (not b)) e tt

        go : (x y : Bool) → heard (letter_at w a) here ≡ x → newer (counter here j) c ≡ y → Goal (received w.net r (letter_at w a) here)
        go false y p u = subst⁻¹ Goal (received_gone w.net r here (letter_at w a) (failed _ p)) dropped
        go true false p u = subst⁻¹ Goal (notice_drops w.net r here (letter_at w a) j c q (passed _ p) (failed _ u)) dropped
        go true true p u =
            let t = passed (heard (letter_at w a) here) p in
            kept (received w.net r (letter_at w a) here) (and_l (is_live here.condition) _ t)
            (notice_takes w.net r here (letter_at w a) (f.ok.each r posted.real) j c q subject_real t (passed _ u))
            (notice_spreads w.net r here (letter_at w a) posted.link posted.end j c q)

    -- the other stations stay as they are
    conditions : (d : Done) → d.holding.condition ≡ here.condition → (s : ℕ)
        → (get_or (set w.holdings r d.holding) s nobody).condition ≡ (holding_at w s).condition
    conditions d e s = go (ℕ_discrete s r)
      where
        go : Dec (s ≡ r) → (get_or (set w.holdings r d.holding) s nobody).condition ≡ (holding_at w s).condition
        go (yes p) = rw (p, get_or-set_same w.holdings r d.holding nobody in_holdings) e
        go (no p) = ap (λ (g : Holding). g.condition) (get_or-set_other w.holdings r s d.holding nobody p)

-- ---- an accepted event that takes off a notice
notice_is : (b : Body) → T (is_notice b) → (j : ℕ) × (c : ℕ) × (b ≡ Notice j c)
notice_is Request t = absurd t
notice_is (Reply c) t = absurd t
notice_is (Notice j c) t = (j, c, refl)

module _ (site : Site) where
  fits_still : (u v : World) → v.net ≡ u.net → ((s : ℕ) → (holding_at v s).condition ≡ (holding_at u s).condition) → Formed v → Fits site u
      → Fits site v
  fits_still u v n e ok f =
      record {
        ok = ok;
        stations = ap (λ (x : Network). x.stations) n ∙ f.stations;
        links = ap (λ (x : Network). length x.links) n ∙ f.links;
        heavy = λ s t. rw n (f.heavy s (rw (e s) at t));
      }

  abbrev Step : World → World → Type 0
  Step u v = Settles site (flood_of u) (flood_of v) × ((v.net ≡ u.net) × ((s : ℕ) → (holding_at v s).condition ≡ (holding_at u s).condition))

  -- the world after an event for which d was done
  abbrev stored : World → Event → Done → World
  stored u e d = record { net = u.net; holdings = set u.holdings (concerned u e) d.holding; letters = left u e ++ d.sent }

  -- by its kind: a letter that is taken off is delivered or lost
  abbrev acted : Kind → World → ℕ → Act → World
  acted k u a y =
      let r = concerned_by k u.net a (letter_at u a) in
      let d = done_by u.net r (holding_at u r) y in
      record {
        net = u.net;
        holdings = set u.holdings r d.holding;
        letters = (if takes_letter k then without a u.letters else u.letters) ++ d.sent;
      }

  abbrev ruled : Kind → World → ℕ → ℕ → World
  ruled k u a b =
      let r = concerned_by k u.net a (letter_at u a) in
      acted k u a (rule_at r k b (letter_at u a) (holding_at u r)).act

  as_kind : (k : Kind) (u : World) (a b : ℕ) → Fits site u → T (exists_as k u.net (length u.letters) a b)
      → T (takes_notice k (letter_at u a)) → Step u (ruled k u a b)
  unfolding answer done_by
  as_kind NoSuch u a b f x t = absurd t
  as_kind Start u a b f x t = absurd t
  as_kind Stop u a b f x t = absurd t
  as_kind Recovery u a b f x t = absurd t
  as_kind IntervalEnd u a b f x t = absurd t
  as_kind TimeoutEnd u a b f x t = absurd t
  as_kind QuietEnd u a b f x t = absurd t
  as_kind Delivery u a b f x t =
      let h = ltb→lt a _ (and_l (ltb a (length u.letters)) _ x) in
      let n = notice_is (letter_at u a).body t in
      let r = receiver_in u.net (letter_at u a) in
      let d = delivered site u f a h n.0 n.1 n.2 in
      subst⁻¹ (λ (y : Act). Step u (acted Delivery u a y)) (delivery_act r b (letter_at u a) (holding_at u r))
      (d.0, (refl, conditions site u f a h n.0 n.1 n.2 (received u.net r (letter_at u a) (holding_at u r)) d.1))
  as_kind Loss u a b f x t =
      let h = ltb→lt a _ (and_l (ltb a (length u.letters)) _ x) in
      let n = notice_is (letter_at u a).body t in
      let r = receiver_in u.net (letter_at u a) in
      let d = dropped site u f a h n.0 n.1 n.2 in
      (d.0, (refl, conditions site u f a h n.0 n.1 n.2 (unchanged (holding_at u r)) d.1))

  pub settles : (u : World) (e : Event) → Fits site u → refusal u e ≡ 0
      → T (takes_notice (kind_of e.kind) (letter_at u e.a)) → Settles site (flood_of u) (flood_of (after u e)) × Fits site (after u e)
  unfolding after rule concerned left exists
  settles u e f q t =
      let x = taken u e q in
      let k = as_kind (kind_of e.kind) u e.a e.b f x.exists t in
      let p = subst⁻¹ (λ (d : Done). Step u (stored u e d)) x.done k in
      (p.0, fits_still u (after u e) p.1.0 p.1.1 (step_formed u e f.ok q) f)
