-- DEMAND 3. A FLOOD OF NOTICES DIES OUT, for document 01's machine.
use Rattle.std.specs.Prelude.{if◌then◌else◌}
use Prim.Native.Nat.{ℕ, ◌+◌, ◌*◌, ◌-◌, ◌≤◌, ◌<◌, max}
use mathlib.Core.Bool.{Bool, true, false, ◌&&◌}
use mathlib.Core.Path.{◌≡◌, refl, ap, ap₂, ◌∙◌, subst, subst⁻¹}
use mathlib.Core.List.{List, [], ◌∷◌, ◌++◌, append-nil}
use native.Mathlib.Nat.{le_refl, zero-mul}
use native.Mathlib.Omega.{arith}
use lib.Dec.{T, eqb, eqb→eq}
use lib.ListN.{length}
use Rattle.lists.specs.Lists.{below}
use Rattle.lists.specs.Places.{collect, largest_of}
use Rattle.lists.specs.Words.{bit}
use Rattle.lists.proofs.Tests.{T_is, and_l, and_r, and_i}
use Rattle.lists.proofs.OneSum.{sum_same}
use Rattle.tally.specs.declared.Tally.{Tally}
use Rattle.net.specs.declared.Body.{Body}
use Rattle.net.specs.declared.Body.TheVariants.{Request, Reply, Notice}
use Rattle.net.specs.declared.Letter.{Letter}
use Rattle.net.specs.Network.{Network}
use Rattle.station.specs.Holding.{counter, is_live}
use Rattle.station.specs.Events.{kind_of, takes_letter, is_notice}
use Rattle.station.proofs.Tallies.{rule_settles}
use Rattle.world.specs.World.{World, Event, holding_at, letter_at, concerned, rule, refusal, accepted, next}
use Rattle.world.specs.World.{well_formed, notices_of, settled}
use Rattle.world.specs.History.{run, total, ever_settled}
use Rattle.world.proofs.Steps.{is_accepted, step_accepts, taken}
use Rattle.world.proofs.Keeps.{Formed, formed}
use Rattle.world.proofs.Ledger.{run_append}
use Rattle.laws.specs.Flood.{takes_notice, only_notices, Begins, carried, highest, neighbours, distance, share, bound}
use Rattle.laws.proofs.Settling.{notice_of, notice, flood_of, weight_in, site_of, Fits, settles}
use Rattle.ranks.specs.Flood as R
use Rattle.ranks.specs.Flood.{Site, Settles, Run}
use Rattle.ranks.specs.Bound as B
use Rattle.ranks.proofs.FloodDiesOut.{flood_dies_out}

-- ---- the first event of such a run is accepted and takes off a notice
module _ (w : World) (e : Event) (es : List Event) (t : T (only_notices w (e ∷ es))) where
  abbrev none : Bool
  none = eqb (refusal w e) 0

  abbrev takes : Bool
  takes = takes_notice (kind_of e.kind) (letter_at w e.a)

  first_accepted : refusal w e ≡ 0
  unfolding only_notices
  first_accepted = eqb→eq (refusal w e) 0 (and_l none _ (and_l (none && takes) _ t))

  first_notice : T takes
  unfolding only_notices
  first_notice = and_r none _ (and_l (none && takes) _ t)

  then_only : T (only_notices (next w e) es)
  unfolding only_notices
  then_only = and_r (none && takes) _ t

-- ---- every beginning of such a run is one, and so is what follows it
pub begins_only : (w : World) (ds fs : List Event) → T (only_notices w (ds ++ fs)) → T (only_notices w ds)
unfolding only_notices
begins_only w [] fs t = tt
begins_only w (e ∷ ds) fs t =
    let first : Bool = eqb (refusal w e) 0 && takes_notice (kind_of e.kind) (letter_at w e.a) in
    and_i first _ (and_l first _ t) (begins_only (next w e) ds fs (and_r first _ t))

pub follows_only : (w : World) (ds fs : List Event) → T (only_notices w (ds ++ fs)) → T (only_notices (run w ds) fs)
unfolding run
follows_only w [] fs t = t
follows_only w (e ∷ ds) fs t = follows_only (next w e) ds fs (then_only w e (ds ++ fs) t)

-- ---- so the run is one over ranks, and what stays in it is still so at its end
runs : (site : Site) (w : World) (es : List Event) → Fits site w → T (only_notices w es)
    → Run site (flood_of w) (length es) (flood_of (run w es)) × Fits site (run w es)
unfolding run
runs site w [] f t = (R.none, f)
runs site w (e ∷ es) f t =
    let q = first_accepted w e es t in
    let p = subst⁻¹ (λ (v : World). Settles site (flood_of w) (flood_of v) × Fits site v) (step_accepts w e q)
    (settles site w e f q (first_notice w e es t)) in
    let r = runs site (next w e) es p.1 (then_only w e es t) in
    (R.more p.0 r.0, r.1)

-- each event of such a run settles one notice: the count is of events in the history
settled_one : (w : World) (e : Event) → refusal w e ≡ 0 → T (takes_notice (kind_of e.kind) (letter_at w e.a))
    → settled w e ≡ 1
unfolding rule
settled_one w e q t =
    let k = kind_of e.kind in
    let x = letter_at w e.a in
    let takes = T_is (takes_letter k) (and_l (takes_letter k) _ t) in
    let notice = T_is (is_notice x.body) (and_r (takes_letter k) _ t) in
    ap (λ (c : Tally). c.settled) (taken w e q).counts
    ∙ rule_settles (concerned w e) e.b x (holding_at w (concerned w e)) k
    ∙ ap₂ (λ (a b : Bool). if a then bit b else 0) takes notice

pub settled_is_length : (w : World) (es : List Event) → T (only_notices w es) → ever_settled w es ≡ length es
unfolding total
settled_is_length w [] t = refl
settled_is_length w (e ∷ es) t =
    let q = first_accepted w e es t in
    let n = settled_one w e q (first_notice w e es t) in
    let one : (if accepted w e then settled w e else 0) ≡ 1 = ap (λ (b : Bool). if b then settled w e else 0) (is_accepted w e q) ∙ n in
    omega (arith, settled_is_length (next w e) es (then_only w e es t))

-- ---- the bound over ranks is the mission's
notices_count : (net : Network) (xs : List Letter) → length (collect (notice net) xs) ≡ notices_of xs
notices_count net [] = refl
notices_count net (x ∷ xs) = go x.body (notices_count net xs)
  where
    go : (b : Body) → length (collect (notice net) xs) ≡ notices_of xs
        → length (notice_of net x.link x.sender b ++ collect (notice net) xs) ≡ bit (is_notice b) + notices_of xs
    go Request e = omega arith
    go (Reply c) e = omega arith
    go (Notice j c) e = omega arith

notices_highest : (net : Network) (k : ℕ) (xs : List Letter)
    → largest_of (B.carried k) (collect (notice net) xs) ≡ largest_of (λ x. carried k x.body) xs
notices_highest net k [] = refl
notices_highest net k (x ∷ xs) = go x.body (notices_highest net k xs)
  where
    go : (b : Body) → largest_of (B.carried k) (collect (notice net) xs) ≡ largest_of (λ x. carried k x.body) xs
        → largest_of (B.carried k) (notice_of net x.link x.sender b ++ collect (notice net) xs) ≡ max (carried k b)
        (largest_of (λ x. carried k x.body) xs)
    go Request e = omega arith
    go (Reply c) e = omega arith
    go (Notice j c) e = ap (λ (n : ℕ). max (if eqb j k then c else 0) n) e

module _ (w : World) where
  highest_is : (k : ℕ) → B.highest (site_of w) (flood_of w) k ≡ highest w k
  unfolding highest B.highest
  highest_is k =
      ap (λ (n : ℕ). max (largest_of (λ s. counter (holding_at w s) k) (below w.net.stations)) n)
      (notices_highest w.net k w.letters)

  distance_is : (s : ℕ) → B.distance (site_of w) (B.highest (site_of w) (flood_of w)) (flood_of w) s ≡ distance w (holding_at w s)
  unfolding distance B.distance
  distance_is s =
      sum_same (λ k. B.highest (site_of w) (flood_of w) k - counter (holding_at w s) k) (λ k. highest w k - counter (holding_at w s) k)
      (below (length w.net.links))
      (λ k. ap (λ (n : ℕ). n - counter (holding_at w s) k) (highest_is k))

  share_is : (s : ℕ) → B.share (site_of w) (B.highest (site_of w) (flood_of w)) (flood_of w) s ≡ share w s
  unfolding share B.share
  share_is s =
      ap (λ (n : ℕ). weight_in w s * n) (distance_is s)
      ∙ by_condition (is_live (holding_at w s).condition) (length (neighbours w.net s) - 1) (distance w (holding_at w s))
    where
      by_condition : (b : Bool) (d x : ℕ) → (if b then d else 0) * x ≡ (if b then d * x else 0)
      by_condition true d x = refl
      by_condition false d x = zero-mul x

  bound_is : B.bound (site_of w) (flood_of w) ≡ bound w
  unfolding bound B.bound B.potential
  bound_is =
      ap₂ ◌+◌ (notices_count w.net w.letters)
      (sum_same (B.share (site_of w) (B.highest (site_of w) (flood_of w)) (flood_of w)) (share w) (below w.net.stations) share_is)

  at_start : Formed w → Fits (site_of w) w
  at_start ok =
      record { ok = ok; stations = refl; links = refl; heavy = λ s t. rw (T_is (is_live (holding_at w s).condition) t) (le_refl _) }

-- A live station without neighbours adds nothing.
pub alone_adds_nothing : (w : World) (s : ℕ) → T (is_live (holding_at w s).condition) → neighbours w.net s ≡ [] → share w s ≡ 0
unfolding share
alone_adds_nothing w s t e =
    ap₂ (λ (b : Bool) (ns : List ℕ). if b then (length ns - 1) * distance w (holding_at w s) else 0)
    (T_is (is_live (holding_at w s).condition) t) e
    ∙ zero-mul (distance w (holding_at w s))

-- What is claimed of a history es from the world w, at every moment of it: after its first events ds, however many they are.
pub record DiesOut (w : World) (es : List Event) : Type 0 where
  -- the notices settled so far are never more than those in flight at the start, plus, for each live station, the number of its
  -- neighbours less one, times the sum over all links of how far its counter lies below the highest one for that link
  pub settled : (ds : List Event) → Begins ds es → ever_settled w ds ≤ bound w
  -- from any moment to any later one
  pub no_counter_falls : (ds fs : List Event) → Begins (ds ++ fs) es → (s k : ℕ)
      → counter (holding_at (run w ds) s) k ≤ counter (holding_at (run w (ds ++ fs)) s) k
  -- the highest one in any table or notice in flight at the start
  pub none_passes : (ds : List Event) → Begins ds es → (s k : ℕ) → s < w.net.stations → counter (holding_at (run w ds) s) k ≤ highest w k

-- the last moment, and the first
pub at_the_end : (es : List Event) → Begins es es
at_the_end es = record { rest = []; whole = append-nil es }

pub at_the_start : (es : List Event) → Begins [] es
at_the_start es = record { rest = es; whole = refl }

-- A FLOOD OF NOTICES DIES OUT. Take any well-formed state and any run made only of accepted deliveries and losses of notices,
-- with no other event in it. The notices settled in it are never more than those in flight at its start, plus, for each live
-- station, the number of its neighbours less one, times the sum over all links of how far its counter lies below the highest
-- one for that link in any table or notice in flight at the start. A live station without neighbours adds nothing. No counter
-- falls in such a run or passes that highest one.
pub flood_of_notices_dies_out : (w : World) (es : List Event) → T (well_formed w) → T (only_notices w es) → DiesOut w es
flood_of_notices_dies_out w es t o =
    record {
      settled = λ ds b. omega (arith, (so_far ds (only ds b)).settled, settled_is_length w ds (only ds b), bound_is w);
      no_counter_falls =
          λ ds fs b s k. subst⁻¹ (λ (v : World). counter (holding_at (run w ds) s) k ≤ counter (holding_at v s) k) (run_append w ds fs)
          ((later ds fs (only (ds ++ fs) b)).no_rank_falls s k);
      none_passes =
          λ ds b s k h. subst (λ (n : ℕ). counter (holding_at (run w ds) s) k ≤ n) (highest_is w k)
          ((so_far ds (only ds b)).none_passes s k h);
    }
  where
    only : (ds : List Event) → Begins ds es → T (only_notices w ds)
    only ds b = begins_only w ds b.rest (subst⁻¹ (λ (l : List Event). T (only_notices w l)) b.whole o)

    from_start : (ds : List Event) → T (only_notices w ds)
        → Run (site_of w) (flood_of w) (length ds) (flood_of (run w ds)) × Fits (site_of w) (run w ds)
    from_start ds p = runs (site_of w) w ds (at_start w (formed w t)) p

    so_far : (ds : List Event) → T (only_notices w ds) → B.DiesOut (site_of w) (flood_of w) (length ds) (flood_of (run w ds))
    so_far ds p = flood_dies_out (site_of w) (from_start ds p).0

    later : (ds fs : List Event) → T (only_notices w (ds ++ fs))
        → B.DiesOut (site_of w) (flood_of (run w ds)) (length fs) (flood_of (run (run w ds) fs))
    later ds fs p =
        flood_dies_out (site_of w) (runs (site_of w) (run w ds) fs (from_start ds (begins_only w ds fs p)).1 (follows_only w ds fs p)).0
