-- One settling pays for itself: it takes one notice off, and a station that sends copies came nearer to the highest ranks.
-- The bound of a whole run: FloodDiesOut.antt.
use Prim.Native.Nat.{ℕ, ◌+◌, ◌-◌, ◌≤◌, ◌<◌}
use mathlib.Core.Path.{◌≡◌, sym, ap}
use mathlib.Core.Logic.{◌⊎◌, ⊎_elim}
use mathlib.Core.List.Memᴰ
use mathlib.Core.List.{◌++◌}
use native.Mathlib.Decide.{ℕ_discrete}
use native.Mathlib.Nat.{le_refl, le_of_eq, mul-le-mul_left, mul-add, mul-one}
use native.Mathlib.Omega.{arith}
use lib.ListN.{length, length-append}
use Rattle.lists.proofs.Places.{in_middle, was_in}
use Rattle.lists.proofs.Sums.{sum_le, sum_less}
use Rattle.ranks.specs.Flood.{Notice, Flood, Site, ◌∈◌, Gone, Taken, Settles}
use Rattle.ranks.specs.Bound.{distance, share, potential}

-- no rank, in a table or in flight, lies above top's
pub record Under (site : Site) (top : ℕ → ℕ) (F : Flood) : Type 0 where
  pub tables : (s k : ℕ) → s < site.stations → F.rank s k ≤ top k
  pub notices : (y : Notice) → y ∈ F.flying → y.rank ≤ top y.subject

-- from F to G n notices are paid for, no rank falls, and none passes top's
pub record Pays (site : Site) (top : ℕ → ℕ) (F : Flood) (n : ℕ) (G : Flood) : Type 0 where
  pub under : Under site top G
  pub paid : n + potential site top G ≤ potential site top F
  pub rises : (s k : ℕ) → F.rank s k ≤ G.rank s k

-- ---- one settling: what is in flight after it, and the ranks
pub gone_flying : {F G : Flood} → Gone F G → length G.flying + 1 ≡ length F.flying
gone_flying c = omega (arith, simp length-append at (ap length c.was), simp length-append at (ap length c.now))

pub taken_flying : {site : Site} {F G : Flood} (c : Taken site F G) → length G.flying + 1 ≡ length F.flying + length c.copies
taken_flying c = omega (arith, simp length-append at (ap length c.was), simp length-append at (ap length c.now))

-- what holds of every rank before and of the one that is taken holds of every rank after
pub taken_ranks : {site : Site} {F G : Flood} (c : Taken site F G) (P : ℕ → ℕ → ℕ → Type 0)
    → P c.it.receiver c.it.subject c.it.rank
    → ((s k : ℕ) → P s k (F.rank s k)) → (s k : ℕ) → P s k (G.rank s k)
taken_ranks {site} {F} {G} c P new old s k = go (ℕ_discrete s c.it.receiver) (ℕ_discrete k c.it.subject)
  where
    go : Dec (s ≡ c.it.receiver) → Dec (k ≡ c.it.subject) → P s k (G.rank s k)
    go (yes p) (yes q) = rw (p, q, c.takes) new
    go (yes p) (no q) = rw (c.others s k (λ r. q r.1)) (old s k)
    go (no p) r = rw (c.others s k (λ r. p r.0)) (old s k)

pub taken_rises : {site : Site} {F G : Flood} → Taken site F G → (s k : ℕ) → F.rank s k ≤ G.rank s k
taken_rises {site} {F} {G} c = taken_ranks c (λ s k x. F.rank s k ≤ x) (omega (arith, c.newer)) (λ s k. le_refl (F.rank s k))

-- ---- and what it pays
module _ (site : Site) (top : ℕ → ℕ) where
  distance_le : (F G : Flood) (s : ℕ) → ((k : ℕ) → F.rank s k ≤ G.rank s k) → distance site top G s ≤ distance site top F s
  unfolding distance
  distance_le F G s h = sum_le (λ k. top k - F.rank s k) (λ k. top k - G.rank s k) site.links (λ j p. omega (arith, h j))

  -- where no rank falls, no share grows
  share_le : (F G : Flood) → ((s k : ℕ) → F.rank s k ≤ G.rank s k) → (s : ℕ) → share site top G s ≤ share site top F s
  unfolding share
  share_le F G h s = mul-le-mul_left _ (distance_le F G s (h s))

  gone_pays : (F G : Flood) → Under site top F → Gone F G → Pays site top F 1 G
  unfolding potential
  gone_pays F G u c =
      let rises : (s k : ℕ) → F.rank s k ≤ G.rank s k = λ s k. le_of_eq (sym (c.same s k)) in
      record {
        paid = omega (
          arith,
          sum_le (share site top F) (share site top G) site.stations (λ j p. share_le F G rises j),
          gone_flying c,
        );
        rises = rises;
        under = record {
          tables = λ s k p. rw (c.same s k) (u.tables s k p);
          notices = λ y m. u.notices y (rw c.was (was_in y c.it c.before c.after (rw c.now at m)));
        };
      }

  module _ (F G : Flood) (u : Under site top F) (c : Taken site F G) where
    it_under : c.it.rank ≤ top c.it.subject
    it_under = u.notices c.it (rw c.was (in_middle c.it c.before c.after))

    -- its receiver comes nearer by one at least
    nearer : distance site top G c.it.receiver + 1 ≤ distance site top F c.it.receiver
    unfolding distance
    nearer =
        sum_less (λ k. top k - F.rank c.it.receiver k) (λ k. top k - G.rank c.it.receiver k) 1 c.it.subject site.links
        c.link
        (λ j p. omega (arith, taken_rises c c.it.receiver j))
        (omega (arith, c.takes, c.newer, it_under))

    -- so its share falls by its weight, which pays for the copies
    share_less : share site top G c.it.receiver + site.weight c.it.receiver ≤ share site top F c.it.receiver
    unfolding share
    share_less =
        omega (
          arith,
          mul-le-mul_left (site.weight c.it.receiver) nearer,
          mul-add (site.weight c.it.receiver) (distance site top G c.it.receiver) 1,
          mul-one (site.weight c.it.receiver),
        )

    taken_pays : Pays site top F 1 G
    unfolding potential
    taken_pays = record {
      paid = omega (
        arith,
        sum_less (share site top F) (share site top G) (site.weight c.it.receiver) c.it.receiver site.stations c.station
            (λ j p. share_le F G (taken_rises c) j) share_less,
        c.few,
        taken_flying c,
      );
      rises = taken_rises c;
      under = record {
        tables = taken_ranks c (λ s k x. s < site.stations → x ≤ top k) (λ p. it_under) u.tables;
        notices = λ y m. ⊎_elim
            (λ n. u.notices y (rw c.was (was_in y c.it c.before c.after n)))
            (λ n. let e = c.alike y n in rw (e.0, e.1) it_under)
            (Memᴰ.append_cases (c.before ++ c.after) (rw c.now at m));
      };
    }

  pub settling_pays : (F G : Flood) → Under site top F → Settles site F G → Pays site top F 1 G
  settling_pays F G u c = ⊎_elim (gone_pays F G u) (taken_pays F G u) c
