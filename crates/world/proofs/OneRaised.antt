-- How many counters an accepted event leaves higher than before: what the rule of its kind says, and one at the most. A timeout raises an
-- even counter, a reply to a test may raise its link's, a notice that is taken raises its subject's.
use Prim.Native.Nat.{ℕ, ◌≤◌, ◌<◌}
use mathlib.Core.Path.{◌≡◌, refl, sym, ap, ◌∙◌, subst⁻¹}
use lib.ListN.{get_or, set}
use lib.Dec.{T}
use lib.Seq.{get_or-set_same, get_or-set_other}
use Rattle.lists.specs.Lists.{sum_of, below}
use Rattle.lists.proofs.OneSum.{sum_only}
use Rattle.tally.specs.declared.Tally.{Tally}
use Rattle.station.specs.Holding.{Holding, higher}
use Rattle.station.specs.Events.{kind_of, counting}
use Rattle.station.proofs.Rules.{risen_same, rule_one, due_raises}
use Rattle.world.specs.World.{World, Event, nobody, holding_at, letter_at, exists, concerned, rule, comes, done, after, refusal}
use Rattle.world.specs.World.{settled, raised, dropped}
use Rattle.world.proofs.Steps.{taken}
use Rattle.world.proofs.Keeps.{Formed, concerned_real, concerned_holds, names}

module _ (w : World) (f : Formed w) where
  abbrev higher_at : ℕ → Holding → ℕ
  higher_at r g = higher w.net (holding_at w r) g

  -- a station is stored: only its counters can be higher
  stored_raises : (s : ℕ) (h : Holding) → s < w.net.stations
      → sum_of (λ r. higher_at r (get_or (set w.holdings s h) r nobody)) (below w.net.stations) ≡ higher_at s h
  stored_raises s h l =
      sum_only (λ r. higher_at r (get_or (set w.holdings s h) r nobody)) w.net.stations s l
      (λ r m n. ap (higher_at r) (get_or-set_other w.holdings s r h nobody n) ∙ risen_same w.net (holding_at w r) (holding_at w r) refl)
      ∙ ap (higher_at s) (get_or-set_same w.holdings s h nobody (subst⁻¹ (λ (n : ℕ). s < n) f.count l))

  module _ (e : Event) (x : T (exists w e)) where
    -- THE COUNTERS THAT AN EVENT LEAVES HIGHER, OVER ALL STATIONS AND LINKS, ARE AS MANY AS ITS RULE COUNTS,
    pub raised_counted : raised w e ≡ (comes w e).counts.raised
    unfolding raised after comes done rule
    raised_counted =
        let s = concerned w e in
        let h = holding_at w s in
        let real = concerned_real w f e x in
        stored_raises s (done w e).holding real
        ∙ due_raises w.net s h (concerned_holds w f e x) (exists w e) (kind_of e.kind) e.b (letter_at w e.a) (names w f e) real

    -- and so the three numbers of the tally are the rule's
    pub counts_are : (comes w e).counts ≡ counting (settled w e) (raised w e) (dropped w e)
    counts_are = ap (λ (n : ℕ). counting (settled w e) n (dropped w e)) (sym raised_counted)

pub raised_is : (w : World) (e : Event) → Formed w → refusal w e ≡ 0 → raised w e ≡ (rule w e).counts.raised
raised_is w e f q = let t = taken w e q in raised_counted w f e t.exists ∙ ap (λ (c : Tally). c.raised) t.counts

-- AN ACCEPTED EVENT RAISES ONE COUNTER AT THE MOST.
pub one_raised : (w : World) (e : Event) → Formed w → refusal w e ≡ 0 → raised w e ≤ 1
unfolding rule
one_raised w e f q =
    subst⁻¹ (λ (n : ℕ). n ≤ 1) (raised_is w e f q)
    (rule_one (concerned w e) (kind_of e.kind) e.b (letter_at w e.a) (holding_at w (concerned w e)))
