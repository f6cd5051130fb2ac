use Rattle.std.proofs.Common.{◌≡◌, ℕ, true, false, arith, below_more}
use Rattle.lists.specs.Words.{in_word}
use Rattle.reach.proofs.Search.{test, test_seen, start, turn, done, nobody}
use Rattle.reach.proofs.reach_word.Goals as goal

pub returns-then-n-s : goal.returns-then-n-s
returns-then-n-s c = nobody _ _ _ (omega (arith, c.min-n.ensures, c.if-n-s.true))

pub grow-init : goal.grow-init
grow-init c = start _ _ _ (omega (arith, c.min-n.ensures, c.if-n-s.false)) _ c.with_bit-start.ensures

pub search-preserved : goal.search-preserved
search-preserved c =
    let a = c.args in
    let w = c.grow.w in
    record {
      le = omega (arith, c.min-m.ensures);
      none = below_more (λ (j : ℕ). test a.net (in_word a.working) w j ≡ false) _ c.search.invariant.none
          (test_seen a.net (in_word a.working) w c.search.k _ _ _ false c.min-n.ensures c.has.ensures c.joins.ensures c.if-joins.false);
    }

pub grow-preserved : goal.grow-preserved
grow-preserved c =
    let a = c.args in
    turn a.net (in_word a.working) a.s _ _ _ (omega (arith, c.min-m.ensures, c.if-m-k.false)) c.grow.invariant
    (test_seen a.net (in_word a.working) c.grow.w c.search.k _ _ _ true c.min-n.ensures c.has.ensures c.joins.ensures c.if-joins.true)
    c.grown-w.ensures

pub returns : goal.returns
returns c =
    done _ _ _ _ _ c.grow.invariant c.search.invariant (omega (arith, c.min-m.ensures, c.if-m-k.true))
