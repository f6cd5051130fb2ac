use Rattle.std.proofs.Common.{rules, arith, refl, ap, sym, eqb, ◌&&◌, Bool, eq-eqb}
use Rattle.state_rules.proofs.WordTests.{waiting_is}
use Rattle.state_rules.proofs.waiting_formed.Goals as goal

pub returns-then-w-own : goal.returns-then-w-own
returns-then-w-own c =
    waiting_is c.args.w c.args.own _ c.beside_token.ensures _ (search rules) (search rules)
    (ap (λ (x : Bool). x && eqb c.beside_token.result 0) (sym (eq-eqb c.args.w.token c.args.own c.if-w-own.true)))

pub returns-else-w-own : goal.returns-else-w-own
returns-else-w-own c = waiting_is c.args.w c.args.own _ refl _ (search rules) (search rules) (grind arith)
