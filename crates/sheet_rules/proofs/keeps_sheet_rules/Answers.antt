use Rattle.std.proofs.Common.{◌≡◌, ℕ, true, false, sym, ap, ◌∙◌, arith, rules}
use Rattle.lists.specs.Lists.{every, below}
use Rattle.lists.proofs.Numbers.{all_more, all_fails}
use Rattle.net.specs.Sizes.{link_room}
use Rattle.sheet_rules.proofs.Tested.{place_holds, place_seen, holds_places}
use Rattle.sheet_rules.proofs.Tested.{few_stations, many_stations, many_links}
use Rattle.sheet_rules.proofs.keeps_sheet_rules.Goals as goal
use Rattle.sheet_rules.proofs.keeps_sheet_rules.Goals.{then-n-lt1-via-then-n-lt1, then-n-lt1-via-else-n-lt1+then-n-gt-MOST_STATIONS}
use Rattle.sheet_rules.proofs.keeps_sheet_rules.Goals.{then-n-lt1-via-else-n-lt1+else-n-gt-MOST_STATIONS+then-m-gt-MOST_LINKS}

pub returns-then-n-lt1 : goal.returns-then-n-lt1
returns-then-n-lt1 c =
    elim c.then-n-lt1.branch [
      | then-n-lt1-via-then-n-lt1 w ↦ few_stations _ w.if-n-lt1.true
      | then-n-lt1-via-else-n-lt1+then-n-gt-MOST_STATIONS w ↦ many_stations _ w.if-n-gt-MOST_STATIONS.true
      | then-n-lt1-via-else-n-lt1+else-n-gt-MOST_STATIONS+then-m-gt-MOST_LINKS w ↦ many_links _ w.if-m-gt-MOST_LINKS.true
    ]

pub returns-then-not-place_holds : goal.returns-then-not-place_holds
returns-then-not-place_holds c =
    let net = c.args.net in
    sym (all_fails (place_holds net) link_room c.loop-k.k (omega arith)
    (place_seen net c.loop-k.k c.link_before.result _ false c.if-n-gt-MOST_STATIONS.false c.if-m-gt-MOST_LINKS.false c.link_before.ensures
    c.place_holds.ensures (search rules)))
    ∙ holds_places net c.if-n-lt1.false c.if-n-gt-MOST_STATIONS.false c.if-m-gt-MOST_LINKS.false (search rules) (search rules)

pub loop-k-preserved : goal.loop-k-preserved
loop-k-preserved c =
    let net = c.args.net in
    all_more (place_holds net) c.loop-k.k c.loop-k.invariant
    (place_seen net c.loop-k.k c.link_before.result _ true c.if-n-gt-MOST_STATIONS.false c.if-m-gt-MOST_LINKS.false c.link_before.ensures
    c.place_holds.ensures (search rules))

pub returns : goal.returns
returns c =
    let net = c.args.net in
    let e : c.loop-k.k ≡ link_room = omega arith in
    sym c.loop-k.invariant ∙ ap (λ (n : ℕ). every (place_holds net) (below n)) e
    ∙ holds_places net c.if-n-lt1.false c.if-n-gt-MOST_STATIONS.false c.if-m-gt-MOST_LINKS.false (search rules) (search rules)
