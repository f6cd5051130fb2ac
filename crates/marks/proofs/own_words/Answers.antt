use Rattle.std.proofs.Common.{◌≡◌, ℕ, ◌<◌, Bool, get_or, take, refl, ap, arith, ◌∙◌, length-take}
use lib.Seq.{get_or-take}
use Rattle.net.specs.Network.{is_end}
use Rattle.net.specs.Values.{network_of, link_count}
use Rattle.sets.specs.Sets.{up_to}
use Rattle.marks.proofs.OnePass.{words_at, with_end, pass_begun, pass_more, pass_ends, end_stored, end_beyond}
use Rattle.marks.proofs.own_words.Goals as goal
use Rattle.marks.proofs.own_words.Goals.{then-low-lt-MOST_STATIONS, else-low-lt-MOST_STATIONS, then-high-lt-MOST_STATIONS, else-high-lt-MOST_STATIONS}

pub loop-k-init : goal.loop-k-init
loop-k-init c = pass_begun _ _ refl

pub loop-k-preserved : goal.loop-k-preserved
loop-k-preserved c =
    let l = c.loop-k in
    let net = c.args.net in
    let f : ℕ → ℕ → Bool = λ s. up_to (λ t. is_end (network_of net) t s) l.k in
    let n = c.min-links.result in
    let low = get_or (take n net.low) l.k 0 in
    let high = get_or net.high l.k 0 in
    let g : l.k < n = omega (arith, length-take n net.low) in
    let h : l.k < link_count net = omega (arith, c.min-links.ensures) in
    let z : l.k < 64 = omega arith in
    let one : c.if-low-lt-MOST_STATIONS.owns ≡ words_at (with_end f l.k low) =
    elim c.if-low-lt-MOST_STATIONS.branch [
      | then-low-lt-MOST_STATIONS w ↦ w.owns-is ∙ end_stored f l.k low _ _ z w.if-low-lt-MOST_STATIONS.true l.invariant w.join.ensures
      | else-low-lt-MOST_STATIONS w ↦ w.owns-is ∙ end_beyond f l.k low _ w.if-low-lt-MOST_STATIONS.false l.invariant
    ] in
    let two : c.if-high-lt-MOST_STATIONS.owns ≡ words_at (with_end (with_end f l.k low) l.k high) =
    elim c.if-high-lt-MOST_STATIONS.branch [
      | then-high-lt-MOST_STATIONS w ↦ w.owns-is ∙ end_stored (with_end f l.k low) l.k high _ _ z w.if-high-lt-MOST_STATIONS.true one w.join-then-high-lt-MOST_STATIONS.ensures
      | else-high-lt-MOST_STATIONS w ↦ w.owns-is ∙ end_beyond (with_end f l.k low) l.k high _ w.if-high-lt-MOST_STATIONS.false one
    ] in
    two ∙ ap (λ (x : ℕ). words_at (with_end (with_end f l.k x) l.k high)) (get_or-take n net.low l.k 0 g) ∙ pass_more net l.k h

pub returns : goal.returns
returns c =
    let e : c.loop-k.k ≡ link_count c.args.net = omega (arith, c.min-links.ensures, length-take c.min-links.result c.args.net.low) in
    pass_ends c.args.net _ c.loop-k.k e c.loop-k.invariant
