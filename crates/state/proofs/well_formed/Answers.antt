use Rattle.std.proofs.Common.{arith, rules, refl, length-take}
use Rattle.net.specs.declared.Letter.{Letter}
use Rattle.state.proofs.Tested.{placing_begins, placing_more, gathering_begins, gathering_turn, resting_more, all_seen, seen_sized}
use Rattle.state.specs.State.{Ends64}
use Rattle.state.proofs.well_formed.Goals as goal

pub loop-i-init : goal.loop-i-init
loop-i-init c = placing_begins c.args.s c.own_words-owns.result

pub loop-i-preserved : goal.loop-i-preserved
loop-i-preserved c = placing_more _ _ c.loop-i.invariant (omega arith) _ _ c.station_place-placed.ensures refl

pub loop-x-init : goal.loop-x-init
loop-x-init c = gathering_begins c.args.s c.own_words-owns.result c.used_places-used.result

pub loop-x-preserved : goal.loop-x-preserved
loop-x-preserved c =
    gathering_turn _ _ c.loop-x.invariant _ c.loop-x-test.true _ _ _ _ _ _ c.joined_ways-ways.ensures
    c.still_ended-ended.ensures c.past_subject.ensures c.larger-most.ensures c.counter_said.ensures c.smaller-least.ensures

pub loop-j-preserved : goal.loop-j-preserved
loop-j-preserved c =
    resting_more _ c.loop-j.invariant (omega arith) c.word_of.result c.word_of-in-loop-j.result
    c.word_of.ensures c.word_of-in-loop-j.ensures

pub returns : goal.returns
returns c =
    let s = c.args.s in
    let e : Ends64 s.net = record { low = search rules; high = search rules } in (
      all_seen s _ c.own_words-owns.ensures _ _ _ c.frame_holds-framed.ensures c.used_places-used.ensures
          c.loop-i.invariant (omega arith) c.loop-x.invariant (omega (arith, length-take {A = Letter})) c.loop-j.invariant (omega arith)
          c.letters_formed-carried.ensures c.all_hold.ensures,
      λ q. seen_sized s _ c.loop-i.invariant (omega arith) e (search rules) (search rules),
    )
