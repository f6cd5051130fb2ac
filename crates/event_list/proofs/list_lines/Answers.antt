use Rattle.event_list.proofs.Lines.{turn_room, turn_more, listed, list_short}
use Rattle.event_list.proofs.Wholes.{whole_room, whole_more, whole_less}
use Rattle.event_lines.proofs.Ends.{end_after, end_inside}
use native.Mathlib.Omega.{arith}
use Rattle.event_list.proofs.list_lines.Goals as goal

pub returns-then-list-bytes-clause-answer : goal.returns-then-list-bytes-clause-answer
returns-then-list-bytes-clause-answer c = (list_short _ _ _ c.if-list-bytes.true).0

pub returns-then-list-bytes-clause-list : goal.returns-then-list-bytes-clause-list
returns-then-list-bytes-clause-list c = (list_short c.args.r c.args.bytes.now _ c.if-list-bytes.true).1

pub put_event-at-requires : goal.put_event-at-requires
put_event-at-requires c =
    let l = c.loop-whole in whole_room _ _ _ _ _ _ _ l.invariant.going _ l.invariant.begins _ _ _ _ c.in-Some.ensures

pub loop-whole-smaller-in-Some : goal.loop-whole-smaller-in-Some
loop-whole-smaller-in-Some c =
    let l = c.loop-whole in whole_less _ _ _ _ _ _ _ l.invariant.going _ l.invariant.begins _ _ _ _ c.in-Some.ensures

pub loop-whole-preserved-in-Some : goal.loop-whole-preserved-in-Some
loop-whole-preserved-in-Some c =
    let l = c.loop-whole in
    let put = c.put_event-at in
    record {
      going = whole_more _ _ _ _ _ _ _ l.invariant.going _ l.invariant.begins _ _ _ _ c.in-Some.ensures put.result _ put.ensures;
      begins = l.invariant.begins;
    }

pub returns-in_default-find_end : goal.returns-in_default-find_end
returns-in_default-find_end c =
    let l = c.loop-whole in
    let t = listed c.args.bytes.now c.args.list.now c.args.r l.list l.reading l.at l.from l.invariant.going
    c.in_default-find_end.ensures c.read_bytes-line.result c.read_bytes-line.ensures (omega arith) in
    record { answer = t.0; list = t.1.0; room = t.1.1 }

pub slice_bounds-read_bytes-count-in-loop-whole : goal.slice_bounds-read_bytes-count-in-loop-whole
slice_bounds-read_bytes-count-in-loop-whole c = end_after _ _ _ c.in-Some-find_end.ensures

pub slice_bounds-read_bytes-start-in-loop-whole : goal.slice_bounds-read_bytes-start-in-loop-whole
slice_bounds-read_bytes-start-in-loop-whole c =
    omega (arith, end_after _ _ _ c.in-Some-find_end.ensures, end_inside _ _ _ c.in-Some-find_end.ensures)

pub slice_bounds-read_bytes-end-in-loop-whole : goal.slice_bounds-read_bytes-end-in-loop-whole
slice_bounds-read_bytes-end-in-loop-whole c =
    omega (arith, end_after _ _ _ c.in-Some-find_end.ensures, end_inside _ _ _ c.in-Some-find_end.ensures)

pub put_line-at-requires : goal.put_line-at-requires
put_line-at-requires c =
    let l = c.loop-whole in
    let line = c.read_bytes-line-in-loop-whole in
    turn_room c.args.bytes.now c.args.list.now c.args.r l.list l.reading l.at l.from l.invariant.going
    _ c.in-Some-find_end.ensures line.result line.ensures

pub loop-whole-smaller : goal.loop-whole-smaller
loop-whole-smaller c = omega (arith, end_after _ _ _ c.in-Some-find_end.ensures, end_inside _ _ _ c.in-Some-find_end.ensures)

pub loop-whole-preserved : goal.loop-whole-preserved
loop-whole-preserved c =
    let l = c.loop-whole in
    let line = c.read_bytes-line-in-loop-whole in
    record {
      going = turn_more c.args.bytes.now c.args.list.now c.args.r l.list l.reading l.at l.from l.invariant.going
          _ c.in-Some-find_end.ensures line.result line.ensures
          c.put_line-at.result _ c.put_line-at.ensures c.begin-reading.result c.begin-reading.ensures;
      begins = λ fresh. c.begin-reading.ensures;
    }
