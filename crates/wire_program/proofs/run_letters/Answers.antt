use Rattle.std.proofs.Common.{rules}
use mathlib.Core.Path.{refl, sym, ◌∙◌}
use native.Mathlib.Omega.{arith}
use Rattle.event_lines.proofs.Ends.{end_after, end_inside}
use Rattle.hex_lines.specs.HexSteps.{hex_start, read_hex}
use Rattle.console.proofs.Feeding.{going_more, going_room}
use Rattle.wire_program.specs.Passing.{said_by, acted, spoken}
use Rattle.wire_program.proofs.Passing.{put_added, passed_answer, passed_output, passed_counts}
use Rattle.wire_program.proofs.run_letters.Goals as goal

pub slice_bounds-read_hex_bytes-count : goal.slice_bounds-read_hex_bytes-count
slice_bounds-read_hex_bytes-count c = end_after _ _ _ c.in-Some.ensures

pub slice_bounds-read_hex_bytes-start : goal.slice_bounds-read_hex_bytes-start
slice_bounds-read_hex_bytes-start c = omega (arith, end_after _ _ _ c.in-Some.ensures, end_inside _ _ _ c.in-Some.ensures)

pub slice_bounds-read_hex_bytes-end : goal.slice_bounds-read_hex_bytes-end
slice_bounds-read_hex_bytes-end c = omega (arith, end_after _ _ _ c.in-Some.ensures, end_inside _ _ _ c.in-Some.ensures)

pub loop-stop-smaller : goal.loop-stop-smaller
loop-stop-smaller c = omega (arith, end_after _ _ _ c.in-Some.ensures, end_inside _ _ _ c.in-Some.ensures)

pub loop-stop-preserved : goal.loop-stop-preserved
loop-stop-preserved c =
    let a = c.args in
    let l = c.loop-stop in
    let e = c.in-Some in
    let h = c.read_hex_bytes-read in
    let b = c.begin_hex-reading in
    let room = going_room hex_start read_hex said_by acted spoken 64 a.bytes.now a.out.now a.net a.r l.line.out.now a.net l.reading
    l.line.at l.from l.invariant.going e.stop e.ensures h.result h.ensures in
    record {
      same = c.put_line.ensures.text.same ∙ l.invariant.same;
      going =
          going_more hex_start read_hex said_by acted spoken 64 a.bytes.now a.out.now a.net a.r l.line.out.now a.net l.reading l.line.at
          l.from l.invariant.going e.stop e.ensures h.result h.ensures a.net refl _ refl _ _
          (put_added 64 c.put_line.ensures.text c.put_line.ensures.few room) b.result b.ensures;
    }

pub returns : goal.returns
returns c =
    let a = c.args in
    let l = c.loop-stop in
    let h = c.read_hex_bytes in
    let g = l.invariant.going in
    let none = sym c.in_default.is ∙ c.find_end.ensures in
    record {
      answer =
          passed_answer a.net a.r a.bytes.now a.out.now l.line.out.now l.reading l.line.at l.from g none h.result h.ensures (omega arith);
      output =
          passed_output a.net a.r a.bytes.now a.out.now l.line.out.now l.reading l.line.at l.from g none h.result h.ensures (omega arith)
          (search rules);
      room =
          passed_counts a.net a.r a.bytes.now a.out.now l.line.out.now l.reading l.line.at l.from g none h.result h.ensures (omega arith)
          (search rules);
    }
