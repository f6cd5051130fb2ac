use mathlib.Core.Path.{refl, ap, ◌∙◌}
use lib.ListN.{take}
use Rattle.std.specs.declared.result.Result.TheVariants.{Ok}
use Rattle.inputs.proofs.Pieces.{no_turn, call_failed, turn_more, enough, input_ended, breaks}
use Rattle.inputs.proofs.each_piece.Goals as goal
use Rattle.inputs.proofs.each_piece.Goals.{then-is_break-via-then-is_break, then-is_break-via-else-is_break+then-n-eq0}

pub loop-init : goal.loop-init
loop-init g c = no_turn _ _ _

pub returns-in_err-take_piece : goal.returns-in_err-take_piece
returns-in_err-take_piece g c =
    call_failed _ _ _ _ _ _ c.loop.invariant _ _ record { piece = take c.in_ok-n.n c.read.new.buf; answer = c.take_piece.result }
    record { count = c.in_ok-n.n; room = _; left = _; front = refl; called = c.take_piece.ensures }
    c.in_ok-n.ensures.bytes.0 _ c.from_residual-in_err-take_piece.ensures.0

pub loop-preserved : goal.loop-preserved
loop-preserved g c =
    turn_more _ _ _ _ _ _ c.loop.invariant _ _ record { piece = take c.in_ok-n.n c.read.new.buf; answer = c.take_piece.result }
    record { count = c.in_ok-n.n; room = _; left = _; front = refl; called = c.take_piece.ensures } c.in_ok-n.ensures.bytes.0

pub returns-then-is_break : goal.returns-then-is_break
returns-then-is_break g c =
    let s = c.loop.invariant in
    let piece = take c.in_ok-n.n c.read.new.buf in
    let gone = c.in_ok-n.ensures.bytes.0 in
    elim c.then-is_break.branch [
      | then-is_break-via-then-is_break w ↦
          enough _ _ _ _ _ _ s _ _ record { piece = piece; answer = c.take_piece.result }
          record { count = c.in_ok-n.n; room = _; left = _; front = refl; called = c.take_piece.ensures } gone
          (c.in_ok-take_piece.was ∙ ap (λ x. Ok x) (breaks _ w.if-is_break.ensures))
      | then-is_break-via-else-is_break+then-n-eq0 w ↦
          input_ended _ _ _ _ _ _ s _ _ record { piece = piece; answer = c.take_piece.result }
          record { count = c.in_ok-n.n; room = _; left = _; front = refl; called = c.take_piece.ensures } gone
          (ap (λ k. take k c.read.new.buf) w.if-n-eq0.true)
    ]
