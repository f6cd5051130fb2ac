-- Each turn so far handed on what it took of the input.
use Rattle.inputs.proofs.Pieces.{SoFar}
use Rattle.inputs.proofs.each_piece.Given as goal

abbrev pub invariant-loop : goal.invariant-loop
invariant-loop g l =
    SoFar g.T.TakePieces.takes l.fn.taker (g.R.Read.remaining l.fn.from) (g.R.Read.remaining l.from) l.taker l.counter
