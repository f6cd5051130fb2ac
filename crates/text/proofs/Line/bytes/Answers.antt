use native.Mathlib.Omega.{arith}
use Rattle.text.proofs.Parts.{bytes_more, bytes_all}
use Rattle.text.proofs.Lines.{adds_none}
use Rattle.text.proofs.Line.bytes.Goals as goal

pub loop-byte-init : goal.loop-byte-init
loop-byte-init c = adds_none c.args.self.now

pub loop-byte-preserved : goal.loop-byte-preserved
loop-byte-preserved c =
    let l = c.loop-byte in bytes_more c.args.bytes.now l.byte-index l.invariant (omega arith) c.hex.ensures

pub returns : goal.returns
returns c = let l = c.loop-byte in bytes_all c.args.bytes.now l.byte-index l.invariant (omega arith) (omega arith)
