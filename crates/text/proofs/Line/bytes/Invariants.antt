use lib.ListN.{take}
use Rattle.lists.specs.Places.{collect}
use Rattle.text.specs.Text.{hex_pair}
use Rattle.text.specs.Line.{Adds}
use Rattle.text.proofs.Line.bytes.Given as goal

-- the bytes so far were put
abbrev pub invariant-loop-byte : goal.invariant-loop-byte
invariant-loop-byte l = Adds (collect hex_pair (take l.byte-index l.bytes)) l.initial.self l.self
