use Rattle.console.proofs.Pieces.{piece_whole, piece_read, piece_none, piece_no_room, piece_newline}
use native.Mathlib.Omega.{arith}
use Rattle.console.proofs.put_piece.Goals as goal
use Rattle.console.proofs.put_piece.Goals.{else-begun-via-then-begun+else-not-is_empty, else-begun-via-else-begun}

pub returns-then-room-n : goal.returns-then-room-n
returns-then-room-n c =
    let a = c.args in
    let t = piece_whole a.n a.begun a.room.now (omega arith) in
    record { size = t.0; content = t.1.0; counts = t.1.1 }

pub returns-then-n-gt0 : goal.returns-then-n-gt0
returns-then-n-gt0 c =
    let a = c.args in
    let t = piece_read a.n a.begun a.room.now (omega arith) (omega arith) in
    record { size = t.0; content = t.1.0; counts = t.1.1 }

pub returns-then-not-is_empty : goal.returns-then-not-is_empty
returns-then-not-is_empty c =
    let a = c.args in
    let t = piece_newline a.n a.begun a.room.now (omega arith) c.if-begun.true (grind arith) in
    record { size = t.0; content = t.1.0; counts = t.1.1 }

pub returns : goal.returns
returns c =
    let a = c.args in
    elim c.else-begun.branch [
      | else-begun-via-then-begun+else-not-is_empty w ↦
          (let t = piece_no_room a.n a.begun a.room.now (omega arith) (grind arith) in
          record { size = t.0; content = t.1.0; counts = t.1.1 })
      | else-begun-via-else-begun w ↦
          (let t = piece_none a.n a.begun a.room.now (omega arith) w.if-begun.false in
          record { size = t.0; content = t.1.0; counts = t.1.1 })
    ]
