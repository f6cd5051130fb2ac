use Rattle.std.proofs.Common.{arith}
use Rattle.event_program.proofs.Answers.{first_room, second_room, third_room, line_put}
use Rattle.event_program.proofs.put_answer.Goals as goal

pub bounds-out-a : goal.bounds-out-a
bounds-out-a c =
    let a = c.args in
    let first = c.put_number-a.ensures in
    (first_room a.answer a.flying a.settled a.at a.out.now (omega arith) (omega arith) (omega arith) c.requires
    _ _ first.place first.output).0

pub overflow_add-a : goal.overflow_add-a
overflow_add-a c =
    let a = c.args in
    let first = c.put_number-a.ensures in
    let room = first_room a.answer a.flying a.settled a.at a.out.now (omega arith) (omega arith) (omega arith) c.requires
    _ _ first.place first.output in
    omega (arith, room.0, room.1)

pub bounds-out-c : goal.bounds-out-c
bounds-out-c c =
    let a = c.args in
    let first = c.put_number-a.ensures in
    let second = c.put_number-c.ensures in
    (second_room a.answer a.flying a.settled a.at a.out.now (omega arith) (omega arith) (omega arith) c.requires
    _ _ first.place first.output _ _ second.place second.output).0

pub overflow_add-c : goal.overflow_add-c
overflow_add-c c =
    let a = c.args in
    let first = c.put_number-a.ensures in
    let second = c.put_number-c.ensures in
    let room = second_room a.answer a.flying a.settled a.at a.out.now (omega arith) (omega arith) (omega arith) c.requires
    _ _ first.place first.output _ _ second.place second.output in
    omega (arith, room.0, room.1)

pub bounds-out-e : goal.bounds-out-e
bounds-out-e c =
    let a = c.args in
    let first = c.put_number-a.ensures in
    let second = c.put_number-c.ensures in
    let third = c.put_number-e.ensures in
    (third_room a.answer a.flying a.settled a.at a.out.now (omega arith) (omega arith) (omega arith) c.requires
    _ _ first.place first.output _ _ second.place second.output _ _ third.place third.output).0

pub overflow_add-result : goal.overflow_add-result
overflow_add-result c =
    let a = c.args in
    let first = c.put_number-a.ensures in
    let second = c.put_number-c.ensures in
    let third = c.put_number-e.ensures in
    let room = third_room a.answer a.flying a.settled a.at a.out.now (omega arith) (omega arith) (omega arith) c.requires
    _ _ first.place first.output _ _ second.place second.output _ _ third.place third.output in
    omega (arith, room.0, room.1)

pub returns : goal.returns
returns c =
    let a = c.args in
    let first = c.put_number-a.ensures in
    let second = c.put_number-c.ensures in
    let third = c.put_number-e.ensures in
    line_put a.answer a.flying a.settled a.at a.out.now (omega arith) (omega arith) (omega arith) c.requires
    _ _ first.place first.output _ _ second.place second.output _ _ third.place third.output
