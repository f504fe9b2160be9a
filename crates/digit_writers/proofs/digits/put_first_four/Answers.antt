use Rattle.std.proofs.Common.{arith}
use Rattle.digit_writers.proofs.Decimals.{room_before, number_written}
use Rattle.digit_writers.proofs.digits.put_first_four.Goals as goal

pub put_first_two-next-requires-clause-room : goal.put_first_two-next-requires-clause-room
put_first_two-next-requires-clause-room c =
    omega (
      arith,
      room_before 2 c.args.n c.args.at _ c.if-n-lt100.false (omega arith)
          c.requires.room,
    )

pub put_two-requires-clause-room : goal.put_two-requires-clause-room
put_two-requires-clause-room c =
    omega (
      arith,
      room_before 2 c.args.n c.args.at _ c.if-n-lt100.false (omega arith)
          c.requires.room,
    )

pub returns-clause-end : goal.returns-clause-end
returns-clause-end c =
    let head = c.put_first_two-next in
    (number_written c.args.out.now head.new.out c.put_two.new.out c.args.at head.result 2 c.args.n
    c.if-n-lt100.false (omega arith) c.requires.room head.ensures.end head.ensures.written
    c.put_two.ensures).0

pub returns-clause-written : goal.returns-clause-written
returns-clause-written c =
    let head = c.put_first_two-next in
    (number_written c.args.out.now head.new.out c.put_two.new.out c.args.at head.result 2 c.args.n
    c.if-n-lt100.false (omega arith) c.requires.room head.ensures.end head.ensures.written
    c.put_two.ensures).1
