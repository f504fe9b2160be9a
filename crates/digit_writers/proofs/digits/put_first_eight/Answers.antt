use Rattle.std.proofs.Common.{arith}
use Rattle.digit_writers.proofs.Decimals.{room_before, number_written}
use Rattle.digit_writers.proofs.digits.put_first_eight.Goals as goal

pub put_first_four-next-requires-clause-room : goal.put_first_four-next-requires-clause-room
put_first_four-next-requires-clause-room c =
    omega (
      arith,
      room_before 4 c.args.n c.args.at _ c.if-n-lt10000.false (omega arith)
          c.requires.room,
    )

pub put_four-requires-clause-room : goal.put_four-requires-clause-room
put_four-requires-clause-room c =
    omega (
      arith,
      room_before 4 c.args.n c.args.at _ c.if-n-lt10000.false (omega arith)
          c.requires.room,
    )

pub returns-clause-end : goal.returns-clause-end
returns-clause-end c =
    let head = c.put_first_four-next in
    (number_written c.args.out.now head.new.out c.put_four.new.out c.args.at head.result 4 c.args.n
    c.if-n-lt10000.false (omega arith) c.requires.room head.ensures.end head.ensures.written
    c.put_four.ensures).0

pub returns-clause-written : goal.returns-clause-written
returns-clause-written c =
    let head = c.put_first_four-next in
    (number_written c.args.out.now head.new.out c.put_four.new.out c.args.at head.result 4 c.args.n
    c.if-n-lt10000.false (omega arith) c.requires.room head.ensures.end head.ensures.written
    c.put_four.ensures).1
