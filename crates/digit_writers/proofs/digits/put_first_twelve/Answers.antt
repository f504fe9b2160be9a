use Rattle.std.proofs.Common.{arith}
use Rattle.digit_writers.proofs.Decimals.{room_before, number_written}
use Rattle.digit_writers.proofs.digits.put_first_twelve.Goals as goal

pub put_first_four-next-requires-clause-room : goal.put_first_four-next-requires-clause-room
put_first_four-next-requires-clause-room c =
    omega (
      arith,
      room_before 8 c.args.n c.args.at _ c.if-n-lt100000000.false (omega arith)
          c.requires.room,
    )

pub put_eight-requires-clause-room : goal.put_eight-requires-clause-room
put_eight-requires-clause-room c =
    omega (
      arith,
      room_before 8 c.args.n c.args.at _ c.if-n-lt100000000.false (omega arith)
          c.requires.room,
    )

pub returns-clause-end : goal.returns-clause-end
returns-clause-end c =
    let head = c.put_first_four-next in
    (number_written c.args.out.now head.new.out c.put_eight.new.out c.args.at head.result 8 c.args.n
    c.if-n-lt100000000.false (omega arith) c.requires.room head.ensures.end head.ensures.written
    c.put_eight.ensures).0

pub returns-clause-written : goal.returns-clause-written
returns-clause-written c =
    let head = c.put_first_four-next in
    (number_written c.args.out.now head.new.out c.put_eight.new.out c.args.at head.result 8 c.args.n
    c.if-n-lt100000000.false (omega arith) c.requires.room head.ensures.end head.ensures.written
    c.put_eight.ensures).1
