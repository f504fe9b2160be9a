use Rattle.std.proofs.Common.{arith}
use Rattle.digit_writers.proofs.InThousands.{tail_length, text_length, text_written}
use Rattle.digit_writers.proofs.thousands.put_high.Goals as goal

pub put_first_three-next-requires-clause-room : goal.put_first_three-next-requires-clause-room
put_first_three-next-requires-clause-room c =
    let n = c.args.n in
    let parts = c.split_eighteen-high.ensures in
    omega (
      arith,
      c.requires.room,
      text_length c.args.separator 18 n _ _ (omega arith)
          (omega arith) (omega arith) parts.high parts.low,
    )

pub put_six_groups-requires-clause-room : goal.put_six_groups-requires-clause-room
put_six_groups-requires-clause-room c =
    let n = c.args.n in
    let parts = c.split_eighteen-high.ensures in
    omega (
      arith,
      c.requires.room,
      text_length c.args.separator 18 n _ _ (omega arith)
          (omega arith) (omega arith) parts.high parts.low,
      tail_length c.args.separator 18
          c.split_eighteen-high.result.1,
    )

pub returns-clause-end : goal.returns-clause-end
returns-clause-end c =
    let head = c.put_first_three-next in
    let parts = c.split_eighteen-high in
    (text_written c.args.separator c.args.out.now head.new.out c.put_six_groups.new.out c.args.at
    head.result _
    18 c.args.n _ _ (omega arith) (omega arith) (omega arith) c.requires.room parts.ensures.high
    parts.ensures.low head.ensures.end
    (omega (arith, tail_length c.args.separator 18 parts.result.1)) head.ensures.written
    c.put_six_groups.ensures).0

pub returns-clause-written : goal.returns-clause-written
returns-clause-written c =
    let head = c.put_first_three-next in
    let parts = c.split_eighteen-high in
    (text_written c.args.separator c.args.out.now head.new.out c.put_six_groups.new.out c.args.at
    head.result _
    18 c.args.n _ _ (omega arith) (omega arith) (omega arith) c.requires.room parts.ensures.high
    parts.ensures.low head.ensures.end
    (omega (arith, tail_length c.args.separator 18 parts.result.1)) head.ensures.written
    c.put_six_groups.ensures).1
