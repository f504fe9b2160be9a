use Rattle.std.proofs.Common.{◌%◌, ◌^◌, refl, arith}
use Rattle.digit_writers.proofs.InThousands.{tail_length, text_length, text_written}
use Rattle.digit_writers.proofs.thousands.put_narrow.Goals as goal

pub put_first_twelve-next-requires-clause-room : goal.put_first_twelve-next-requires-clause-room
put_first_twelve-next-requires-clause-room c =
    let n = c.args.n in
    omega (
      arith,
      c.requires.room,
      text_length c.args.separator 12 n _ _
          c.if-n-lt1000000000000.false (omega arith) (omega arith) refl refl,
    )

pub put_four_groups-requires-clause-room : goal.put_four_groups-requires-clause-room
put_four_groups-requires-clause-room c =
    let n = c.args.n in
    omega (
      arith,
      c.requires.room,
      text_length c.args.separator 12 n _ _
          c.if-n-lt1000000000000.false (omega arith) (omega arith) refl refl,
      tail_length
          c.args.separator 12 (n % 10 ^ 12),
    )

pub returns-clause-end : goal.returns-clause-end
returns-clause-end c =
    let n = c.args.n in
    let head = c.put_first_twelve-next in
    (text_written c.args.separator c.args.out.now head.new.out c.put_four_groups.new.out c.args.at
    head.result _
    12 n _ _ c.if-n-lt1000000000000.false (omega arith) (omega arith) c.requires.room refl refl
    head.ensures.end
    (omega (arith, tail_length c.args.separator 12 (n % 10 ^ 12))) head.ensures.written
    c.put_four_groups.ensures).0

pub returns-clause-written : goal.returns-clause-written
returns-clause-written c =
    let n = c.args.n in
    let head = c.put_first_twelve-next in
    (text_written c.args.separator c.args.out.now head.new.out c.put_four_groups.new.out c.args.at
    head.result _
    12 n _ _ c.if-n-lt1000000000000.false (omega arith) (omega arith) c.requires.room refl refl
    head.ensures.end
    (omega (arith, tail_length c.args.separator 12 (n % 10 ^ 12))) head.ensures.written
    c.put_four_groups.ensures).1
