use Rattle.std.proofs.Common.{◌%◌, ◌^◌, refl, arith}
use Rattle.digit_writers.proofs.InThousands.{tail_length, text_length, text_written}
use Rattle.digit_writers.proofs.thousands.put_first_twelve.Goals as goal

pub put_first_six-next-requires-clause-room : goal.put_first_six-next-requires-clause-room
put_first_six-next-requires-clause-room c =
    let n = c.args.n in
    omega (
      arith,
      c.requires.room,
      text_length c.args.separator 6 n _ _ c.if-n-lt1000000.false
          (omega arith) (omega arith) refl refl,
    )

pub put_two_groups-requires-clause-room : goal.put_two_groups-requires-clause-room
put_two_groups-requires-clause-room c =
    let n = c.args.n in
    omega (
      arith,
      c.requires.room,
      text_length c.args.separator 6 n _ _ c.if-n-lt1000000.false
          (omega arith) (omega arith) refl refl,
      tail_length c.args.separator 6 (n % 10 ^ 6),
    )

pub returns-clause-end : goal.returns-clause-end
returns-clause-end c =
    let n = c.args.n in
    let head = c.put_first_six-next in
    (text_written c.args.separator c.args.out.now head.new.out c.put_two_groups.new.out c.args.at
    head.result _
    6 n _ _ c.if-n-lt1000000.false (omega arith) (omega arith) c.requires.room refl refl
    head.ensures.end
    (omega (arith, tail_length c.args.separator 6 (n % 10 ^ 6))) head.ensures.written
    c.put_two_groups.ensures).0

pub returns-clause-written : goal.returns-clause-written
returns-clause-written c =
    let n = c.args.n in
    let head = c.put_first_six-next in
    (text_written c.args.separator c.args.out.now head.new.out c.put_two_groups.new.out c.args.at
    head.result _
    6 n _ _ c.if-n-lt1000000.false (omega arith) (omega arith) c.requires.room refl refl
    head.ensures.end
    (omega (arith, tail_length c.args.separator 6 (n % 10 ^ 6))) head.ensures.written
    c.put_two_groups.ensures).1
