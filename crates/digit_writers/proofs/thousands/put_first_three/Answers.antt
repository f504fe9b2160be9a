use Rattle.std.proofs.Common.{length, sym, ap, ◌∙◌, arith}
use Rattle.std.specs.List.{splice}
use Rattle.digit_writers.proofs.InThousands.{small_text, three_end, three_text, few_room}
use Rattle.digit_writers.proofs.thousands.put_first_three.Goals as goal

pub put_first_two-requires-clause-room : goal.put_first_two-requires-clause-room
put_first_two-requires-clause-room c =
    few_room c.args.separator c.args.n c.args.at _ c.if-n-lt100.true c.requires.room

pub returns-then-n-lt100-clause-end : goal.returns-then-n-lt100-clause-end
returns-then-n-lt100-clause-end c =
    omega (
      arith,
      c.put_first_two.ensures.end,
      ap length (small_text c.args.separator c.args.n (omega arith)),
    )

pub returns-then-n-lt100-clause-written : goal.returns-then-n-lt100-clause-written
returns-then-n-lt100-clause-written c =
    let put = c.put_first_two in
    put.ensures.written
    ∙ ap (splice c.args.out.now c.args.at put.result)
    (sym (small_text c.args.separator c.args.n (omega arith)))

pub put_three-requires-clause-room : goal.put_three-requires-clause-room
put_three-requires-clause-room c =
    let end = three_end c.args.separator c.args.n c.args.at c.if-n-lt100.false c.requires.below in
    omega (arith, end, c.requires.room)

pub returns-clause-end : goal.returns-clause-end
returns-clause-end c =
    three_end c.args.separator c.args.n c.args.at c.if-n-lt100.false c.requires.below

pub returns-clause-written : goal.returns-clause-written
returns-clause-written c =
    three_text c.args.separator c.args.out.now c.put_three.new.out c.args.at c.args.n
    c.if-n-lt100.false c.requires.below c.put_three.ensures
