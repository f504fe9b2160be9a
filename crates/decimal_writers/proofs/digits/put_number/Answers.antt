use Rattle.std.proofs.Common.{◌/◌, ◌%◌, ◌^◌, ◌∙◌, refl, arith}
use Rattle.decimal_writers.proofs.Numerals.{begun_more, begun_none, number_length, some_digits}
use Rattle.decimal_writers.proofs.digits.put_number.Goals as goal

pub loop-left-init : goal.loop-left-init
loop-left-init c = begun_none c.args.n c.args.end c.args.out.now

pub put_eight-requires-clause-room : goal.put_eight-requires-clause-room
put_eight-requires-clause-room c =
    let l = c.loop-left in
    omega (
      arith,
      c.requires.room,
      l.invariant.long,
      some_digits (l.left / 10 ^ 8),
      number_length 8 l.left (omega arith),
    )

pub overflow_sub-at : goal.overflow_sub-at
overflow_sub-at c =
    let l = c.loop-left in
    omega (
      arith,
      c.requires.room,
      l.invariant.long,
      number_length 8 l.left (omega arith),
    )

pub loop-left-preserved : goal.loop-left-preserved
loop-left-preserved c =
    let a = c.args in
    let l = c.loop-left in
    begun_more a.n a.end l.at l.left 8 (l.left % 10 ^ 8) a.out.now l.out c.put_eight.new.out
    (omega arith)
    (omega (
      arith,
      c.requires.room,
      l.invariant.long,
      some_digits (l.left / 10 ^ 8),
      number_length 8 l.left (omega arith),
    ))
    refl c.put_eight.ensures l.invariant

pub returns-clause-start : goal.returns-clause-start
returns-clause-start c =
    omega (arith, c.loop-left.invariant.long, c.put_first_eight.ensures.start)

pub returns-clause-written : goal.returns-clause-written
returns-clause-written c = c.put_first_eight.ensures.written ∙ c.loop-left.invariant.written
