use Rattle.std.proofs.Common.{arith}
use Rattle.digit_writers.proofs.Counting.{count_one, count_more, less}
use Rattle.digit_writers.proofs.groups.count_narrow.Goals as goal

pub loop-left-preserved : goal.loop-left-preserved
loop-left-preserved c =
    let l = c.loop-left in
    omega (arith, l.invariant, count_more c.args.radix c.requires.low l.left c.loop-left-test.true)

pub loop-left-smaller : goal.loop-left-smaller
loop-left-smaller c = less c.args.radix c.requires.low c.loop-left.left c.loop-left-test.true

pub overflow_add-count-in-loop-left : goal.overflow_add-count-in-loop-left
overflow_add-count-in-loop-left c =
    let l = c.loop-left in
    omega (
      arith,
      l.invariant,
      c.requires.few,
      count_more c.args.radix c.requires.low l.left c.loop-left-test.true,
    )

pub returns : goal.returns
returns c =
    let l = c.loop-left in
    omega (arith, l.invariant, count_one c.args.radix c.requires.low l.left c.loop-left-test.false)
