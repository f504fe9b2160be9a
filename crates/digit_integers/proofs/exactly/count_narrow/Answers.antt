use Rattle.std.proofs.Common.{sym, arith}
use Rattle.digit_integers.proofs.Counts.{counts_next}
use Rattle.digit_integers.proofs.exactly.count_narrow.Goals as goal

pub loop-count-preserved : goal.loop-count-preserved
loop-count-preserved c =
    counts_next c.args.radix c.args.bytes.now c.args.most c.loop-count.value c.loop-count.count
    c.loop-count.invariant (omega arith) c.in-Some.digit (sym c.in-Some.ensures)
    c.in-Some-add_digit.more c.in-Some-add_digit.ensures.0 c.in-Some-add_digit.ensures.1
