use Rattle.std.proofs.Common.{arith}
use Rattle.digit_values.proofs.PlainDigits.{one_plain}
use Rattle.digit_values.proofs.slice.begin.Goals as goal

pub returns-in-Some-clause-plain : goal.returns-in-Some-clause-plain
returns-in-Some-clause-plain c =
    let first = rw c.in-Some.is at c.requires.first in
    rw (c.from.ensures, c.from-in-Some.ensures)
    (one_plain c.args.rule c.args.text.now c.args.start c.args.before c.args.most
    c.requires.within (omega arith) c.args.radix _ c.requires.radix first)
