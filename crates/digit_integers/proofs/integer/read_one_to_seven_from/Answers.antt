use Rattle.std.proofs.Common.{arith}
use Rattle.digit_integers.proofs.Whole.{rest_is}
use Rattle.digit_integers.proofs.integer.read_one_to_seven_from.Goals as goal

pub returns-then-may_be-clause-is : goal.returns-then-may_be-clause-is
returns-then-may_be-clause-is c = λ bound fits.
    rest_is c.args.rule c.args.text.now c.args.start c.in_ok-value.value
    bound c.requires.ten (grind arith) c.in_ok-value.ensures.written fits
