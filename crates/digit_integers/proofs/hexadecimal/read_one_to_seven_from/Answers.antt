use Rattle.std.proofs.Common.{length, arith}
use Rattle.digit_integers.proofs.Hexadecimals.{integer_is_hexadecimal, at_most_digits}
use Rattle.digit_integers.proofs.hexadecimal.read_one_to_seven_from.Goals as goal

pub may_be-requires : goal.may_be-requires
may_be-requires c =
    at_most_digits c.args.start (length c.args.text.now) c.in_ok-value.value 7
    c.in_ok-value.ensures.is.few (omega (arith, c.requires.few))

pub returns-then-may_be-clause-is : goal.returns-then-may_be-clause-is
returns-then-may_be-clause-is c =
    integer_is_hexadecimal c.args.rule c.args.text.now c.args.start
    c.in_ok-value.value c.in_ok-value.ensures.is (grind arith)
