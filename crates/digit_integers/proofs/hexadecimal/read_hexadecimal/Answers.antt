use Rattle.std.proofs.Common.{arith}
use Rattle.digit_integers.proofs.Hexadecimals.{integer_is_hexadecimal}
use Rattle.digit_integers.proofs.hexadecimal.read_hexadecimal.Goals as goal

pub returns-then-from-most-clause-is : goal.returns-then-from-most-clause-is
returns-then-from-most-clause-is c =
    integer_is_hexadecimal c.args.rule c.args.text.now c.args.start
    c.read_long-whole.result.value (c.read_long-whole.ensures c.if-whole.true)
    (omega (arith, c.if-text-start-lt8.false))
