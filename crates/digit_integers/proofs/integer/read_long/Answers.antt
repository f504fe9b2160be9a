use Rattle.std.proofs.Common.{arith}
use Rattle.digit_integers.proofs.Whole.{rest_is}
use Rattle.digit_integers.proofs.integer.read_long.Goals as goal

pub returns-then-not-rule : goal.returns-then-not-rule
returns-then-not-rule c = λ whole most fits.
    rest_is c.args.rule c.args.text.now c.args.start c.read_whole.result.value
    most c.requires.ten (omega (arith, c.requires.five)) (c.read_whole.ensures whole) fits
