use Rattle.std.proofs.Common.{arith}
use Rattle.digit_integers.proofs.Whole.{rest_is}
use Rattle.digit_integers.proofs.integer.read_separated.Goals as goal

pub returns : goal.returns
returns c = λ rule drops whole most fits.
    rest_is rule c.args.text.now c.args.start c.read_all_digits.result.value most drops.ten
    (omega (arith, c.requires)) (c.read_all_digits.ensures whole) fits
