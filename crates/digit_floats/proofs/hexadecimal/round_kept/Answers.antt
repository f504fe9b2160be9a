use Rattle.std.proofs.Common.{◌≡◌, ◌+◌, ◌*◌, ◌%◌, ◌^◌, ◌∙◌, arith}
use lib.Ieee.{low}
use lib.Pow.{pow_pos}
use Rattle.digit_floats.proofs.HexDigits.{none_is, zero_is, in_units, in_smaller_units}
use Rattle.digit_floats.proofs.hexadecimal.round_kept.Goals as goal

pub returns-then-kept-eq0 : goal.returns-then-kept-eq0
returns-then-kept-eq0 g c number is =
    let below = 4 * c.args.places + c.args.under in
    c.of_units.ensures
    ∙ zero_is g.F.Float.format number (2 ^ c.args.up) (2 ^ below)
    (none_is c.args.kept number 0 is (omega arith)) (pow_pos below)

pub returns-then-kept-eq0-2 : goal.returns-then-kept-eq0-2
returns-then-kept-eq0-2 g c number is =
    let kept = c.args.kept in
    let below = 4 * c.args.places + c.args.under in
    let none : kept.cut ≡ 0 = omega arith in
    let digits : kept.value * 2 ^ 53 % 2 ^ 128 ≡ kept.value * 2 ^ 53 = omega (arith, is.fits) in
    c.round_binary.ensures (number * 2 ^ c.args.up) (2 ^ below) (pow_pos below)
    (rw (c.least.ensures, digits)
    (in_smaller_units number kept.value kept.cut (low g.F.Float.format) c.args.up below kept.more
    none is.is))

pub returns-else-kept-eq0-2 : goal.returns-else-kept-eq0-2
returns-else-kept-eq0-2 g c number is =
    let kept = c.args.kept in
    let below = 4 * c.args.places + c.args.under in
    c.round_binary-else-kept-eq0-2.ensures (number * 2 ^ c.args.up) (2 ^ below) (pow_pos below)
    (rw c.least.ensures
    (in_units number kept.value kept.cut (low g.F.Float.format) c.args.up below kept.more is.is))
