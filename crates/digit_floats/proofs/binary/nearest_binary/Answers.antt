use Rattle.std.proofs.Common.{◌≡◌, ◌+◌, ◌-◌, false, ap, ◌∙◌, arith}
use native.Mathlib.Nat.{lt_of_lt_of_le}
use lib.Pow.{pow_mono}
use lib.Ieee.{prec, units}
use Rattle.digit_floats.proofs.WholePart.{rounds, left_few, left_many}
use Rattle.digit_floats.proofs.binary.nearest_binary.Goals as goal

pub shift_digits-requires-clause-fits : goal.shift_digits-requires-clause-fits
shift_digits-requires-clause-fits c =
    let size = c.bit_length-size.ensures in
    let scale = c.scale_of-scale.ensures in
    let few = c.requires.precision in
    lt_of_lt_of_le
    (left_few c.args.precision c.args.digits c.args.above c.args.below _ _ _ few.0 size.least
    size.most scale.scale scale.shift)
    (pow_mono few.1)

pub returns-clause-few : goal.returns-clause-few
returns-clause-few c =
    let size = c.bit_length-size.ensures in
    let scale = c.scale_of-scale.ensures in
    let few = c.requires.precision in
    omega (
      arith,
      c.shift_digits.ensures.most,
      left_few c.args.precision c.args.digits c.args.above c.args.below _ _ _ few.0 size.least
          size.most scale.scale scale.shift,
    )

pub returns-clause-many : goal.returns-clause-many
returns-clause-many c h =
    let size = c.bit_length-size.ensures in
    let scale = c.scale_of-scale.ensures in
    let few = c.requires.precision in
    omega (
      arith,
      c.shift_digits.ensures.least,
      left_many c.args.precision c.args.digits c.args.above c.args.below _ _ _ few.0 size.least
          size.most scale.scale scale.shift h,
    )

pub returns-clause-is : goal.returns-clause-is
returns-clause-is c f P num den D is =
    let size = c.bit_length-size.ensures in
    let scale = c.scale_of-scale.ensures in
    let k = c.scale_of-scale.result.0 in
    let at : k ≡ c.bit_length-size.result + c.args.above - (c.args.below + prec f) =
    rw P scale.scale in
    ap (λ z. units f false z k) c.shift_digits.ensures.value
    ∙ rounds f false num den c.args.digits c.args.more c.args.above c.args.below k _ _ D is
    (omega (arith, size.some)) size.least size.most at scale.shift scale.some
