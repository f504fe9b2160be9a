use Rattle.std.proofs.Common.{arith}
use Rattle.std.proofs.Math.Nat.{one-le-pow, pow-le-pow_right}
use Rattle.digit_floats.proofs.middle.over_fives.Goals as goal

pub pow-fives-requires : goal.pow-fives-requires
pow-fives-requires c = omega (arith, pow-le-pow_right {n = 5} (omega arith) c.requires)

pub nonzero_rem-digits : goal.nonzero_rem-digits
nonzero_rem-digits c = rw c.pow-fives.ensures (one-le-pow c.args.below 5 (omega arith))

pub nonzero_div-digits : goal.nonzero_div-digits
nonzero_div-digits c = rw c.pow-fives.ensures (one-le-pow c.args.below 5 (omega arith))
