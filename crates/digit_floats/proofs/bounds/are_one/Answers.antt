use Rattle.std.proofs.Common.{◌≡◌, ◌+◌, ◌-◌, ◌*◌, ◌%◌, ◌^◌, ◌≤◌, arith}
use Rattle.std.proofs.lemmas.Bool.Decides.{nat_tests}
use lib.Pow.{pow_mono}
use Rattle.digit_floats.proofs.Units.{carried}
use Rattle.digit_floats.proofs.bounds.are_one.Goals as goal

pub returns-then-count-precision : goal.returns-then-count-precision
returns-then-count-precision c e f P =
    let p = c.args.precision in
    let few : 2 ^ p ≤ 2 ^ 53 = pow_mono {j = 53} c.requires.precision.1 in
    let fewer : 2 ^ (p - 1) ≤ 2 ^ 53 = pow_mono {j = 53} (omega (arith, c.requires.precision)) in
    let last : c.args.other ≡ 1 * 2 ^ (p - 1) % 2 ^ 64 = grind (arith, nat_tests) in
    let first : c.args.count ≡ 2 ^ p = omega (arith, few, c.if-count-precision.true) in
    let next : c.args.other ≡ 2 ^ (p - 1) = omega (arith, fewer, last) in
    let scale : c.args.other_scale ≡ c.args.scale + 1 = omega arith in
    rw (first, next, scale, ← P) (carried f c.args.scale)
