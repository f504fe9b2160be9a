use Rattle.std.proofs.Common.{◌≡◌, suc, ◌-◌, ◌^◌, ◌<◌, ◌≤◌, sym, subst, arith}
use native.Mathlib.Nat.{lt_of_le_of_lt}
use lib.Count.{leading_top, count_leading_zeros}
use Rattle.digit_floats.proofs.Units.{pow_below}
use Rattle.digit_floats.proofs.binary.bit_length.Goals as goal

pub returns : goal.returns
returns c =
    let v = c.args.digits in
    let t = leading_top 128 v (omega (arith, c.requires)) c.ranges.digits.fits in
    let size : 128 - count_leading_zeros 128 v ≡ suc t.0 = omega (arith, t.1) in
    let last : 128 - count_leading_zeros 128 v - 1 ≡ t.0 = omega (arith, size) in
    record {
      some = (
        omega (arith, size, pow_below 53 (suc t.0) (lt_of_le_of_lt c.requires t.3)),
        omega arith,
      );
      least = subst (λ z. 2 ^ z ≤ v) (sym last) t.2;
      most = subst (λ z. v < 2 ^ z) (sym size) t.3;
    }
