use Rattle.std.proofs.Common.{◌≡◌, suc, ◌+◌, ◌*◌, ◌%◌, ◌^◌, sym, ap, ◌∙◌, arith, mul-le-mul_right}
use lib.Pow.{pow-add, shl_exact}
use lib.Count.{leading_top, count_leading_zeros}
use Rattle.digit_floats.proofs.near.normalized.Goals as goal

pub returns : goal.returns
returns c =
    let w = c.args.digits in
    let z = count_leading_zeros 64 w in
    let t = leading_top 64 w c.requires c.ranges.digits.fits in
    let places : z + suc t.0 ≡ 64 = t.1 in
    let exact : w * 2 ^ z % 2 ^ 64 ≡ w * 2 ^ z = shl_exact (suc t.0) z 64 t.3 (omega arith) in
    let top : 2 ^ t.0 * 2 ^ z ≡ 2 ^ 63 =
    sym (pow-add 2 t.0 z) ∙ ap (λ x. 2 ^ x) {y = 63} (omega arith) in
    record {
      shifted = exact;
      top = (omega (arith, mul-le-mul_right (2 ^ z) t.2), omega arith);
    }
