use Rattle.std.proofs.Common.{arith}
use Rattle.digit_values.proofs.PlainDigits.{passed, counted}
use Rattle.digit_values.proofs.slice.read_bare.Goals as goal

pub loop-at-init : goal.loop-at-init
loop-at-init c =
    let plain = c.requires.plain in
    record {
      passed = passed _ _ _ plain;
      all = omega (arith, counted _ _ _ plain);
      onward = omega arith;
      wrapped = plain.wrapped;
    }
