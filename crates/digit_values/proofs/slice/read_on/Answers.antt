use Rattle.std.proofs.Common.{arith}
use Rattle.digit_values.proofs.Passed.{reading}
use Rattle.digit_values.proofs.PlainDigits.{passed, counted}
use Rattle.digit_values.proofs.slice.read_on.Goals as goal

pub loop-at-init : goal.loop-at-init
loop-at-init c =
    let plain = c.requires.plain in
    record {
      passed = passed _ _ _ plain;
      all = omega (arith, counted _ _ _ plain);
      worth = plain.worth;
      wrapped = plain.wrapped;
    }

pub loop-at-preserved : goal.loop-at-preserved
loop-at-preserved c = grind (arith, reading)

pub returns-then-not-is_separator : goal.returns-then-not-is_separator
returns-then-not-is_separator c = grind (arith, reading)

pub returns : goal.returns
returns c = grind (arith, reading)
