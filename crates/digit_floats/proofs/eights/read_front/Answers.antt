use Rattle.std.proofs.Common.{arith}
use Rattle.digit_floats.proofs.EightDigits.{value_one}
use Rattle.digit_floats.proofs.eights.read_front.Goals as goal

pub digit_of-requires-clause-digit : goal.digit_of-requires-clause-digit
digit_of-requires-clause-digit c =
    (value_one c.args.rule c.args.text.now c.args.start c.args.before c.loop-at.at c.requires.radix
    c.loop-at.invariant.onward (omega (arith, c.loop-at-test.true, c.requires.within))
    (c.requires.digits c.loop-at.at c.loop-at.invariant.onward c.loop-at-test.true)).0

pub loop-at-preserved : goal.loop-at-preserved
loop-at-preserved c =
    let one =
    value_one c.args.rule c.args.text.now c.args.start c.args.before c.loop-at.at c.requires.radix
    c.loop-at.invariant.onward (omega (arith, c.loop-at-test.true, c.requires.within))
    (c.requires.digits c.loop-at.at c.loop-at.invariant.onward c.loop-at-test.true) in
    record {
      onward = omega (arith, c.loop-at.invariant.onward);
      is = omega (arith, one.2, c.loop-at.invariant.is, c.digit_of.ensures);
      fits =
          omega (arith, one.0, one.1, c.digit_of.ensures, c.if-value-ge1000000000000000000.false);
    }
