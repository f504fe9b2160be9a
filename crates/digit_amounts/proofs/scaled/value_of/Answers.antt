use Rattle.std.proofs.Common.{◌≤◌, length, arith}
use Rattle.digit_floats.specs.Parts.{integer_of, fraction_of}
use Rattle.digit_amounts.proofs.Firsts.{all_count}
use Rattle.digit_amounts.proofs.scaled.value_of.Goals as goal

pub returns-then-mantissa-places-clause-is : goal.returns-then-mantissa-places-clause-is
returns-then-mantissa-places-clause-is c =
    let m = c.args.mantissa in
    let integer = integer_of c.args.text.now m in
    let fraction = fraction_of c.args.text.now m in
    let few : length fraction ≤ c.args.places =
    omega (arith, c.requires.is.places, c.if-mantissa-places.true) in
    rw (
      all_count integer fraction c.args.places m.value
          (rw c.if-mantissa-eq0.true at c.requires.is.first) few,
      ← c.requires.is.places,
      ← c.from.ensures,
    )
    c.times_ten_to.ensures.is
