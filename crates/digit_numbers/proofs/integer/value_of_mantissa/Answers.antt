use Rattle.std.proofs.Common.{◌≡◌, arith}
use Rattle.std.proofs.lemmas.Bool.Decides.{nat_tests}
use Rattle.digit_floats.specs.Float.{digits_from, digits_end}
use Rattle.digit_numbers.proofs.Few.{digits_of_whole, value_of_whole}
use Rattle.digit_numbers.proofs.integer.value_of_mantissa.Goals as goal

pub returns-clause-is : goal.returns-clause-is
unfolding digits_from digits_end
returns-clause-is c =
    let none : c.args.mantissa.places ≡ 0 = omega (arith, c.if-mantissa-gt0.false) in
    let few : c.args.mantissa.dropped ≡ 0 = omega (arith, c.if-mantissa-gt0-2.false) in
    let some = digits_of_whole c.args.word c.args.text.now c.args.mantissa c.requires.is none in
    let value = value_of_whole c.args.word c.args.text.now c.args.mantissa c.requires.is none few in
    grind (arith, nat_tests, c.requires.is, some, value, c.if-mantissa-eq0.false)
