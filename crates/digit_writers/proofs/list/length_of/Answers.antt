use Rattle.std.proofs.Common.{◌^◌, ◌<◌, arith}
use Rattle.digit_writers.proofs.ListTexts.{length_is}
use Rattle.digit_writers.proofs.list.length_of.Goals as goal

pub returns-clause-is : goal.returns-clause-is
returns-clause-is g c =
    let p = c.parts-is_negative in
    let few : p.result.1 < 10 ^ 64 = omega (arith, p.type_inv.1) in
    length_is p.result.0 p.result.1 c.count_signs.result c.count_digits.result _ p.ensures.number
    p.ensures.minus few c.count_signs.ensures.is c.count_digits.ensures.is
