use Rattle.std.proofs.Common.{arith}
use Rattle.lexical_digits.proofs.Calls.ChangesOwn.{each_call}
use Rattle.lexical_digits.proofs.laws.own_count_only.Goals as goal

pub returns-in-Integer : goal.returns-in-Integer
returns-in-Integer c = grind (arith, each_call)

pub returns-in-Fraction : goal.returns-in-Fraction
returns-in-Fraction c = grind (arith, each_call)

pub returns-in-Exponent : goal.returns-in-Exponent
returns-in-Exponent c = grind (arith, each_call)

pub returns-in-Special : goal.returns-in-Special
returns-in-Special c = grind (arith, each_call)
