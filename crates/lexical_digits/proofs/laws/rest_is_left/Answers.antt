use Rattle.std.proofs.Common.{arith}
use Rattle.lexical_digits.proofs.Calls.Rest.{rests}
use Rattle.lexical_digits.proofs.laws.rest_is_left.Goals as goal

pub returns : goal.returns
returns c = grind (arith, rests)
