use Rattle.std.proofs.Common.{arith}
use Rattle.digit_values.proofs.States.{by_state}
use Rattle.digit_values.proofs.component.pass_digits.Goals as goal

pub returns : goal.returns
returns c = grind (arith, by_state)
