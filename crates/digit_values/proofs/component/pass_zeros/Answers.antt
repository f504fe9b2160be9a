use Rattle.std.proofs.Common.{arith}
use Rattle.digit_values.proofs.PassedZeros.{passing}
use Rattle.digit_values.proofs.component.pass_zeros.Goals as goal

pub go_on_from-requires : goal.go_on_from-requires
go_on_from-requires c = grind (arith, passing)

pub returns : goal.returns
returns c = grind (arith, passing)

pub returns-in-Some : goal.returns-in-Some
returns-in-Some c = grind (arith, passing)
