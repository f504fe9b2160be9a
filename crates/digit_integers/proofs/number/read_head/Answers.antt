use Rattle.std.proofs.Common.{arith}
use Rattle.std.proofs.lemmas.Option.{gets}
use Rattle.digit_integers.proofs.number.read_head.Goals as goal

pub returns-in-Some-eq45 : goal.returns-in-Some-eq45
returns-in-Some-eq45 g c = grind (arith, gets)

pub returns-in-Some-eq43 : goal.returns-in-Some-eq43
returns-in-Some-eq43 g c = grind (arith, gets)

pub returns-else-is_some : goal.returns-else-is_some
returns-else-is_some g c = grind (arith, gets)

pub returns-else-is_some-2 : goal.returns-else-is_some-2
returns-else-is_some-2 g c = grind (arith, gets)
