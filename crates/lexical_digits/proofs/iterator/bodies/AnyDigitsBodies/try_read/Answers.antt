use Rattle.std.proofs.Common.{arith}
use Rattle.std.proofs.lemmas.Option.{gets}
use Rattle.lexical_digits.proofs.iterator.bodies.AnyDigitsBodies.try_read.Goals as goal

pub set_cursor-requires : goal.set_cursor-requires
set_cursor-requires g c = grind (arith, gets)
