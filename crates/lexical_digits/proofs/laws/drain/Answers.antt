use Rattle.std.proofs.Common.{arith}
use Rattle.lexical_digits.proofs.Calls.Loops.{drains}
use Rattle.lexical_digits.proofs.laws.drain.Goals as goal

pub overflow_add-items : goal.overflow_add-items
overflow_add-items c = grind (arith, drains)

pub loop-byte-preserved : goal.loop-byte-preserved
loop-byte-preserved c = grind (arith, drains)
