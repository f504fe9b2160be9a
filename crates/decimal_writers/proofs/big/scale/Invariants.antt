use Rattle.decimal_writers.proofs.Bigs.{IsScaling}
use Rattle.decimal_writers.proofs.big.scale.Given as goal

abbrev pub invariant-loop-left : goal.invariant-loop-left
invariant-loop-left l = IsScaling l.fn.digits l.digits l.len l.after l.base l.exponent l.left

abbrev pub decreases-loop-left : goal.decreases-loop-left
decreases-loop-left l = l.left
