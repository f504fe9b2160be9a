use Rattle.decimal_writers.proofs.Bigs.{IsCarried}
use Rattle.decimal_writers.proofs.big.put_carry.Given as goal

abbrev pub invariant-loop-left : goal.invariant-loop-left
invariant-loop-left l = IsCarried l.fn.digits l.digits l.start l.carry l.at l.left

abbrev pub decreases-loop-left : goal.decreases-loop-left
decreases-loop-left l = l.left
