use Rattle.std.proofs.Common.{}
use Rattle.decimal_writers.proofs.Numerals.{IsBegun}
use Rattle.decimal_writers.proofs.digits.put_number.Given as goal

abbrev pub invariant-loop-left : goal.invariant-loop-left
invariant-loop-left l = IsBegun l.n l.end l.at l.left l.fn.out l.out

abbrev pub decreases-loop-left : goal.decreases-loop-left
decreases-loop-left l = l.left
