use Rattle.std.proofs.Common.{◌-◌}
use Rattle.decimal_writers.proofs.Rounding.{IsAdding}
use Rattle.decimal_writers.proofs.big.add_one.Given as goal

abbrev pub invariant-loop-at : goal.invariant-loop-at
invariant-loop-at l = IsAdding l.fn.digits l.digits l.len l.place l.at

abbrev pub decreases-loop-at : goal.decreases-loop-at
decreases-loop-at l = l.len - l.at
