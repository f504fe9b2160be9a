use Rattle.std.proofs.Common.{◌-◌, ◌≤◌}
use Rattle.decimal_writers.proofs.Numerals.{IsPut}
use Rattle.decimal_writers.proofs.digits.put_pairs.Given as goal

abbrev pub invariant-loop-at : goal.invariant-loop-at
invariant-loop-at l = (l.end - l.count ≤ l.at) × IsPut l.n l.end l.at l.left l.fn.out l.out

abbrev pub decreases-loop-at : goal.decreases-loop-at
decreases-loop-at l = l.at
