use Rattle.std.proofs.Common.{◌≡◌, ◌-◌, ◌*◌, ◌^◌, ◌<◌, ◌≤◌}
use Rattle.float_writers.proofs.decimal.without_zeros.Given as goal

abbrev pub invariant-loop-left : goal.invariant-loop-left
invariant-loop-left l =
    (0 < l.left) × ((l.power ≤ l.up) × (l.left * 10 ^ (l.up - l.power) ≡ l.digits))

abbrev pub decreases-loop-left : goal.decreases-loop-left
decreases-loop-left l = l.left
