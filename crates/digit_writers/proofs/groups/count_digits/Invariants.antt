use Rattle.std.proofs.Common.{◌≡◌, ◌+◌}
use Rattle.digit_writers.specs.Layouts.{digit_count}
use Rattle.digit_writers.proofs.groups.count_digits.Given as goal

abbrev pub invariant-loop-left : goal.invariant-loop-left
invariant-loop-left l = l.count + digit_count l.radix l.left ≡ digit_count l.radix l.n

abbrev pub decreases-loop-left : goal.decreases-loop-left
decreases-loop-left l = l.left
