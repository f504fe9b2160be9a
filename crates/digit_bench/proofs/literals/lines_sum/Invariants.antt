use Rattle.std.proofs.Common.{◌-◌, length}
use Rattle.digit_bench.proofs.literals.lines_sum.Given as goal

abbrev pub decreases-loop-start : goal.decreases-loop-start
decreases-loop-start g l = length l.text - l.start
