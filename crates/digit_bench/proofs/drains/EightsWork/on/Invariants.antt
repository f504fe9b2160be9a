use Rattle.std.proofs.Common.{◌-◌, length}
use Rattle.digit_bench.proofs.drains.EightsWork.on.Given as goal

abbrev pub decreases-loop-eight : goal.decreases-loop-eight
decreases-loop-eight g l = length l.bytes.state.buffer - l.bytes.state.cursor
