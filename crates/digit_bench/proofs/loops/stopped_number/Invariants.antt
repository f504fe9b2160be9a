use Rattle.std.proofs.Common.{◌-◌, length}
use Rattle.digit_bench.proofs.loops.stopped_number.Given as goal

abbrev pub decreases-loop-byte : goal.decreases-loop-byte
decreases-loop-byte g l =
    length (g.I.Iter.buffer (g.I.Iter.meaning l.iter)) - g.I.Iter.cursor (g.I.Iter.meaning l.iter)
