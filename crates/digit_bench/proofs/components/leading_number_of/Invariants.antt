use Rattle.std.proofs.Common.{length}
use Rattle.lexical_digits.specs.CallTable.{drain_of}
use Rattle.digit_bench.proofs.components.leading_number_of.Given as goal

abbrev pub decreases-loop-byte : goal.decreases-loop-byte
decreases-loop-byte g l = length (drain_of l.fn.component l.bytes.state)
