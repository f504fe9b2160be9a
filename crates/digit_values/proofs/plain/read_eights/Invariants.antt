use Rattle.std.proofs.Common.{◌-◌, length}
use Rattle.std.specs.Prelude.{None}
use Rattle.digit_values.specs.Reads.{ArePlain}
use Rattle.digit_values.proofs.plain.read_eights.Given as goal

abbrev pub invariant-loop-next : goal.invariant-loop-next
invariant-loop-next l = ArePlain l.fn.rule l.text l.start l.before None l.end l.value

abbrev pub decreases-loop-next : goal.decreases-loop-next
decreases-loop-next l = length l.text - l.end
