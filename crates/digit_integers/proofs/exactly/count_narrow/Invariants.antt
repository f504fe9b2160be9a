use Rattle.digit_integers.proofs.Counts.{CountsOn}
use Rattle.digit_integers.proofs.exactly.count_narrow.Given as goal

abbrev pub invariant-loop-count : goal.invariant-loop-count
invariant-loop-count l = CountsOn l.radix l.bytes l.most l.value l.count
