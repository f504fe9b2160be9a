use Rattle.decimal_writers.proofs.Bigs.{IsTimes}
use Rattle.decimal_writers.proofs.big.times.Given as goal

abbrev pub invariant-loop-i : goal.invariant-loop-i
invariant-loop-i l = IsTimes l.fn.digits l.digits l.factor l.i l.carry
