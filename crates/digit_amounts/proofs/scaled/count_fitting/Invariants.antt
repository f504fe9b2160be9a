use Rattle.digit_amounts.proofs.Faults.{IsFitting}
use Rattle.digit_amounts.proofs.scaled.count_fitting.Given as goal

-- all digits so far fit
abbrev pub invariant-loop-at : goal.invariant-loop-at
invariant-loop-at l = IsFitting l.whole l.places l.most l.bytes l.value l.left l.at
