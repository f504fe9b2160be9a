use Rattle.digit_writers.proofs.Laying.{IsPut}
use Rattle.digit_writers.proofs.groups.put_last_narrow.Given as goal

abbrev pub invariant-loop-done : goal.invariant-loop-done
invariant-loop-done l =
    IsPut l.layout.radix l.layout.is_upper l.n l.count l.at l.done l.left l.fn.out l.out
