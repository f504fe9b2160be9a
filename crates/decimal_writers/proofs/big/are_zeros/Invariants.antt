use Rattle.std.proofs.Common.{◌≡◌, take}
use Rattle.decimal_writers.specs.Big.{value_of}
use Rattle.decimal_writers.proofs.big.are_zeros.Given as goal

abbrev pub invariant-loop-i : goal.invariant-loop-i
invariant-loop-i l = value_of (take l.i l.digits) ≡ 0
