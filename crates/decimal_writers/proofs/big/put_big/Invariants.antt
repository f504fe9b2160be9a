use Rattle.std.proofs.Common.{◌≡◌, ◌-◌, ◌/◌, ◌^◌, ◌++◌, drop, take}
use Rattle.decimal_writers.specs.Big.{value_of}
use Rattle.decimal_writers.specs.Text.{last_digits}
use Rattle.decimal_writers.proofs.big.put_big.Given as goal

abbrev pub invariant-loop-i : goal.invariant-loop-i
invariant-loop-i l =
    drop (l.end - l.i) l.out ≡ last_digits l.i
    (value_of (take l.len l.digits) / 10 ^ l.from) ++ drop l.end l.fn.out
