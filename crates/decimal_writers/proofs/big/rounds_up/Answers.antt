use Rattle.std.proofs.Common.{◌-◌, take, get_or, arith}
use Rattle.decimal_writers.specs.Big.{value_of}
use Rattle.decimal_writers.proofs.Rounding.{dropped_is, goes_down, goes_up}
use Rattle.decimal_writers.proofs.big.rounds_up.Goals as goal

pub returns-then-first-lt5-clause-is : goal.returns-then-first-lt5-clause-is
returns-then-first-lt5-clause-is c =
    let a = c.args in
    goes_down (value_of (take a.len a.digits.now)) a.dropped (get_or a.digits.now (a.dropped - 1) 0)
    (value_of (take (a.dropped - 1) a.digits.now))
    (dropped_is a.digits.now a.len a.dropped c.requires.big.digits c.requires.big.within
    (omega (arith, c.if-dropped-eq0.false)) (omega (arith, c.if-dropped-len.false)))
    c.if-first-lt5.true

pub returns-then-first-gt5-clause-is : goal.returns-then-first-gt5-clause-is
returns-then-first-gt5-clause-is c =
    let a = c.args in
    goes_up (value_of (take a.len a.digits.now)) a.dropped (get_or a.digits.now (a.dropped - 1) 0)
    (value_of (take (a.dropped - 1) a.digits.now))
    (dropped_is a.digits.now a.len a.dropped c.requires.big.digits c.requires.big.within
    (omega (arith, c.if-dropped-eq0.false)) (omega (arith, c.if-dropped-len.false)))
    c.if-first-gt5.true
