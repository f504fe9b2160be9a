use Rattle.std.proofs.Common.{arith}
use Rattle.decimal_writers.proofs.Bigs.{times_none, times_one}
use Rattle.decimal_writers.proofs.big.times.Goals as goal

pub loop-i-init : goal.loop-i-init
loop-i-init c = times_none c.args.digits.now c.args.factor c.requires.factor.0 c.requires.digits

pub loop-i-preserved : goal.loop-i-preserved
loop-i-preserved c =
    let l = c.loop-i in
    times_one c.args.digits.now l.digits c.args.factor l.i l.carry
    (omega arith) l.auto.digits l.invariant
