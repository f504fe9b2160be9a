use Rattle.std.proofs.Common.{arith}
use Rattle.form_writers.proofs.Integers.{one_less, last_one, some_digits_of}
use Rattle.form_writers.proofs.integer.count_digits.Goals as goal

pub loop-left-preserved : goal.loop-left-preserved
loop-left-preserved c =
    let l = c.loop-left in
    one_less c.args.n l.count l.left c.loop-left-test.true l.invariant

pub returns-clause-is : goal.returns-clause-is
returns-clause-is c =
    let l = c.loop-left in
    last_one c.args.n l.count l.left c.loop-left-test.false l.invariant

pub returns-clause-some : goal.returns-clause-some
returns-clause-some c =
    let l = c.loop-left in
    omega (
      arith,
      some_digits_of c.args.n,
      last_one c.args.n l.count l.left c.loop-left-test.false l.invariant,
    )
