use Rattle.std.proofs.Common.{arith}
use Rattle.std.proofs.lemmas.List.{length-set}
use Rattle.decimal_writers.proofs.Numerals.{some_digits}
use Rattle.decimal_writers.proofs.point.put_mantissa.Goals as goal

pub bounds-out-start-3 : goal.bounds-out-start-3
bounds-out-start-3 c =
    let p = c.put_number-start in
    omega (
      arith,
      p.auto.out,
      p.ensures.start,
      some_digits c.args.digits,
      c.requires.within,
      length-set p.new.out p.result 46,
    )
