use Rattle.std.proofs.Common.{◌-◌, ◌*◌, arith}
use Rattle.decimal_writers.proofs.TwoDigits.{both_put}
use Rattle.decimal_writers.proofs.pairs.put_four.Goals as goal

pub returns : goal.returns
returns c =
    let a = c.args in
    let high = c.first_two-high in
    both_put a.n high.result (a.n - high.result * 100) 2 2 a.end a.out.now c.put_two.new.out
    c.put_two-2.new.out c.requires.room high.ensures (omega (arith, high.ensures)) c.put_two.ensures
    c.put_two-2.ensures
