use Rattle.std.proofs.Common.{◌-◌, ◌*◌, arith}
use Rattle.decimal_writers.proofs.TwoDigits.{both_put}
use Rattle.decimal_writers.proofs.pairs.put_eight.Goals as goal

pub returns : goal.returns
returns c =
    let a = c.args in
    let high = c.first_four-high in
    both_put a.n high.result (a.n - high.result * 10000) 4 4 a.end a.out.now c.put_four.new.out
    c.put_four-2.new.out c.requires.room high.ensures (omega (arith, high.ensures))
    c.put_four.ensures c.put_four-2.ensures
