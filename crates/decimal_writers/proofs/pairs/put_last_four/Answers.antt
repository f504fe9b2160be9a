use Rattle.std.proofs.Common.{◌-◌, ◌*◌, arith}
use Rattle.decimal_writers.proofs.TwoDigits.{number_left, number_long}
use Rattle.decimal_writers.proofs.pairs.put_last_four.Goals as goal

pub put_four-requires-clause-room : goal.put_four-requires-clause-room
put_four-requires-clause-room c =
    let high = c.first_four-high in
    omega (arith, c.requires.room, number_long c.args.n high.result 4 (omega arith) high.ensures)

pub overflow_sub-result : goal.overflow_sub-result
overflow_sub-result c =
    let high = c.first_four-high in
    omega (arith, c.requires.room, number_long c.args.n high.result 4 (omega arith) high.ensures)

pub returns-clause-start : goal.returns-clause-start
returns-clause-start c =
    let high = c.first_four-high in
    omega (arith, c.requires.room, number_long c.args.n high.result 4 (omega arith) high.ensures)

pub returns-clause-written : goal.returns-clause-written
returns-clause-written c =
    let a = c.args in
    let high = c.first_four-high in
    number_left a.n high.result (a.n - high.result * 10000) 4 a.end a.out.now c.put_four.new.out
    (omega arith) high.ensures (omega (arith, high.ensures)) c.put_four.ensures
