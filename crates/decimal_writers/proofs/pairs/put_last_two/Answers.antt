use Rattle.std.proofs.Common.{◌-◌, ◌*◌, arith}
use Rattle.decimal_writers.proofs.TwoDigits.{number_left, number_long}
use Rattle.decimal_writers.proofs.pairs.put_last_two.Goals as goal

pub put_two-requires-clause-room : goal.put_two-requires-clause-room
put_two-requires-clause-room c =
    let high = c.first_two-high in
    omega (arith, c.requires.room, number_long c.args.n high.result 2 (omega arith) high.ensures)

pub overflow_sub-result : goal.overflow_sub-result
overflow_sub-result c =
    let high = c.first_two-high in
    omega (arith, c.requires.room, number_long c.args.n high.result 2 (omega arith) high.ensures)

pub returns-clause-start : goal.returns-clause-start
returns-clause-start c =
    let high = c.first_two-high in
    omega (arith, c.requires.room, number_long c.args.n high.result 2 (omega arith) high.ensures)

pub returns-clause-written : goal.returns-clause-written
returns-clause-written c =
    let a = c.args in
    let high = c.first_two-high in
    number_left a.n high.result (a.n - high.result * 100) 2 a.end a.out.now c.put_two.new.out
    (omega arith) high.ensures (omega (arith, high.ensures)) c.put_two.ensures
