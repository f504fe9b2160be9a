use Rattle.std.proofs.Common.{◌-◌, ◌+◌, arith}
use Rattle.decimal_writers.proofs.Rounded.{few_are, many_are}
use Rattle.decimal_writers.proofs.scientific.round_to.Goals as goal

pub returns-then-len-count-clause-rounded : goal.returns-then-len-count-clause-rounded
returns-then-len-count-clause-rounded c = λ down.
    let a = c.args in
    few_are a.digits.now a.len a.places c.saturating_sub-fraction.result c.requires.big
    (omega arith) (omega (arith, c.saturating_sub-fraction.ensures)) down

pub returns-clause-rounded : goal.returns-clause-rounded
returns-clause-rounded c = λ down.
    let a = c.args in
    let r = c.round_off-after in
    many_are a.digits.now r.new.digits a.len r.result a.places (a.len - (a.places + 1))
    c.requires.big r.ensures.big (omega (arith, c.if-len-count.false)) r.ensures.value down
    r.ensures.least r.ensures.few
