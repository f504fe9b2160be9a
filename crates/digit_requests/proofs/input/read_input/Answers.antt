use Rattle.std.proofs.Common.{arith, rules, length-take}
use Rattle.digit_requests.proofs.Reading.{read_all, reads_past}
use Rattle.digit_requests.proofs.input.read_input.Goals as goal

pub returns-in-Ok-eq0-clause-all : goal.returns-in-Ok-eq0-clause-all
returns-in-Ok-eq0-clause-all g c =
    let read = rw c.in-Ok-eq0.field-0-test at c.in-Ok-eq0.ensures.bytes in
    let ended = c.in-Ok-eq0.ensures.bytes.1 c.in-Ok-eq0.field-0-test (search rules) in
    read_all _ _ _ _ c.loop.invariant.1 read.0 ended

pub returns-then-n-len-clause-too_long : goal.returns-then-n-len-clause-too_long
returns-then-n-len-clause-too_long g c = λ e.
    let now = c.in-Ok.ensures in
    reads_past _ _ _ _ _ c.in-Ok.n c.loop.invariant.1 now.bytes.0 now.bound.0
    (grind (arith, length-take, c.loop.invariant, now.bound.0, now.bound.1))
