use Rattle.std.proofs.Common.{arith}
use Rattle.digit_literals.proofs.ByEnds.{first_room, before_first}
use Rattle.digit_literals.proofs.ends.any_number.Goals as goal

pub value_at-value-requires-clause-within : goal.value_at-value-requires-clause-within
value_at-value-requires-clause-within g c =
    let e = c.in_ok-head.ensures in
    let h = c.in_ok-head.head in
    let room = first_room c.args.text.now h.begin h.others e.others e.some (omega arith) in
    omega (arith, room)

pub value_at-value-requires-clause-digits : goal.value_at-value-requires-clause-digits
value_at-value-requires-clause-digits g c =
    let e = c.in_ok-head.ensures in
    let h = c.in_ok-head.head in
    before_first c.args.text.now h.begin h.others e.others e.some (omega arith)
