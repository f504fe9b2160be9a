use Rattle.std.proofs.Common.{ℕ, ◌+◌, ◌*◌, length, ap, ◌∙◌, arith}
use Rattle.std.proofs.lemmas.Int.{ints}
use Rattle.number_vectors.proofs.calls.pass_number.Goals as goal

-- the digits of the three components are bytes of the text, one after another
pub returns-clause-looks : goal.returns-clause-looks
returns-clause-looks c =
    let one = c.pass_component.ensures in
    let two = c.pass_component-2.ensures in
    let three = c.pass_component-3.ensures in
    let last = c.pass_component-3.new.bytes in
    let digits : ℕ =
    c.pass_component.result + c.pass_component-2.result + c.pass_component-3.result in
    let same = ap length (three.buffer ∙ two.buffer ∙ one.buffer) in
    let bound = c.looks_are_bounded.ensures c.args.bytes.now last (8 * digits + 12) same
    (omega (arith, ints, one.owes, two.owes, three.owes)) in
    omega (arith, bound, same, last.holds.within, one.within, two.within, three.within)
