use Rattle.std.proofs.Common.{arith}
use Rattle.std.proofs.lemmas.Int.{ints}
use Rattle.number_vectors.proofs.calls.pass_component.Goals as goal

pub returns-then-first_is_cased-clause-owes : goal.returns-then-first_is_cased-clause-owes
returns-then-first_is_cased-clause-owes c =
    let onward = c.set_cursor.ensures.owes (omega (arith, c.cursor-at.ensures.value)) in
    omega (arith, ints, c.pass_digits-digits.ensures.owes, onward)
