use Rattle.std.proofs.Common.{rules, arith}
use Rattle.std.proofs.lemmas.Int.{ints}
use Rattle.lexical_digits.proofs.laws.next_after_peek.Goals as goal

pub returns-clause-owes : goal.returns-clause-owes
returns-clause-owes g c =
    let i = g.met.I.DigitsIter c.lifetimes (search rules) in
    omega (arith, ints, c.peek-peeked.ensures.owes, i.next_owes _ _ _ c.next-next.ensures.steps)
