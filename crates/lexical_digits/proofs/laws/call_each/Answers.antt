use Rattle.std.proofs.Common.{rules, arith}
use Rattle.std.proofs.lemmas.Int.{ints}
use Rattle.lexical_digits.proofs.laws.call_each.Goals as goal

pub returns-clause-owes : goal.returns-clause-owes
returns-clause-owes g c =
    let digits = g.met.I.DigitsIter c.lifetimes (search rules) in
    let next = digits.next_owes _ _ _ c.next.ensures.steps in
    let more = rw (
      c.try_read.ensures.leaves,
      c.increment_count.ensures.counts,
      digits.next_takes _ _ _ c.next.ensures.steps,
      c.peek.ensures.settles,
    ) at c.skip_zeros.ensures.answers in
    omega (arith, ints)
