use Rattle.std.proofs.Common.{rules, ◌∙◌, sym, arith}
use Rattle.std.proofs.lemmas.Int.{ints}
use Rattle.digit_values.proofs.reading.take_digits.Goals as goal

pub loop-iter-preserved : goal.loop-iter-preserved
loop-iter-preserved g c =
    let so = c.loop-iter.invariant in
    let peeked = c.peek_is_digit.ensures in
    let peeks = peeked.peeks _ so.same in
    let there = peeks.some c.loop-iter-test.true in
    rw (c.take_byte.ensures.takes ∙ peeks.takes) (record {
      digits = grind (arith, there.digits, so.digits);
      after = sym there.after ∙ so.after;
      same = λ byte l. so.same byte l ∙ sym (peeked.same byte l);
      below = omega (arith, so.below, there.on, peeks.onward, peeks.stands);
      owes = omega (arith, ints, c.take_byte.ensures.owes, peeked.owes, so.owes);
      keeps_loan = search rules;
    })
