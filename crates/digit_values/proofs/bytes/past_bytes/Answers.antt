use Rattle.std.proofs.Common.{◌+◌, sym, arith}
use Rattle.lexical_digits.specs.ByteSet.{accepts}
use Rattle.digit_values.specs.Bytes.{past_bytes}
use Rattle.digit_values.proofs.Passing.{first_and_others, one_passed}
use Rattle.digit_values.proofs.bytes.past_bytes.Goals as goal

pub returns-clause-is : goal.returns-clause-is
unfolding past_bytes
returns-clause-is c =
    let set = accepts c.args.set in
    let text = c.args.text.now in
    let at = c.args.at in
    let first = one_passed set text at (sym c.if-not-has_any.ensures.is) in
    let others = first_and_others set text (at + 1) _ (sym c.if-not-has_any-2.ensures.is)
    c.count_bytes.ensures.is in
    omega (arith, first, others)
