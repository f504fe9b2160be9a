use Rattle.std.proofs.Common.{◌+◌, sym, arith}
use Rattle.digit_literals.specs.Lists.{is_blank, past_blanks}
use Rattle.digit_values.proofs.Passing.{one_passed, first_and_others}
use Rattle.digit_literals.proofs.list.Gap.past_few_blanks.Goals as goal

pub returns-clause-is : goal.returns-clause-is
unfolding past_blanks
returns-clause-is c =
    let blank = is_blank c.args.self in
    let text = c.args.text.now in
    let at = c.args.at in
    let first = one_passed blank text at (sym c.if-not-has_blank.ensures.is) in
    let others =
    first_and_others blank text (at + 1) c.count_blanks.result
    (sym c.if-not-has_blank-2.ensures.is) c.count_blanks.ensures.is in
    omega (arith, first, others)
