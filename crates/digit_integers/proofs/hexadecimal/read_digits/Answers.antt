use Rattle.std.proofs.Common.{◌+◌, slice_index, sym, ◌∙◌, arith}
use Rattle.digit_integers.proofs.Hexadecimals.{hexadecimal_more, at_most_digits, digit_below}
use Rattle.digit_integers.proofs.hexadecimal.read_digits.Goals as goal

pub overflow_mul-value : goal.overflow_mul-value
overflow_mul-value c =
    let few =
    at_most_digits c.args.start (c.args.start + c.loop-count.count) c.loop-count.value 7
    c.loop-count.invariant.few (omega (arith, c.loop-count-test.true)) in
    omega (arith, few)

pub overflow_add-value : goal.overflow_add-value
overflow_add-value c =
    let few =
    at_most_digits c.args.start (c.args.start + c.loop-count.count) c.loop-count.value 7
    c.loop-count.invariant.few (omega (arith, c.loop-count-test.true)) in
    let below =
    digit_below (slice_index c.args.text.now (c.args.start + c.loop-count.count))
    c.in_ok-digit.digit (sym c.char_to_digit_const.ensures ∙ c.in_ok-digit.was) in
    omega (arith, few, below, c.from.ensures)

pub loop-count-preserved : goal.loop-count-preserved
loop-count-preserved c =
    let next =
    hexadecimal_more c.args.rule c.args.text.now c.args.start
    (c.args.start + c.loop-count.count) c.loop-count.value c.in_ok-digit.digit _ (omega arith)
    c.requires.sixteen c.loop-count.invariant
    (grind (arith, c.loop-count.invariant.within, c.if-at-text.false))
    (sym c.char_to_digit_const.ensures ∙ c.in_ok-digit.was) in
    rw (c.from.ensures) next
