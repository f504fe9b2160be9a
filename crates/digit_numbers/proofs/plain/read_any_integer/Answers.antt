use Rattle.std.proofs.Common.{sym, ◌∙◌}
use Rattle.digit_numbers.proofs.Zeros.{large_plain}
use Rattle.digit_numbers.proofs.plain.read_any_integer.Goals as goal

pub read_large-x-requires-clause-large : goal.read_large-x-requires-clause-large
read_large-x-requires-clause-large g c =
    large_plain c.language_of.result c.args.text.now c.args.sign.end c.in-Err-Overflow.over
    (sym c.is_zero.ensures.is ∙ c.if-not-is_zero.true) c.args.form.integers.decimal
    c.language_of.ensures.decimal
    (cc (c.in-Err-Overflow.ensures.is, c.in-Err-Overflow.field-0-is))
