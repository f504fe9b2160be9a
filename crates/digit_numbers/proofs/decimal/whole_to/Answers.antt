use Rattle.std.proofs.Common.{◌∙◌, arith}
use Rattle.lexical_digits.specs.State.{rule_of}
use Rattle.lexical_digits.specs.declared.skip.component.Component.TheVariants.{Integer}
use Rattle.digit_numbers.proofs.Decimals.{lone_zero, digits_are}
use Rattle.digit_numbers.proofs.decimal.whole_to.Goals as goal

pub returns-then-end-mantissa : goal.returns-then-end-mantissa
returns-then-end-mantissa c =
    let zero = c.requires.all c.if-end-mantissa.true in
    rw zero.1 (lone_zero c.args.negative (rule_of c.args.form.integers.decimal Integer)
    c.args.text.now c.args.mantissa.start zero.0)

pub returns : goal.returns
returns c =
    let w = c.whole_of-whole.ensures in
    let ends = c.if-end-mantissa.false ∙ c.requires.is.whole_end in
    rw (digits_are c.args.form.integers.decimal c.args.text.now c.args.mantissa.start
    c.args.end ends) (rw (w.integer, w.fraction) at
    (rw c.none.ensures.negative at
    (c.decimal_of.ensures 0 (omega (arith, c.none.ensures.value)))))
