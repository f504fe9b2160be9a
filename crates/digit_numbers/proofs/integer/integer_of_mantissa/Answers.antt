use Rattle.std.proofs.Common.{◌^◌, ◌-◌}
use Rattle.lexical_digits.specs.declared.skip.component.Component.TheVariants.{Integer}
use Rattle.lexical_digits.specs.State.{rule_of}
use Rattle.digit_numbers.proofs.Few.{integer_is}
use Rattle.digit_numbers.proofs.Zeros.{few_is}
use Rattle.digit_numbers.proofs.integer.integer_of_mantissa.Goals as goal

pub returns-clause-is : goal.returns-clause-is
returns-clause-is c =
    let l = c.args.language in
    let text = c.args.text.now in
    let at = c.args.mantissa.start in
    let value = c.in_ok-value.value in
    let end = c.in_ok-value.end in
    let plain = c.is_plain.ensures.plain c.if-not-is_plain.false in
    let alone = c.is_plain.ensures.alone c.if-not-is_plain.false in
    few_is l text at value end plain
    (integer_is (rule_of l.decimal Integer) text at (2 ^ 128 - 1) value end
    c.in_ok-value.ensures.is)
    alone
