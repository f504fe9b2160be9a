use Rattle.std.proofs.Common.{◌∙◌, ap}
use Rattle.std.specs.Str.Parse.{digits_value}
use Rattle.digit_floats.specs.Decimals.{decimal_of, signed_exponent}
use Rattle.digit_floats.specs.Parts.{fraction_of}
use Rattle.digit_numbers.specs.Numbers.{exponent, parts}
use Rattle.digit_numbers.proofs.Decimals.{same_exponent}
use Rattle.digit_numbers.proofs.decimal.of_float.Goals as goal

pub returns : goal.returns
returns c =
    let text = c.args.text.now in
    let m = c.args.mantissa in
    let p = parts c.args.form text m.start in
    let n = digits_value 10 (exponent c.args.form text m.start) in
    let e = signed_exponent c.args.power.negative n in
    c.decimal_of.ensures n c.requires.power.value
    ∙ ap (λ ds. decimal_of c.args.negative ds (fraction_of text m) e) c.requires.is.integer
    ∙ ap (λ ds. decimal_of c.args.negative p.whole ds e)
    (c.requires.is.fraction ∙ c.requires.power.fraction)
    ∙ ap (λ e. decimal_of c.args.negative p.whole p.fraction e)
    (same_exponent n c.args.power.negative p.exponent_negative c.requires.power.negative)
