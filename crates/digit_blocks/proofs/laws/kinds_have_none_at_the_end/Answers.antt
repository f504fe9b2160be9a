use Rattle.std.proofs.Common.{length}
use Rattle.digit_values.specs.declared.LiteralError.TheVariants as integers
use Rattle.digit_floats.specs.declared.error.FloatError.TheVariants as floats
use Rattle.digit_amounts.specs.declared.scaled.ScaledError.TheVariants as scaled
use Rattle.digit_numbers.specs.declared.number.NumberError.TheVariants as numbers
use Rattle.digit_languages.specs.declared.literal.LanguageError.TheVariants as languages
use Rattle.digit_amounts.specs.declared.prices.PriceError.TheVariants as prices
use Rattle.digit_blocks.proofs.NoneAtEnd.{is_itself, price_none}
use Rattle.digit_blocks.proofs.laws.kinds_have_none_at_the_end.Goals as goal

pub returns-clause-integers : goal.returns-clause-integers
returns-clause-integers c = λ least most.
    let n = length c.args.text.now in
    (integers.Empty n, c.no_number_at_the_end.ensures.integer least most, is_itself n)

pub returns-clause-floats : goal.returns-clause-floats
returns-clause-floats c = λ f.
    let n = length c.args.text.now in
    (floats.Empty n, c.no_number_at_the_end.ensures.float f, is_itself n)

pub returns-clause-scaled : goal.returns-clause-scaled
returns-clause-scaled c = λ point places least most.
    let n = length c.args.text.now in
    (scaled.Empty n, c.no_number_at_the_end.ensures.scaled point places least most, is_itself n)

pub returns-clause-prices : goal.returns-clause-prices
returns-clause-prices c = λ is_exact is_grouped point places least most.
    let n = length c.args.text.now in
    let none = c.no_number_at_the_end.ensures.scaled point places least most in (
      prices.Number (scaled.Empty n),
      price_none c.args.word c.args.text.now point places least most n (scaled.Empty n) none
          is_exact is_grouped,
      is_itself n,
    )

pub returns-clause-numbers : goal.returns-clause-numbers
returns-clause-numbers c = λ form f.
    let n = length c.args.text.now in
    (numbers.Empty n, c.no_number_at_the_end.ensures.number form f, is_itself n)

pub returns-clause-literals : goal.returns-clause-literals
returns-clause-literals c = λ language most.
    let n = length c.args.text.now in
    (languages.Empty n, c.no_number_at_the_end.ensures.literal language most, is_itself n)
