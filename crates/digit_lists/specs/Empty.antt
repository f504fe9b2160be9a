-- Whether an error says that there is no digit, or by a form no number.
use Rattle.std.specs.Prelude.{Bool, true, false}
use Rattle.digit_values.specs.declared.LiteralError.{LiteralError}
use Rattle.digit_values.specs.declared.LiteralError.TheVariants as integers
use Rattle.digit_floats.specs.declared.error.FloatError.{FloatError}
use Rattle.digit_floats.specs.declared.error.FloatError.TheVariants as floats
use Rattle.digit_amounts.specs.declared.scaled.ScaledError.{ScaledError}
use Rattle.digit_amounts.specs.declared.scaled.ScaledError.TheVariants as scaled
use Rattle.digit_amounts.specs.declared.prices.PriceError.{PriceError}
use Rattle.digit_amounts.specs.declared.prices.PriceError.TheVariants.{Number, Group, Places}
use Rattle.digit_numbers.specs.declared.number.NumberError.{NumberError}
use Rattle.digit_numbers.specs.declared.number.NumberError.TheVariants as numbers
use Rattle.digit_languages.specs.declared.literal.LanguageError.{LanguageError}
use Rattle.digit_languages.specs.declared.literal.LanguageError.TheVariants as languages
use Rattle.digit_pieces.specs.declared.kinds.both.BothError.{BothError}
use Rattle.digit_pieces.specs.declared.kinds.both.BothError.TheVariants.{First, Between, Second}
use Rattle.digit_pieces.specs.declared.kinds.enclosed.BracketError.{BracketError}
use Rattle.digit_pieces.specs.declared.kinds.enclosed.BracketError.TheVariants as brackets

abbrev pub literal_is_empty : LiteralError → Bool
literal_is_empty (integers.Empty at) = true
literal_is_empty (integers.Overflow at) = false

abbrev pub float_is_empty : FloatError → Bool
float_is_empty (floats.Empty at) = true
float_is_empty (floats.EmptyExponent at) = false
float_is_empty (floats.Invalid at) = false

abbrev pub scaled_is_empty : ScaledError → Bool
scaled_is_empty (scaled.Empty at) = true
scaled_is_empty (scaled.TooLarge at) = false
scaled_is_empty (scaled.TooFine at) = false
scaled_is_empty (scaled.Invalid at) = false

abbrev pub price_is_empty : PriceError → Bool
price_is_empty (Number error) = scaled_is_empty error
price_is_empty (Group at) = false
price_is_empty (Places at) = false

abbrev pub number_is_empty : NumberError → Bool
number_is_empty (numbers.Empty at) = true
number_is_empty (numbers.Overflow at) = false
number_is_empty (numbers.Invalid at) = false

abbrev pub language_is_empty : LanguageError → Bool
language_is_empty (languages.Empty at) = true
language_is_empty (languages.Overflow at) = false
language_is_empty (languages.Zero at) = false

-- of two numbers: that of the first
abbrev pub both_is_empty : {D E : Type 0} → (D → Bool) → BothError D E → Bool
both_is_empty first (First error) = first error
both_is_empty first (Between at) = false
both_is_empty first (Second error) = false

-- of a number between two bytes: the first byte isn't there
abbrev pub bracket_is_empty : {E : Type 0} → BracketError E → Bool
bracket_is_empty (brackets.NoOpening at) = true
bracket_is_empty (brackets.Number error) = false
bracket_is_empty (brackets.NoClosing at) = false
