-- The decimal number at a position of a text by a form: the number that is there, as it is written
-- in decimal digits, before it is rounded.
use Rattle.std.specs.Prelude.{ℕ, ◌==◌, Bool, ◌||◌, if◌then◌else◌, List, [], is_some}
use Rattle.std.specs.Prelude.{Result, Ok, Err, pos}
use Rattle.std.specs.Float.{binary64}
use Rattle.std.specs.Float.Numeral.{Parts}
use Rattle.std.specs.Str.Parse.{digits_value}
use Rattle.lexical_digits.specs.declared.skip.component.Component.TheVariants.{Integer}
use Rattle.lexical_digits.specs.State.{rule_of}
use Rattle.digit_values.specs.After.{digits_between}
use Rattle.digit_values.specs.Bytes.{has_byte}
use Rattle.digit_floats.specs.declared.decimal.Decimal.{Decimal}
use Rattle.digit_floats.specs.Decimals.{decimal_of, signed_exponent}
use Rattle.digit_languages.specs.Literals.{prefix_word}
use Rattle.digit_numbers.specs.declared.form.Form.{Form}
use Rattle.digit_numbers.specs.declared.number.Number.TheVariants as numbers
use Rattle.digit_numbers.specs.declared.number.NumberError.{NumberError}
use Rattle.digit_numbers.specs.declared.number.NumberError.TheVariants as errors
use Rattle.digit_numbers.specs.Numbers.{Outcome, word, at, is_minus, language, special_here}
use Rattle.digit_numbers.specs.Numbers.{parts, is_float, whole_end, number_of_at}

-- the decimal number of parts in std's word
abbrev pub decimal_of_parts : Bool → Parts → Decimal
decimal_of_parts negative p =
    decimal_of negative p.whole p.fraction
    (signed_exponent p.exponent_negative (digits_value 10 p.exponent))

module _ (f : Form) (text : List ℕ) (start : ℕ) where
  -- a special value begins here, or a prefix, such as that of `0x1f`
  abbrev pub is_named : Bool
  is_named =
      is_some (special_here f text start)
      || is_some (prefix_word (language f text start) text (at f text start))

  -- where decimal digits end, by the number: also of an integer above 128 bits, if its first digit
  -- isn't 0
  abbrev pub decimal_end : Outcome → Result ℕ NumberError
  decimal_end (Ok (numbers.Integer negative magnitude said, end)) =
      if said == word f text then Ok end else Err (errors.Empty (at f text start))
  decimal_end (Ok (numbers.Float x, end)) = Ok end
  decimal_end (Err (errors.Overflow over)) =
      if has_byte text (at f text start) 48
      then Err (errors.Overflow over) else Ok (whole_end f text (at f text start))
  decimal_end (Err (errors.Empty i)) = Err (errors.Empty i)
  decimal_end (Err (errors.Invalid i)) = Err (errors.Invalid i)

  -- the number whose digits end there
  abbrev pub decimal_to : ℕ → Decimal
  decimal_to end =
      if is_float f text (at f text start)
      then decimal_of_parts (is_minus f text start) (parts f text (at f text start))
      else decimal_of (is_minus f text start)
      (digits_between (rule_of (word f text) Integer) text (at f text start) end) [] (pos 0)

  abbrev pub with_decimal : Result ℕ NumberError → Result (Decimal × ℕ) NumberError
  with_decimal (Ok end) = Ok (decimal_to end, end)
  with_decimal (Err error) = Err error

  -- the decimal number that begins here, and where it ends, or why there is none
  unfoldable pub decimal_of_at : Result (Decimal × ℕ) NumberError
  decimal_of_at =
      if is_named then Err (errors.Empty (at f text start))
      else with_decimal (decimal_end (number_of_at f text start binary64))
