-- The decimal number at a position of a text.
use Rattle.std.specs.Prelude.{ℕ, ◌-◌, Bool, if◌then◌else◌, List, ◌++◌, length, take, Result, ℤ, pos, neg_ℤ, ◌+ℤ◌, ◌-ℤ◌}
use Rattle.std.specs.Int.{saturate_signed, w64}
use Rattle.std.specs.Str.Parse.{digits_value}
use Rattle.lexical_digits.specs.declared.skip.component.Component.TheVariants.{Integer}
use Rattle.digit_values.specs.Significant.{significant}
use Rattle.digit_floats.specs.declared.decimal.Decimal.{Decimal}
use Rattle.digit_floats.specs.declared.error.FloatError.{FloatError}
use Rattle.digit_floats.specs.declared.parts.Marks.{Marks}
use Rattle.digit_floats.specs.Bytes.{stands, is_minus}
use Rattle.digit_floats.specs.Float.{past_sign, digits_end, digits_from, fraction_digits, mantissa_end, exponent_digits, exponent_negative, end_at, with_end}

-- a decimal number of digits before and after a point and of an exponent: its first 19 significant
-- digits, and a power of ten
abbrev pub decimal_of : Bool → List ℕ → List ℕ → ℤ → Decimal
decimal_of negative whole fraction exponent =
    let digits = significant (whole ++ fraction) in
    let more = length digits - 19 in
    record {
      negative = negative;
      value = digits_value 10 (take 19 digits);
      dropped = more;
      exponent = saturate_signed w64 (exponent +ℤ (pos more -ℤ pos (length fraction)));
    }

-- an exponent with a minus, or without one
abbrev pub signed_exponent : Bool → ℕ → ℤ
signed_exponent negative n = if negative then neg_ℤ (pos n) else pos n

module _ (word : ℕ) (text : List ℕ) (marks : Marks) where
  -- the exponent that is written after a mantissa, 0 without a mark
  abbrev pub exponent_at : ℕ → ℤ
  exponent_at at =
      signed_exponent (exponent_negative word text marks.exponent at)
      (digits_value 10 (exponent_digits word text marks.exponent at))

  -- the number at a position, with a sign
  abbrev pub decimal_at : ℕ → Decimal
  decimal_at at =
      let start = past_sign text at in
      decimal_of (stands is_minus text at) (digits_from word text Integer start)
      (fraction_digits word text marks.point (digits_end word text Integer start))
      (exponent_at (mantissa_end word text marks.point start))

  -- the number and where it ends, or why there is none
  abbrev pub read_decimal_at : ℕ → Result (Decimal × ℕ) FloatError
  read_decimal_at at = with_end (decimal_at at) (end_at word text marks at)
