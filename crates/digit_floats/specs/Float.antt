-- The float at a position of a text: its digits, its parts in std's word, and why there is none.
use Rattle.std.specs.Prelude.{◌≡◌, ⊤, ℕ, ◌+◌, ◌-◌, ◌==◌, Bool, if◌then◌else◌, ◌&&◌, List, [], length, Result, Ok, Err}
use Rattle.std.specs.Float.{Float, Format}
use Rattle.std.specs.Float.Numeral.{Parts, nearest_float}
use Rattle.lexical_format.specs.Word.{mantissa_radix, exponent_radix}
use Rattle.lexical_digits.specs.declared.skip.component.Component.{Component}
use Rattle.lexical_digits.specs.declared.skip.component.Component.TheVariants.{Integer, Fraction, Exponent}
use Rattle.lexical_digits.specs.State.{rule_of}
use Rattle.lexical_digits.specs.Stop.{stop}
use Rattle.digit_values.specs.After.{digits_between}
use Rattle.digit_floats.specs.declared.parts.Marks.{Marks}
use Rattle.digit_floats.specs.declared.error.FloatError.{FloatError}
use Rattle.digit_floats.specs.declared.error.FloatError.TheVariants.{Empty, EmptyExponent, Invalid}
use Rattle.digit_floats.specs.Bytes.{stands, is_sign, is_minus, is_point, is_mark}

-- mantissa and exponent are written in decimal
abbrev pub IsDecimal : ℕ → Type 0
IsDecimal word = (mantissa_radix word ≡ 10) × (exponent_radix word ≡ 10)

-- the position after a sign, if one is there
abbrev pub past_sign : List ℕ → ℕ → ℕ
past_sign text at = if stands is_sign text at then at + 1 else at

-- a number and where it ends, or why there is none
abbrev pub with_end : {A : Type 0} → A → Result ℕ FloatError → Result (A × ℕ) FloatError
with_end x (Ok end) = Ok (x, end)
with_end x (Err error) = Err error

module _ (word : ℕ) (text : List ℕ) where
  -- where the digits of a component end that begin at a position, and these digits
  unfoldable pub digits_end : Component → ℕ → ℕ
  digits_end k at = stop (rule_of word k) text at 0

  unfoldable pub digits_from : Component → ℕ → List ℕ
  digits_from k at = digits_between (rule_of word k) text at (digits_end k at)

  -- ---- after a point

  module _ (point : ℕ) where
    -- the fraction at a position: after a point, if one is there
    unfoldable pub fraction_digits : ℕ → List ℕ
    fraction_digits at =
        if stands (is_point point) text at then digits_from Fraction (at + 1) else []

    unfoldable pub fraction_end : ℕ → ℕ
    fraction_end at =
        if stands (is_point point) text at then digits_end Fraction (at + 1) else at

    -- where integer and fraction end that begin at a position
    abbrev pub mantissa_end : ℕ → ℕ
    mantissa_end at = fraction_end (digits_end Integer at)

    -- how many digits they have
    abbrev pub mantissa_count : ℕ → ℕ
    mantissa_count at =
        length (digits_from Integer at) + length (fraction_digits (digits_end Integer at))

  -- ---- after the mark of an exponent

  module _ (mark : ℕ) where
    -- the exponent at a position: after a mark and a sign, if a mark is there
    unfoldable pub exponent_digits : ℕ → List ℕ
    exponent_digits at =
        if stands (is_mark mark) text at
        then digits_from Exponent (past_sign text (at + 1)) else []

    unfoldable pub exponent_end : ℕ → ℕ
    exponent_end at =
        if stands (is_mark mark) text at
        then digits_end Exponent (past_sign text (at + 1)) else at

    unfoldable pub exponent_negative : ℕ → Bool
    exponent_negative at = stands (is_mark mark) text at && stands is_minus text (at + 1)

  -- ---- the number at a position, which follows any sign

  module _ (marks : Marks) where
    -- its parts in std's word: what `scan_numeral` finds in a text without separators
    abbrev pub parts_at : ℕ → Parts
    parts_at at =
        let mark = mantissa_end marks.point at in
        record {
          whole = digits_from Integer at;
          point = stands (is_point marks.point) text (digits_end Integer at);
          fraction = fraction_digits marks.point (digits_end Integer at);
          exponent_negative = exponent_negative marks.exponent mark;
          exponent = exponent_digits marks.exponent mark;
          len = exponent_end marks.exponent mark - at;
        }

    -- the position after it
    abbrev pub number_end : ℕ → ℕ
    number_end at = exponent_end marks.exponent (mantissa_end marks.point at)

    -- the same, or why there is no number
    abbrev pub end_from : ℕ → Result ℕ FloatError
    end_from at =
        let mark = mantissa_end marks.point at in
        if mantissa_count marks.point at == 0 then Err (Empty mark) else
        if stands (is_mark marks.exponent) text mark
        && (length (exponent_digits marks.exponent mark) == 0)
        then Err (EmptyExponent (number_end at)) else
        Ok (number_end at)

    -- ---- the float at a position, with a sign

    -- the float nearest to the number that the parts write
    abbrev pub float_at : Format → ℕ → Float
    float_at f at = nearest_float f (stands is_minus text at) (parts_at (past_sign text at))

    abbrev pub float_end : ℕ → ℕ
    float_end at = number_end (past_sign text at)

    -- where the number ends that begins at a position, with a sign, or why there is none
    abbrev pub end_at : ℕ → Result ℕ FloatError
    end_at at = end_from (past_sign text at)

    -- the float there and where it ends, or why there is none
    abbrev pub read_at : Format → ℕ → Result (Float × ℕ) FloatError
    read_at f at = with_end (float_at f at) (end_at at)

  -- the same of a text that is to be one float
  abbrev pub whole_of : Result (Float × ℕ) FloatError → Result Float FloatError
  whole_of (Ok r) = if r.1 == length text then Ok r.0 else Err (Invalid r.1)
  whole_of (Err error) = Err error

  abbrev pub parse_at : Marks → Format → ℕ → Result Float FloatError
  parse_at marks f at = whole_of (read_at marks f at)

-- `.` and `e`
abbrev pub plain_marks : Marks
plain_marks = record { point = 46; exponent = 101 }

-- the words of the mantissa, and of the exponent, to be named in an attribute
unfoldable pub mantissas : ⊤
unfolding fraction_end fraction_digits
mantissas = tt

unfoldable pub exponents : ⊤
unfolding exponent_end exponent_digits exponent_negative
exponents = tt

unfoldable pub components : ⊤
unfolding digits_from digits_end
components = tt
