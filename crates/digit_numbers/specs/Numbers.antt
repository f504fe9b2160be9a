-- The number at a position of a text by a form, in layers. After any sign it is a special value, if
-- one is there, or a hexadecimal float, or a decimal float: digits with a point or an exponent.
-- Otherwise it is an integer, or digits that are a float by themselves.
use Rattle.std.specs.Prelude.{ℕ, ◌+◌, ◌-◌, ◌^◌, ◌==◌, Bool, not, ◌&&◌, ◌||◌, nat_lt}
use Rattle.std.specs.Prelude.{if◌then◌else◌, List, [], ◌++◌, length}
use Rattle.std.specs.Prelude.{Option, None, Some, Result, Ok, Err}
use Rattle.std.specs.Float.{Float, Format}
use Rattle.std.specs.Float.Ieee.{round}
use Rattle.std.specs.Float.Numeral.{Parts, has_digits, nearest_float}
use Rattle.std.specs.Str.Parse.{digits_value}
use Rattle.lexical_format.specs.Word.{separator}
use Rattle.lexical_digits.specs.declared.skip.component.Component.TheVariants.{Integer}
use Rattle.lexical_digits.specs.Separators.{is_separator}
use Rattle.lexical_digits.specs.State.{rule_of}
use Rattle.digit_values.specs.Bytes.{has_byte}
use Rattle.digit_floats.specs.Bytes.{stands, is_mark, is_point}
use Rattle.digit_floats.specs.Float.{digits_end, digits_from, fraction_digits, fraction_end}
use Rattle.digit_floats.specs.Float.{exponent_digits, exponent_end, exponent_negative}
use Rattle.digit_floats.specs.Hexadecimal.{nearest_hex}
use Rattle.digit_languages.specs.declared.language.Language.{Language}
use Rattle.digit_languages.specs.declared.literal.Literal.{Literal}
use Rattle.digit_languages.specs.declared.literal.LanguageError.{LanguageError}
use Rattle.digit_languages.specs.declared.literal.LanguageError.TheVariants as literals
use Rattle.digit_languages.specs.Literals.{literal_at, prefix_word}
use Rattle.digit_numbers.specs.declared.form.Form.{Form}
use Rattle.digit_numbers.specs.declared.form.Special.{Special}
use Rattle.digit_numbers.specs.declared.number.Number.{Number}
use Rattle.digit_numbers.specs.declared.number.Number.TheVariants as numbers
use Rattle.digit_numbers.specs.declared.number.NumberError.{NumberError}
use Rattle.digit_numbers.specs.declared.number.NumberError.TheVariants as errors
use Rattle.digit_numbers.specs.Forms.{is_minus_of, is_plus_of, is_barred, is_always_float}
use Rattle.digit_numbers.specs.Forms.{may_be_float, has_hex, is_pointed_hex, is_always_hex}
use Rattle.digit_numbers.specs.Forms.{allows_exponent, unprefixed, with_hex_only, hex_form}
use Rattle.digit_numbers.specs.Specials.{special_at, special_float, name_end}

-- a number, where a float is the one that it is in std's word, and where it ends; or why there is
-- none
abbrev pub Outcome : Type 0
Outcome = Result (Number Float × ℕ) NumberError

module _ (f : Form) (text : List ℕ) where
  abbrev pub word : ℕ
  word = f.integers.decimal

  -- ---- the sign at a start, and the position after it

  abbrev pub is_negative : ℕ → Bool
  is_negative start = stands (is_minus_of f.signs) text start

  abbrev pub has_sign : ℕ → Bool
  has_sign start = is_negative start || stands (is_plus_of f.signs) text start

  unfoldable pub past_sign : ℕ → ℕ
  past_sign start = if has_sign start then start + 1 else start

  -- ---- the mark of an exponent at a position: the form's other one, if it has one that is there

  abbrev pub mark_or : Option ℕ → ℕ → ℕ
  mark_or None at = f.marks.exponent
  mark_or (Some other) at =
      if stands (is_mark other) text at then other else f.marks.exponent

  -- ---- digits at a position, after any sign

  module _ (at : ℕ) where
    -- the digits before a point, and where they end
    abbrev pub whole_digits : List ℕ
    whole_digits = digits_from word text Integer at

    abbrev pub whole_end : ℕ
    whole_end = digits_end word text Integer at

    -- a point counts where a digit is before and after it, as far as the form asks for them; if no
    -- digit is after it, then what follows may say that it is none
    abbrev pub fraction : List ℕ
    fraction = fraction_digits word text f.marks.point whole_end

    abbrev pub allows_point : Bool
    allows_point =
        (nat_lt 0 (length whole_digits) || not f.needs_integer)
        && (nat_lt 0 (length fraction)
        || not (f.needs_fraction || stands (is_barred f.after_point) text (whole_end + 1)))

    abbrev pub has_point : Bool
    has_point = stands (is_point f.marks.point) text whole_end && allows_point

    -- an exponent counts if a digit follows its mark, or a sign after it, and the form has any here
    abbrev pub mark_at : ℕ
    mark_at = if has_point then fraction_end word text f.marks.point whole_end else whole_end

    abbrev pub mark : ℕ
    mark = mark_or f.other_mark mark_at

    abbrev pub exponent : List ℕ
    exponent =
        if allows_exponent f.exponents (nat_lt 0 (length fraction))
        then exponent_digits word text mark mark_at else []

    abbrev pub has_exponent : Bool
    has_exponent = nat_lt 0 (length exponent)

    -- where all this ends, and what it is in std's word
    abbrev pub digits_stop : ℕ
    digits_stop = if has_exponent then exponent_end word text mark mark_at else mark_at

    abbrev pub parts : Parts
    parts = record {
      whole = whole_digits;
      point = has_point;
      fraction = if has_point then fraction else [];
      exponent_negative = exponent_negative word text mark mark_at;
      exponent = exponent;
      len = digits_stop - at;
    }

    -- more digits follow a first `0`, and the form refuses that of a float
    abbrev pub has_more_zeros : Bool
    has_more_zeros = not f.float_zeros && has_byte text at 48 && nat_lt (at + 1) whole_end

    -- digits with a point or an exponent
    unfoldable pub is_float : Bool
    is_float = has_digits parts && not has_more_zeros && (has_point || has_exponent)

    -- ---- the same after the prefix of a hexadecimal float, by its `hex_form`

    -- digits with a point and an exponent, as far as the form asks for them: `1.8p3`
    unfoldable pub is_hex_float : Bool
    is_hex_float =
        has_digits parts && (has_exponent
        || (if stands (is_point f.marks.point) text whole_end
        then allows_point && is_pointed_hex f.hex_floats else is_always_hex f.hex_floats))

    -- separators without a digit are before its point, and the word drops none after digits
    abbrev pub is_bare : Bool
    is_bare =
        length whole_digits == 0 && nat_lt at whole_end && not (rule_of word Integer).trailing

    -- such a float that begins with a digit or the point
    unfoldable pub is_hex_here : Bool
    is_hex_here = not is_bare && is_hex_float

    -- the nearest float
    abbrev pub hex_value : Format → Bool → Float
    hex_value format negative =
        nearest_hex format negative (parts.whole ++ parts.fraction) (length parts.fraction)
        parts.exponent_negative (digits_value 10 parts.exponent)

-- the word of the hexadecimal float at a position, with its prefix, if one is there
abbrev pub if_hex : Form → List ℕ → ℕ → Option ℕ → Option ℕ
if_hex f text at None = None
if_hex f text at (Some said) = if is_hex_here (hex_form f said) text at then Some said else None

unfoldable pub hex_word_at : Form → Language → List ℕ → ℕ → Option ℕ
hex_word_at f l text at =
    if has_hex f.hex_floats
    then if_hex f text (at + 2) (prefix_word (with_hex_only l) text at)
    else None

-- ---- the number at a start

module _ (f : Form) (text : List ℕ) (start : ℕ) where
  abbrev pub at : ℕ
  at = past_sign f text start

  abbrev pub is_minus : Bool
  is_minus = is_negative f text start

  -- its integers: without prefixes after a sign, if the form has none there
  abbrev pub language : Language
  language =
      if has_sign f text start && not f.signed_prefix
      then unprefixed f.integers else f.integers

  abbrev pub special_here : Option Special
  special_here = special_at f text at (has_sign f text start) is_minus

  abbrev pub hex_word_here : Option ℕ
  hex_word_here = hex_word_at f language text at

  module _ (format : Format) where
    -- the float nearest to the digits here
    abbrev pub float_here : Outcome
    float_here = Ok (
      numbers.Float (nearest_float format is_minus (parts f text at)),
      digits_stop f text at,
    )

    -- digits that are a float by themselves: the first `0` alone, if more are refused after it
    abbrev pub whole_here : Outcome
    whole_here =
        if has_more_zeros f text at
        then Ok (numbers.Float (round format is_minus 0 1), at + 1) else
        if has_digits (parts f text at) then float_here else Err (errors.Empty at)

    -- A `0` that begins no literal is an integer by itself: no digit follows the prefix that it
    -- begins, or the language refuses it as the first of more digits.
    abbrev pub zero_here : Outcome
    zero_here =
        if has_byte text at 48
        then Ok (numbers.Integer is_minus 0 (word f text), at + 1) else Err (errors.Empty at)

    -- an integer; above 128 bits a float, if the form says so and its first digit isn't 0
    abbrev pub integer_here : Result Literal LanguageError → Outcome
    integer_here (Ok read) = Ok (numbers.Integer is_minus read.value read.word, read.end)
    integer_here (Err (literals.Overflow over)) =
        if may_be_float f.whole && not (has_byte text at 48)
        then float_here else Err (errors.Overflow over)
    integer_here (Err (literals.Empty _)) = zero_here
    integer_here (Err (literals.Zero _)) = zero_here

    -- a number in decimal digits, or an integer
    unfoldable pub plain_at : Outcome
    plain_at =
        if is_float f text at then float_here else
        if is_always_float f.whole then whole_here else
        integer_here (literal_at language text at (2 ^ 128 - 1))

    -- it never begins with a separator
    abbrev pub or_hex : Option ℕ → Outcome
    or_hex (Some said) = Ok (
      numbers.Float (hex_value (hex_form f said) text (at + 2) format is_minus),
      digits_stop (hex_form f said) text (at + 2),
    )
    or_hex None =
        if stands (is_separator (separator (word f text))) text at
        then Err (errors.Empty at) else plain_at

    abbrev pub or_special : Option Special → Outcome
    or_special (Some s) = Ok (numbers.Float (special_float s.value is_minus), name_end f text at s)
    or_special None = or_hex hex_word_here

    -- the number that begins here, and where it ends, or why there is none
    unfoldable pub number_of_at : Outcome
    number_of_at = or_special special_here

-- the same of a text that is to be one number
abbrev pub to_end : List ℕ → Outcome → Result (Number Float) NumberError
to_end text (Ok (number, end)) = if end == length text then Ok number else Err (errors.Invalid end)
to_end text (Err error) = Err error
