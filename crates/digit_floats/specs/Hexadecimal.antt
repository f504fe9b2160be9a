-- Numbers of hexadecimal digits and a power of two, such as `1.8p3`: their digits in the text, and
-- the nearest float.
use Rattle.std.specs.Prelude.{◌≡◌, ℕ, ◌+◌, ◌*◌, ◌^◌, ◌<◌, ◌≤◌, Bool, if◌then◌else◌, List, ◌++◌, length, filter, slice_range, Result}
use Rattle.std.specs.Char.{is_ascii_hexdigit}
use Rattle.std.specs.Float.{Float, Format}
use Rattle.std.specs.Float.Ieee.{round}
use Rattle.std.specs.Str.Parse.{digits_value}
use Rattle.lexical_format.specs.Word.{mantissa_radix, exponent_radix}
use Rattle.lexical_digits.specs.declared.skip.component.Component.TheVariants.{Integer}
use Rattle.digit_floats.specs.declared.error.FloatError.{FloatError}
use Rattle.digit_floats.specs.declared.hexadecimal.HexMantissa.{HexMantissa}
use Rattle.digit_floats.specs.declared.hexadecimal.HexKept.{HexKept}
use Rattle.digit_floats.specs.declared.parts.Marks.{Marks}
use Rattle.digit_floats.specs.Binary.{IsWholePart}
use Rattle.digit_floats.specs.Float.{digits_end, digits_from, fraction_digits, mantissa_end, exponent_digits, exponent_negative, with_end, end_from}

-- the mantissa is written in hexadecimal, and the exponent in decimal
abbrev pub IsHexadecimal : ℕ → Type 0
IsHexadecimal word = (mantissa_radix word ≡ 16) × (exponent_radix word ≡ 10)

-- the digits of integer and fraction
abbrev pub hex_integer_of : List ℕ → HexMantissa → List ℕ
hex_integer_of text m = filter is_ascii_hexdigit (slice_range text m.start m.whole_end)

abbrev pub hex_fraction_of : List ℕ → HexMantissa → List ℕ
hex_fraction_of text m = filter is_ascii_hexdigit (slice_range text m.fraction_start m.end)

-- a mantissa is of this text
pub record IsHexMantissa (text : List ℕ) (m : HexMantissa) : Type 0 where
  pub digits : m.digits ≡ length (hex_integer_of text m) + length (hex_fraction_of text m)
  pub places : m.places ≡ length (hex_fraction_of text m)
  pub whole : m.start ≤ m.whole_end
  pub onward : m.whole_end ≤ m.fraction_start
  pub fraction : m.fraction_start ≤ m.end
  pub long : m.start + m.digits ≤ m.end
  pub within : m.end ≤ length text

-- the first digits of a number are kept, and the others counted
pub record IsHexKept (kept : HexKept) (number : ℕ) : Type 0 where
  pub is : IsWholePart number (16 ^ kept.cut) kept.value kept.more
  pub fits : kept.value < 2 ^ 64
  pub few : kept.cut < 2 ^ 64
  pub full : 0 < kept.cut → 2 ^ 60 ≤ kept.value

-- the float nearest to hexadecimal digits, of which the last `places` follow the point, times
-- 2 ^ n, or 2 ^ -n where `down` says so
abbrev pub nearest_hex : Format → Bool → List ℕ → ℕ → Bool → ℕ → Float
nearest_hex f negative digits places down n =
    round f negative (digits_value 16 digits * 2 ^ (if down then 0 else n))
    (2 ^ (4 * places + (if down then n else 0)))

-- the float nearest to the number at a position, where no sign or prefix is
abbrev pub hex_float_at : ℕ → List ℕ → Marks → Format → Bool → ℕ → Float
hex_float_at word text marks f negative at =
    let fraction = fraction_digits word text marks.point (digits_end word text Integer at) in
    let mark = mantissa_end word text marks.point at in
    nearest_hex f negative (digits_from word text Integer at ++ fraction) (length fraction)
    (exponent_negative word text marks.exponent mark)
    (digits_value 10 (exponent_digits word text marks.exponent mark))

-- the same and where the number ends, or why there is none
abbrev pub read_hex_at : ℕ → List ℕ → Marks → Format → Bool → ℕ → Result (Float × ℕ) FloatError
read_hex_at word text marks f negative at =
    with_end (hex_float_at word text marks f negative at) (end_from word text marks at)
