-- What a form says.
use Rattle.std.specs.Prelude.{ℕ, Bool, true, false, not, ◌==◌, ◌&&◌, ◌||◌, nat_le, None, is_some, ◌≡◌, IfSome}
use Rattle.std.specs.Char.{eq_ignore_ascii_case, is_ascii_alphabetic, is_ascii_alphanumeric}
use Rattle.lexical_format.specs.Word.{separator}
use Rattle.digit_floats.specs.Bytes.{is_mark, is_sign}
use Rattle.digit_floats.specs.Float.{IsDecimal}
use Rattle.digit_floats.specs.Hexadecimal.{IsHexadecimal}
use Rattle.digit_languages.specs.Words.{IsLanguage}
use Rattle.digit_languages.specs.declared.language.Language.{Language}
use Rattle.digit_numbers.specs.declared.form.Form.{Form}
use Rattle.digit_numbers.specs.declared.form.Exponents.{Exponents}
use Rattle.digit_numbers.specs.declared.form.Exponents.TheVariants as exponents
use Rattle.digit_numbers.specs.declared.form.HexFloats.{HexFloats}
use Rattle.digit_numbers.specs.declared.form.HexFloats.TheVariants as hex
use Rattle.digit_numbers.specs.declared.form.NameSign.{NameSign}
use Rattle.digit_numbers.specs.declared.form.NameSign.TheVariants as names
use Rattle.digit_numbers.specs.declared.form.Signs.{Signs}
use Rattle.digit_numbers.specs.declared.form.Signs.TheVariants.{Absent, Minus, Either}
use Rattle.digit_numbers.specs.declared.form.Whole.{Whole}
use Rattle.digit_numbers.specs.declared.form.Whole.TheVariants.{Integer, LargeIsFloat, Float}
use Rattle.digit_numbers.specs.declared.form.AfterPoint.{AfterPoint}
use Rattle.digit_numbers.specs.declared.form.AfterPoint.TheVariants.{Anything, NoPoint}
use Rattle.digit_numbers.specs.declared.form.AfterPoint.TheVariants.{NoPointOrName, NoOperator}

-- whether there are hexadecimal floats; with a point and no exponent; and without both
abbrev pub has_hex : HexFloats → Bool
has_hex hex.Absent = false
has_hex hex.Exponent = true
has_hex hex.PointOrExponent = true
has_hex hex.Always = true

abbrev pub is_pointed_hex : HexFloats → Bool
is_pointed_hex hex.Absent = false
is_pointed_hex hex.Exponent = false
is_pointed_hex hex.PointOrExponent = true
is_pointed_hex hex.Always = true

abbrev pub is_always_hex : HexFloats → Bool
is_always_hex hex.Absent = false
is_always_hex hex.Exponent = false
is_always_hex hex.PointOrExponent = false
is_always_hex hex.Always = true

-- whether a byte is the letter of a prefix that a language has, in either case
abbrev pub is_prefix_letter : Language → ℕ → Bool
is_prefix_letter l byte =
    (is_some l.binary && eq_ignore_ascii_case byte 98)
    || (is_some l.octal && eq_ignore_ascii_case byte 111)
    || (is_some l.hexadecimal && eq_ignore_ascii_case byte 120)

-- whether a byte may mark an exponent: a letter that is no separator, and says no prefix
abbrev pub may_mark : Language → ℕ → Bool
may_mark l byte =
    is_ascii_alphabetic byte && not (is_mark byte (separator l.decimal))
    && not (is_prefix_letter l byte)

-- whether a byte may be the point: no letter, digit, sign or separator
abbrev pub may_be_point : Language → ℕ → Bool
may_be_point l byte =
    not (is_ascii_alphanumeric byte) && not (is_sign byte) && not (byte == separator l.decimal)

-- Its words are supported. Its floats are decimal, or hexadecimal with a decimal exponent.
-- No byte of a number has two meanings.
pub record IsForm (f : Form) : Type 0 where
  pub language : IsLanguage f.integers
  pub decimal : IsDecimal f.integers.decimal
  pub hexadecimal : has_hex f.hex_floats ≡ true → IfSome f.integers.hexadecimal IsHexadecimal
  pub point : may_be_point f.integers f.marks.point ≡ true
  pub mark : may_mark f.integers f.marks.exponent ≡ true
  pub other_mark : IfSome f.other_mark (λ mark. may_mark f.integers mark ≡ true)

-- whether a byte is a sign that a number may have
abbrev pub is_minus_of : Signs → ℕ → Bool
is_minus_of Absent byte = false
is_minus_of Minus byte = byte == 45
is_minus_of Either byte = byte == 45

abbrev pub is_plus_of : Signs → ℕ → Bool
is_plus_of Absent byte = false
is_plus_of Minus byte = false
is_plus_of Either byte = byte == 43

-- whether a byte may begin a name: `_`, a letter, or above ASCII
abbrev pub begins_name : ℕ → Bool
begins_name byte = byte == 95 || is_ascii_alphabetic byte || nat_le 128 byte

-- whether a name may be after a sign, or after none
unfoldable pub takes_sign : NameSign → Bool → Bool → Bool
takes_sign names.Absent signed minus = not signed
takes_sign names.Minus signed minus = not signed || minus
takes_sign names.Either signed minus = true
takes_sign names.Required signed minus = signed

-- whether a byte after a point says that it is none
abbrev pub is_barred : AfterPoint → ℕ → Bool
is_barred Anything byte = false
is_barred NoPoint byte = byte == 46
is_barred NoPointOrName byte = byte == 46 || begins_name byte
is_barred NoOperator byte = byte == 42 || byte == 47 || byte == 92 || byte == 94 || byte == 39

-- whether digits by themselves are a float: always, and if they are many
abbrev pub is_always_float : Whole → Bool
is_always_float Integer = false
is_always_float LargeIsFloat = false
is_always_float Float = true

abbrev pub may_be_float : Whole → Bool
may_be_float Integer = false
may_be_float LargeIsFloat = true
may_be_float Float = true

-- whether an exponent may follow, by whether the digits have a fraction
abbrev pub allows_exponent : Exponents → Bool → Bool
allows_exponent exponents.Absent has_fraction = false
allows_exponent exponents.AfterFraction has_fraction = has_fraction
allows_exponent exponents.Anywhere has_fraction = true

-- a language without its prefixes, and with that of hexadecimal digits only
abbrev pub unprefixed : Language → Language
unprefixed l = record l { binary = None; octal = None; hexadecimal = None }

abbrev pub with_hex_only : Language → Language
with_hex_only l = record l { binary = None; octal = None }

-- a form in the digits of a word, with exponents after a `p`
abbrev pub hex_form : Form → ℕ → Form
hex_form f word = record f {
  integers = record f.integers { decimal = word };
  marks = record f.marks { exponent = 112 };
  other_mark = None;
  exponents = exponents.Anywhere;
}
