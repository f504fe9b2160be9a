-- Of functions that no caller sees: the digits of a number that were read. No public clause uses
-- these words.
use Rattle.std.specs.Prelude.{◌≡◌, ℕ, ◌+◌, ◌-◌, ◌^◌, min, ◌<◌, ◌≤◌, Bool, true, false, List, [], length, is_some}
use Rattle.std.specs.Prelude.{Some, Result, Ok, Err, MatchResult}
use Rattle.std.specs.Float.{Float, Format, NotNan}
use Rattle.std.specs.Float.Numeral.{Parts, nearest_float}
use Rattle.std.specs.Str.Parse.{digits_value}
use Rattle.lexical_digits.specs.declared.skip.component.Component.TheVariants.{Integer}
use Rattle.digit_floats.specs.Float.{IsDecimal, digits_from, digits_end, fraction_digits, mantissa_end}
use Rattle.digit_floats.specs.Float.{exponent_digits}
use Rattle.digit_floats.specs.Parts.{integer_of, IsMantissa, IsMantissaFrom, IsPowerFrom}
use Rattle.digit_floats.specs.Hexadecimal.{IsHexMantissa, hex_integer_of, hex_fraction_of}
use Rattle.digit_floats.specs.declared.hexadecimal.HexMantissa.{HexMantissa}
use Rattle.digit_floats.specs.declared.parts.Mantissa.{Mantissa}
use Rattle.digit_floats.specs.declared.parts.Power.{Power}
use Rattle.digit_languages.specs.declared.language.Language.{Language}
use Rattle.digit_languages.specs.Literals.{prefix_word, word_at, digits_at}
use Rattle.digit_numbers.specs.declared.form.Form.{Form}
use Rattle.digit_numbers.specs.declared.form.Special.{Special}
use Rattle.digit_numbers.specs.declared.number.Number.{Number}
use Rattle.digit_numbers.specs.declared.number.NumberError.{NumberError}
use Rattle.digit_numbers.specs.declared.sign.Sign.{Sign}
use Rattle.digit_numbers.specs.Forms.{hex_form}
use Rattle.digit_numbers.specs.Numbers.{has_sign, is_negative, past_sign, is_float, fraction, exponent, parts, digits_stop}
use Rattle.digit_numbers.specs.Numbers.{hex_value, hex_word_at, Outcome}
use Rattle.digit_numbers.specs.Specials.{name_end, special_at}
use Rattle.digit_numbers.specs.Values.{IsNoNan, with_value}

-- a mantissa is that of a form at its start
abbrev pub IsMantissaAt : Form → List ℕ → Mantissa → Type 0
IsMantissaAt f text m = IsMantissaFrom f.integers.decimal f.marks.point text m.start m

-- the same of hexadecimal digits, by a word
pub record IsHexAt (f : Form) (word : ℕ) (text : List ℕ) (m : HexMantissa) : Type 0 where
  pub is : IsHexMantissa text m
  pub integer : hex_integer_of text m ≡ digits_from word text Integer m.start
  pub fraction : hex_fraction_of text m ≡ fraction_digits word text f.marks.point
      (digits_end word text Integer m.start)
  pub whole_end : m.whole_end ≡ digits_end word text Integer m.start
  pub ends : m.end ≡ mantissa_end word text f.marks.point m.start

-- the digits of a mantissa before a point are those of a decimal word at its start
pub record IsWholeOf (word : ℕ) (text : List ℕ) (m : Mantissa) : Type 0 where
  pub is : IsMantissa text m
  pub decimal : IsDecimal word
  pub integer : integer_of text m ≡ digits_from word text Integer m.start
  pub ends : m.whole_end ≡ digits_end word text Integer m.start

-- digits by themselves, in std's word
abbrev pub whole_of : ℕ → List ℕ → ℕ → Parts
whole_of word text at = record {
  whole = digits_from word text Integer at;
  point = false;
  fraction = [];
  exponent_negative = false;
  exponent = [];
  len = digits_end word text Integer at - at;
}

-- a power is that of the float at a position, or 0 if it has no exponent; and a point counts there,
-- if one stands
pub record IsPowerAt (f : Form) (text : List ℕ) (at : ℕ) (p : Power) : Type 0 where
  pub is : is_float f text at ≡ true
  pub fraction : fraction f text at ≡ (parts f text at).fraction
  pub value : p.value ≡ min (digits_value 10 (exponent f text at)) (2 ^ 64 - 1)
  pub negative : 0 < digits_value 10 (exponent f text at)
      → p.negative ≡ (parts f text at).exponent_negative
  pub ends : p.end ≡ digits_stop f text at

-- a power is that of the exponent whose mark follows a mantissa, and has a digit
pub record IsExponentAt (f : Form) (text : List ℕ) (m : Mantissa) (p : Power) : Type 0 where
  pub is : IsPowerFrom f.integers.decimal f.marks.exponent text m.end p
  pub some : 0 < length (exponent_digits f.integers.decimal text f.marks.exponent m.end)

-- a float is that at a position, and ends there
pub record IsFloatAt (f : Form) (text : List ℕ) (at : ℕ) (negative : Bool) (format : Format)
    (x : Float) (end : ℕ) : Type 0 where
  pub is : is_float f text at ≡ true
  pub value : x ≡ nearest_float format negative (parts f text at)
  pub ends : end ≡ digits_stop f text at

-- a float of a type that was read, and the position after it, are those at a position
pub record IsFloatRead {F : Type 0} (format : Format) (value : F → Float) (f : Form)
    (text : List ℕ) (at : ℕ) (negative : Bool) (read : F × ℕ) : Type 0 where
  pub is : IsFloatAt f text at negative format (value read.0) read.1
  pub number : NotNan (value read.0)
  pub onward : at < read.1
  pub within : read.1 ≤ length text

-- the same of a hexadecimal float after its prefix, if one is at a position
pub record IsHexRead {F : Type 0} (format : Format) (meaning : F → Float) (f : Form) (l : Language)
    (text : List ℕ) (at : ℕ) (negative : Bool) (read : F × ℕ) : Type 0 where
  pub is : is_some (hex_word_at f l text at) ≡ true
  pub value : (word : ℕ) → hex_word_at f l text at ≡ Some word
      → meaning read.0 ≡ hex_value (hex_form f word) text (at + 2) format negative
  pub ends : (word : ℕ) → hex_word_at f l text at ≡ Some word
      → read.1 ≡ digits_stop (hex_form f word) text (at + 2)
  pub number : NotNan (meaning read.0)
  pub onward : at < read.1
  pub within : read.1 ≤ length text

-- a special value that was read, and the position after it, are those at a position
pub record IsSpecialRead (f : Form) (text : List ℕ) (at : ℕ) (is_signed is_minus : Bool)
    (read : Special × ℕ) : Type 0 where
  pub is : special_at f text at is_signed is_minus ≡ Some read.0
  pub ends : read.1 ≡ name_end f text at read.0
  pub onward : at < read.1
  pub within : read.1 ≤ length text

-- a number that was read, and the position after it, are an outcome
pub record IsRead {F : Type 0} (value : F → Float) (text : List ℕ) (start : ℕ)
    (outcome : Outcome) (read : Number F × ℕ) : Type 0 where
  pub is : outcome ≡ Ok (with_value value read.0, read.1)
  pub no_nan : IsNoNan value read.0
  pub onward : start < read.1
  pub within : read.1 ≤ length text

-- an answer is these, or why there is no number
abbrev pub Reads : {F : Type 0} → (F → Float) → List ℕ → ℕ → Outcome
    → Result (Number F × ℕ) NumberError → Type 0
Reads value text start outcome result =
    MatchResult result (IsRead value text start outcome) (λ error. outcome ≡ Err error)

-- a sign is that of a form at a start
pub record IsSign (f : Form) (text : List ℕ) (start : ℕ) (sign : Sign) : Type 0 where
  pub there : sign.is_there ≡ has_sign f text start
  pub minus : sign.is_minus ≡ is_negative f text start
  pub ends : sign.end ≡ past_sign f text start
  pub onward : start ≤ sign.end
  pub within : sign.end ≤ length text

-- an integer of a language here has no prefix, and is decimal
pub record IsPlain (l : Language) (text : List ℕ) (at : ℕ) : Type 0 where
  pub none : is_some (prefix_word l text at) ≡ false
  pub word : word_at l text at ≡ l.decimal
  pub digits : digits_at l text at ≡ at
