-- The parts of a float that were read: their digits in the text.
use Rattle.std.specs.Prelude.{◌≡◌, ℕ, ◌+◌, ◌-◌, ◌^◌, min, ◌<◌, ◌≤◌, List, ◌++◌, length, filter, slice_range}
use Rattle.std.specs.Char.{is_ascii_digit}
use Rattle.std.specs.Str.Parse.{digits_value}
use Rattle.lexical_digits.specs.declared.skip.component.Component.{Component}
use Rattle.lexical_digits.specs.declared.skip.component.Component.TheVariants.{Integer}
use Rattle.digit_values.specs.First.{ReadsFirst}
use Rattle.digit_values.specs.Significant.{IsOfFirstDigits}
use Rattle.digit_values.specs.declared.first.FirstDigits.{FirstDigits}
use Rattle.digit_floats.specs.declared.parts.Mantissa.{Mantissa}
use Rattle.digit_floats.specs.declared.parts.Marks.{Marks}
use Rattle.digit_floats.specs.declared.parts.Parts.{Parts}
use Rattle.digit_floats.specs.declared.parts.Power.{Power}
use Rattle.digit_floats.specs.Bytes.{stands, is_minus}
use Rattle.digit_floats.specs.Float.{past_sign, digits_end, digits_from, fraction_digits, mantissa_end, exponent_digits, exponent_end, exponent_negative}

-- the first decimal digits of a component that begins at a position were read, after digits that
-- are worth `before`, and where it ends
pub record IsPart (word : ℕ) (text : List ℕ) (k : Component) (at before : ℕ)
    (read : FirstDigits × ℕ) : Type 0 where
  pub first : ReadsFirst 10 (10 ^ 19 - 1) before (digits_from word text k at) read.0
  pub bytes : filter is_ascii_digit (slice_range text at read.1) ≡ digits_from word text k at
  pub end : read.1 ≡ digits_end word text k at
  pub onward : at + read.0.count ≤ read.1
  pub within : read.1 ≤ length text

-- all its digits were read, after so many others: at most 19 in all
pub record IsFew (counted : ℕ) (read : FirstDigits × ℕ) : Type 0 where
  pub all : read.0.dropped ≡ 0
  pub few : counted + read.0.count ≤ 19
  pub below : read.0.value < 10 ^ (counted + read.0.count)

-- the digits of integer and fraction
abbrev pub integer_of : List ℕ → Mantissa → List ℕ
integer_of text m = filter is_ascii_digit (slice_range text m.start m.whole_end)

abbrev pub fraction_of : List ℕ → Mantissa → List ℕ
fraction_of text m = filter is_ascii_digit (slice_range text m.fraction_start m.end)

-- a mantissa is of this text
pub record IsMantissa (text : List ℕ) (m : Mantissa) : Type 0 where
  pub first : IsOfFirstDigits 10 19 (integer_of text m ++ fraction_of text m) m.value m.dropped
  pub digits : m.digits ≡ length (integer_of text m) + length (fraction_of text m)
  pub places : m.places ≡ length (fraction_of text m)
  pub few_places : m.places < 2 ^ 63
  pub few_dropped : m.dropped < 2 ^ 63
  pub whole : m.start ≤ m.whole_end
  pub onward : m.whole_end ≤ m.fraction_start
  pub fraction : m.fraction_start ≤ m.end
  pub long : m.start + m.digits ≤ m.end
  pub within : m.end ≤ length text

-- it is the one that begins at a position, by the byte of the point
pub record IsMantissaFrom (word point : ℕ) (text : List ℕ) (at : ℕ) (m : Mantissa) : Type 0 where
  pub is : IsMantissa text m
  pub integer : integer_of text m ≡ digits_from word text Integer at
  pub fraction : fraction_of text m
      ≡ fraction_digits word text point (digits_end word text Integer at)
  pub start : m.start ≡ at
  pub whole_end : m.whole_end ≡ digits_end word text Integer at
  pub end : m.end ≡ mantissa_end word text point at

-- it is the integer alone that begins at a position, and whose digits were read
pub record IsWhole (word : ℕ) (text : List ℕ) (at : ℕ) (read : FirstDigits × ℕ) (m : Mantissa)
    : Type 0 where
  pub is : IsMantissa text m
  pub integer : integer_of text m ≡ digits_from word text Integer at
  pub start : m.start ≡ at
  pub whole_end : m.whole_end ≡ read.1
  pub fraction_start : m.fraction_start ≡ read.1
  pub end : m.end ≡ read.1
  pub value : m.value ≡ read.0.value
  pub digits : m.digits ≡ read.0.count
  pub places : m.places ≡ 0
  pub dropped : m.dropped ≡ read.0.dropped

-- it is an integer alone, and then a fraction whose digits were read after a byte
pub record HasFraction (text : List ℕ) (whole : Mantissa) (read : FirstDigits × ℕ) (m : Mantissa)
    : Type 0 where
  pub is : IsMantissa text m
  pub integer : integer_of text m ≡ integer_of text whole
  pub fraction : fraction_of text m
      ≡ filter is_ascii_digit (slice_range text (whole.whole_end + 1) read.1)
  pub start : m.start ≡ whole.start
  pub whole_end : m.whole_end ≡ whole.whole_end
  pub fraction_start : m.fraction_start ≡ whole.whole_end + 1
  pub end : m.end ≡ read.1
  pub digits : m.digits ≡ whole.digits + m.places
  pub dropped : m.dropped ≡ whole.dropped + read.0.dropped

-- it is the integer alone of that at its start, and few digits
pub record IsShort (word : ℕ) (text : List ℕ) (m : Mantissa) : Type 0 where
  pub is : IsMantissa text m
  pub integer : integer_of text m ≡ digits_from word text Integer m.start
  pub ends : m.whole_end ≡ digits_end word text Integer m.start
  pub end : m.end ≡ m.whole_end
  pub places : m.places ≡ 0
  pub dropped : m.dropped ≡ 0
  pub few : m.digits ≤ 19
  pub below : m.value < 10 ^ m.digits

-- the digits of an exponent, of which the mark is at a position
abbrev pub exponent_of : List ℕ → ℕ → Power → List ℕ
exponent_of text at p = filter is_ascii_digit (slice_range text (past_sign text (at + 1)) p.end)

-- an exponent is of this text
pub record IsPower (text : List ℕ) (at : ℕ) (p : Power) : Type 0 where
  pub value : p.value ≡ min (digits_value 10 (exponent_of text at p)) (2 ^ 64 - 1)
  pub some : 0 < p.value → past_sign text (at + 1) < p.end
  pub within : p.end ≤ length text

-- it is the one whose mark is at a position, 0 without a mark
pub record IsPowerFrom (word mark : ℕ) (text : List ℕ) (at : ℕ) (p : Power) : Type 0 where
  pub value : p.value ≡ min (digits_value 10 (exponent_digits word text mark at)) (2 ^ 64 - 1)
  pub negative : p.negative ≡ exponent_negative word text mark at
  pub end : p.end ≡ exponent_end word text mark at
  pub onward : at ≤ p.end
  pub within : p.end ≤ length text

-- parts are those of the number at a position, with a sign
pub record IsParts (word : ℕ) (text : List ℕ) (marks : Marks) (at : ℕ) (p : Parts) : Type 0 where
  pub negative : p.negative ≡ stands is_minus text at
  pub mantissa : IsMantissaFrom word marks.point text (past_sign text at) p.mantissa
  pub power : IsPowerFrom word marks.exponent text p.mantissa.end p.power
