-- A decimal number in units of its last place: times a power of ten, if that is an integer.
use Rattle.std.specs.Prelude.{ℕ, ℤ, ◌+◌, ◌-◌, ◌*◌, ◌/◌, ◌^◌, ◌==◌, ◌&&◌, nat_lt, nat_le, if◌then◌else◌, Bool, false, List, ◌++◌, length, filter, take, drop, slice_range, codes, decimal, Result, Ok, Err}
use Rattle.std.specs.Char.{is_ascii_digit}
use Rattle.std.specs.List.{list_all, prefix_len, range_with_len}
use Rattle.std.specs.Str.Parse.{digits_value, digits_value_after}
use Rattle.lexical_digits.specs.State.{rule_of}
use Rattle.lexical_digits.specs.declared.skip.component.Component.TheVariants.{Integer}
use Rattle.digit_values.specs.declared.LiteralError.{LiteralError}
use Rattle.digit_values.specs.declared.LiteralError.TheVariants as integers
use Rattle.digit_integers.specs.Integers.{integer_at}
use Rattle.digit_integers.specs.Numbers.{signed, is_negative_from}
use Rattle.digit_integers.specs.Numbers as signs
use Rattle.digit_amounts.specs.declared.scaled.ScaledError.{ScaledError}
use Rattle.digit_amounts.specs.declared.scaled.ScaledError.TheVariants.{Empty, TooLarge, TooFine, Invalid}
use Rattle.digit_floats.specs.Float.{digits_end, digits_from, fraction_digits, mantissa_end}

-- the digits after so many places are zeros
abbrev pub is_exact : List ℕ → ℕ → Bool
is_exact fraction places = list_all (λ d. d == 48) (drop places fraction)

module _ (whole : ℕ) (places : ℕ) where
  -- the value of an integer and of the first digits of a fraction after it
  unfoldable pub first_value : List ℕ → ℕ
  first_value fraction = digits_value_after 10 whole (take places fraction)

  -- with a zero for each place that has none
  abbrev pub scaled_value : List ℕ → ℕ
  scaled_value fraction = first_value fraction * 10 ^ (places - length fraction)

  -- with this fraction a number is neither above `most` nor too fine
  abbrev pub fits : ℕ → List ℕ → Bool
  fits most fraction = nat_le (scaled_value fraction) most && is_exact fraction places

  -- how many bytes of a fraction are before the first digit with which the number is
  abbrev pub fitting : ℕ → List ℕ → ℕ
  fitting most bytes =
      prefix_len (λ n. fits most (filter is_ascii_digit (take (n + 1) bytes)))
      (range_with_len 0 (length bytes))

module _ (word : ℕ) (text : List ℕ) (point places : ℕ) where
  -- the first digit after an integer with which the number at a position is above `most` or too
  -- fine
  abbrev pub fault_after : ℕ → ℕ → ℕ → ℕ
  fault_after most at whole =
      let start = digits_end word text Integer at in
      start + fitting whole places most (slice_range text start (mantissa_end word text point at))

  -- the same of the whole number: that of its integer with which it is above `most`, if there is
  -- one
  abbrev pub fault : ℕ → ℕ → Result (ℕ × ℕ) LiteralError → ℕ
  fault most at (Err (integers.Overflow over)) = over
  fault most at (Err (integers.Empty _)) = fault_after most at 0
  fault most at (Ok read) = fault_after most at read.0

  abbrev pub fault_at : ℕ → ℕ → ℕ
  fault_at most at = fault most at (integer_at (rule_of word Integer) text at (most / 10 ^ places))

  -- the number in units of the last place, or why there is none, by the digits
  abbrev pub scaled_to : ℕ → ℕ → List ℕ → List ℕ → Result (ℕ × ℕ) ScaledError
  scaled_to most at whole fraction =
      let value = scaled_value (digits_value 10 whole) places fraction in
      let end = mantissa_end word text point at in
      if length whole + length fraction == 0 then Err (Empty end)
      else if nat_lt most value then Err (TooLarge (fault_at most at))
      else if is_exact fraction places then Ok (value, end)
      else Err (TooFine (fault_at most at))

  -- the number at a position, which follows any sign, and where it ends
  unfoldable pub scaled_at : ℕ → ℕ → Result (ℕ × ℕ) ScaledError
  scaled_at most at =
      scaled_to most at (digits_from word text Integer at)
      (fraction_digits word text point (digits_end word text Integer at))

  -- with its sign
  abbrev pub with_sign : Bool → Result (ℕ × ℕ) ScaledError → Result (ℤ × ℕ) ScaledError
  with_sign negative (Ok (magnitude, end)) = Ok (signed negative magnitude, end)
  with_sign negative (Err error) = Err error

  -- the number of a type, whose numbers are from `- least` to `most`
  abbrev pub read_scaled_at : ℕ → ℕ → ℕ → Result (ℤ × ℕ) ScaledError
  read_scaled_at least most start =
      with_sign (is_negative_from least text start)
      (scaled_at (if is_negative_from least text start then least else most)
      (signs.digits_from least text start))

-- of a text that is to be one number
abbrev pub whole_of : List ℕ → Result (ℤ × ℕ) ScaledError → Result ℤ ScaledError
whole_of text (Ok read) = if read.1 == length text then Ok read.0 else Err (Invalid read.1)
whole_of text (Err error) = Err error

-- the position that an error holds
abbrev pub position : ScaledError → ℕ
position (Empty at) = at
position (TooLarge at) = at
position (TooFine at) = at
position (Invalid at) = at

-- whether it says that no number begins at a position
abbrev pub none_at : ℕ → ScaledError → Bool
none_at place (Empty at) = at == place
none_at place (TooLarge at) = false
none_at place (TooFine at) = false
none_at place (Invalid at) = false

-- what is printed of an error
abbrev pub message : ScaledError → List ℕ
message (Empty at) = codes "there is no digit before " ++ decimal at
message (TooLarge at) = codes "the number is too large with the digit at " ++ decimal at
message (TooFine at) = codes "the digit at " ++ decimal at ++ codes " is after the last place"
message (Invalid at) = codes "the byte at " ++ decimal at ++ codes " is no part of a number"
