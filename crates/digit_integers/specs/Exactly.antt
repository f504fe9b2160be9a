-- Digits of a radix: exactly n, or at most n.
use Rattle.std.specs.Prelude.{◌≡◌, ℕ, ℤ, ◌+◌, ◌*◌, ◌≤◌, Bool, false, nat_lt, nat_le, if◌then◌else◌, List, length, take, drop, take_while, scan, Result, Ok, Err}
use Rattle.std.specs.Char.{digit_value}
use Rattle.std.specs.Str.Parse.{digits_value}
use Rattle.lexical_format.specs.Digits.{is_digit_of_radix}
use Rattle.digit_values.specs.declared.LiteralError.{LiteralError}
use Rattle.digit_values.specs.declared.LiteralError.TheVariants.{Empty, Overflow}
use Rattle.digit_integers.specs.Numbers.{with_sign}

module _ (radix : ℕ) where
  -- the digits that some bytes begin with
  abbrev pub leading_digits : List ℕ → List ℕ
  leading_digits bytes = take_while (is_digit_of_radix radix) bytes

  -- the value with one digit more
  abbrev pub value_and : ℕ → ℕ → ℕ
  value_and value byte = value * radix + digit_value byte

  -- how many of some digits, from the first on, follow a value until it is above `most`
  abbrev pub fitting : ℕ → ℕ → List ℕ → ℕ
  fitting most value digits =
      length (take_while (λ more. nat_le more most) (scan value_and value_and value digits))

  -- The digits at a position, from `few` to `many` of them: their value, if it is at most `most`,
  -- and where they end. Otherwise the first with which it is above that, or the byte where one more
  -- has to be.
  module _ (text : List ℕ) (start few many most : ℕ) where
    unfoldable pub counted_at : Result (ℕ × ℕ) LiteralError
    counted_at =
        let digits = leading_digits (take many (drop start text)) in
        let fit = fitting most 0 digits in
        if nat_lt fit (length digits) then Err (Overflow (start + fit))
        else if nat_lt fit few then Err (Empty (start + fit))
        else Ok (digits_value radix digits, start + fit)

  module _ (text : List ℕ) (start n most : ℕ) where
    -- exactly n digits, and from one to n
    abbrev pub exactly_at : Result (ℤ × ℕ) LiteralError
    exactly_at = with_sign false (counted_at text start n n most)

    abbrev pub at_most_at : Result (ℤ × ℕ) LiteralError
    at_most_at = with_sign false (counted_at text start 1 n most)

  -- what a loop over some bytes counts: the digits that they begin with, as far as their value is
  -- at most `most`, and whether one more follows
  pub record IsCounted (bytes : List ℕ) (most value count : ℕ) (is_too_large : Bool) : Type 0 where
    pub counts : count ≡ fitting most 0 (leading_digits bytes)
    pub too_large : is_too_large ≡ nat_lt count (length (leading_digits bytes))
    pub is : is_too_large ≡ false → value ≡ digits_value radix (leading_digits bytes)
    pub fits : value ≤ most
    pub within : count ≤ length bytes
