-- The float nearest to a decimal number, and that a text is read as it.
use Rattle.std.specs.Prelude.{◌≡◌, ℕ, ℤ, ◌^◌, Bool, false, List, Ok}
use Rattle.std.specs.Float.{Float, Format}
use Rattle.std.specs.Float.Ieee.{round}
use Rattle.lexical_format.specs.Word.{separator}
use Rattle.lexical_format.specs.declared.TheConstants.{STANDARD}
use Rattle.lexical_digits.specs.Separators.{is_separator}
use Rattle.digit_floats.specs.Float.{IsDecimal, plain_marks, parse_at}
use Rattle.decimal_writers.specs.Text.{places_of, units_of}

-- digits times ten to a power, rounded once
abbrev pub nearest_of : Format → Bool → ℕ → ℤ → Float
nearest_of f negative digits power =
    round f negative (units_of digits power) (10 ^ places_of power)

-- `parse_float` of all of a text answers this float, in each format
pub record Reads (negative : Bool) (digits : ℕ) (power : ℤ) (text : List ℕ) : Type 0 where
  pub is : (f : Format) → parse_at STANDARD text plain_marks f 0
      ≡ Ok (nearest_of f negative digits power)

-- a word reads what is written of floats: it is decimal, and its separator is no `-`, `.` or `e`
pub record IsOfFloats (word : ℕ) : Type 0 where
  pub decimal : IsDecimal word
  pub minus : is_separator (separator word) 45 ≡ false
  pub point : is_separator (separator word) 46 ≡ false
  pub mark : is_separator (separator word) 101 ≡ false
