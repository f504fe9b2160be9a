-- Decimal numbers with an exact number of places, and with groups of three digits.
use Rattle.std.specs.Prelude.{ℕ, ℤ, ◌+◌, ◌==◌, Bool, true, false, if◌then◌else◌, List, ◌++◌, length, codes, decimal, Option, Some, None, Result, Ok, Err}
use Rattle.lexical_digits.specs.declared.skip.component.Component.TheVariants.{Integer}
use Rattle.digit_integers.specs.Numbers.{digits_from}
use Rattle.digit_amounts.specs.declared.scaled.ScaledError.{ScaledError}
use Rattle.digit_floats.specs.Float.{digits_end, fraction_digits}
use Rattle.digit_amounts.specs.Scaled as scaled
use Rattle.digit_amounts.specs.Moves.{scaled_later}
use Rattle.digit_amounts.specs.Groups.{wrong_at}
use Rattle.digit_amounts.specs.declared.prices.PriceError.{PriceError}
use Rattle.digit_amounts.specs.declared.prices.PriceError.TheVariants.{Number, Group, Places}

-- a number of any places and groups
abbrev pub of_number : Result (ℤ × ℕ) ScaledError → Result (ℤ × ℕ) PriceError
of_number (Ok read) = Ok read
of_number (Err error) = Err (Number error)

-- one that has to have exactly these places: whether it has
abbrev pub if_exact : Bool → Result (ℤ × ℕ) PriceError → Result (ℤ × ℕ) PriceError
if_exact is (Ok read) = if is then Ok read else Err (Places read.1)
if_exact is (Err error) = Err error

-- one that has to have groups of three digits: which is none
abbrev pub if_grouped : Option ℕ → Result (ℤ × ℕ) PriceError → Result (ℤ × ℕ) PriceError
if_grouped None read = read
if_grouped (Some wrong) (Ok read) = Err (Group wrong)
if_grouped (Some wrong) (Err error) = Err error

module _ (word : ℕ) (text : List ℕ) (point : ℕ) where
  -- how many digits the fraction has of the number at a position, which follows any sign
  abbrev pub places_at : ℕ → ℕ
  places_at at = length (fraction_digits word text point (digits_end word text Integer at))

  -- the number at a position, of any places and groups; with exactly so many places, with groups,
  -- and with both
  module _ (places least most start : ℕ) where
    abbrev pub any_at : Result (ℤ × ℕ) PriceError
    any_at = of_number (scaled.read_scaled_at word text point places least most start)

    abbrev pub exact_at : Result (ℤ × ℕ) PriceError
    exact_at = if_exact (places_at (digits_from least text start) == places) any_at

    abbrev pub grouped_at : Result (ℤ × ℕ) PriceError
    grouped_at = if_grouped (wrong_at word text (digits_from least text start)) any_at

    abbrev pub price_at : Result (ℤ × ℕ) PriceError
    price_at = if_exact (places_at (digits_from least text start) == places) grouped_at

-- one that may have to have exactly these places, and groups
abbrev pub price_by : Bool → Bool → ℕ → List ℕ → ℕ → ℕ → ℕ → ℕ → ℕ → Result (ℤ × ℕ) PriceError
price_by true true word text point places least most start =
    price_at word text point places least most start
price_by true false word text point places least most start =
    exact_at word text point places least most start
price_by false true word text point places least most start =
    grouped_at word text point places least most start
price_by false false word text point places least most start =
    any_at word text point places least most start

-- ---- an error

-- the position that an error holds
abbrev pub price_position : PriceError → ℕ
price_position (Number error) = scaled.position error
price_position (Group at) = at
price_position (Places at) = at

-- whether it says that no number begins at a position
abbrev pub price_none_at : ℕ → PriceError → Bool
price_none_at place (Number error) = scaled.none_at place error
price_none_at place (Group at) = false
price_none_at place (Places at) = false

-- what is printed of it
abbrev pub price_message : PriceError → List ℕ
price_message (Number error) = scaled.message error
price_message (Group at) =
    codes "the digits at " ++ decimal at ++ codes " are no group of three"
price_message (Places at) =
    codes "the number that ends at " ++ decimal at ++ codes " has fewer or more places"

-- the error with its position so much later
abbrev pub price_later : ℕ → PriceError → PriceError
price_later by (Number error) = Number (scaled_later by error)
price_later by (Group at) = Group (by + at)
price_later by (Places at) = Places (by + at)
