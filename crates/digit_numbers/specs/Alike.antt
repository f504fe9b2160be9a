-- Outcomes that differ in nothing but how a float is rounded.
use Rattle.std.specs.Prelude.{◌≡◌, ℕ, Bool, Option, None, Some, Result, Ok, Err}
use Rattle.std.specs.Float.{Float}
use Rattle.digit_numbers.specs.declared.number.Number.{Number}
use Rattle.digit_numbers.specs.declared.number.Number.TheVariants as numbers
use Rattle.digit_numbers.specs.declared.number.NumberError.{NumberError}
use Rattle.digit_numbers.specs.Numbers.{Outcome}

-- the sign, the magnitude and the word of an integer
abbrev pub integer_of : Number Float → Option (Bool × ℕ × ℕ)
integer_of (numbers.Integer negative magnitude said) = Some (negative, magnitude, said)
integer_of (numbers.Float x) = None

-- an outcome, whatever its float is
abbrev pub but_for_float : Outcome → Result (Option (Bool × ℕ × ℕ) × ℕ) NumberError
but_for_float (Ok (number, end)) = Ok (integer_of number, end)
but_for_float (Err error) = Err error

-- both are the same integer, or both a float, and end at one position; or both are the same error
abbrev pub AreAlike : Outcome → Outcome → Type 0
AreAlike one other = but_for_float one ≡ but_for_float other
