-- Why a field has no number: the position that an error holds, and the same error of its line.
use Rattle.std.specs.Prelude.{ℕ, ◌+◌, Result, Ok, Err}
use Rattle.digit_integers.specs.Errors as integers
use Rattle.digit_integers.specs.declared.parse.ParseError.{ParseError}
use Rattle.digit_integers.specs.declared.parse.ParseError.TheVariants as integer
use Rattle.digit_amounts.specs.Scaled as decimals
use Rattle.digit_amounts.specs.declared.scaled.ScaledError.{ScaledError}
use Rattle.digit_amounts.specs.declared.scaled.ScaledError.TheVariants as decimal
use Rattle.digit_floats.specs.Errors as floats
use Rattle.digit_floats.specs.declared.error.FloatError.{FloatError}
use Rattle.digit_floats.specs.declared.error.FloatError.TheVariants as float
use Rattle.digit_totals.specs.declared.fault.NumberError.{NumberError}
use Rattle.digit_totals.specs.declared.fault.NumberError.TheVariants.{Missing, Quoted, OpenQuotes, WrongQuote, Integer, Decimal, Float}

-- the position that an error holds; that of a column has none
abbrev pub position : NumberError → ℕ
position Missing = 0
position (Quoted column) = 0
position OpenQuotes = 0
position WrongQuote = 0
position (Integer error) = integers.position error
position (Decimal error) = decimals.position error
position (Float error) = floats.position error

-- ---- an error with its position so much later

abbrev pub integer_later : ℕ → ParseError → ParseError
integer_later by (integer.Empty at) = integer.Empty (by + at)
integer_later by (integer.Invalid at) = integer.Invalid (by + at)
integer_later by (integer.Overflow at) = integer.Overflow (by + at)

abbrev pub decimal_later : ℕ → ScaledError → ScaledError
decimal_later by (decimal.Empty at) = decimal.Empty (by + at)
decimal_later by (decimal.TooLarge at) = decimal.TooLarge (by + at)
decimal_later by (decimal.TooFine at) = decimal.TooFine (by + at)
decimal_later by (decimal.Invalid at) = decimal.Invalid (by + at)

abbrev pub float_later : ℕ → FloatError → FloatError
float_later by (float.Empty at) = float.Empty (by + at)
float_later by (float.EmptyExponent at) = float.EmptyExponent (by + at)
float_later by (float.Invalid at) = float.Invalid (by + at)

abbrev pub later : ℕ → NumberError → NumberError
later by Missing = Missing
later by (Quoted column) = Quoted column
later by OpenQuotes = OpenQuotes
later by WrongQuote = WrongQuote
later by (Integer error) = Integer (integer_later by error)
later by (Decimal error) = Decimal (decimal_later by error)
later by (Float error) = Float (float_later by error)

-- what a field has, whose first byte is at a position of its line
abbrev pub of_field_at : {A : Type 0} → ℕ → Result A NumberError → Result A NumberError
of_field_at start (Ok value) = Ok value
of_field_at start (Err error) = Err (later start error)
