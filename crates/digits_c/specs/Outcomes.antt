-- What a call answers: where the number ends, or what is at fault.
use Rattle.std.specs.Prelude.{◌≡◌, ℕ, ℤ, Bool, true, false, pos, Option, None, Some, Result, Ok, Err}
use Rattle.digits.specs.Words.{LiteralError, ParseError, FloatError, ScaledError, PriceError, LanguageError, NumberError}
use Rattle.digits.specs.LiteralErrors as literals
use Rattle.digits.specs.ParseErrors as wholes
use Rattle.digits.specs.FloatErrors as floats
use Rattle.digits.specs.ScaledErrors as scaled
use Rattle.digits.specs.PriceErrors as prices
use Rattle.digits.specs.LanguageErrors as languages
use Rattle.digits.specs.NumberErrors as numbers
use Rattle.digits_c.specs.declared.outcome.Outcome.{Outcome}
use Rattle.digits_c.specs.declared.outcome.TheConstants.{OK, EMPTY, OVERFLOW, INVALID, EMPTY_EXPONENT, FIRST_ZERO, TOO_FINE, GROUP, PLACES}

abbrev pub done : ℕ → Outcome
done end = record { at = end; status = OK }

abbrev pub fault : ℕ → ℕ → Outcome
fault status at = record { at = at; status = status }

-- ---- of each kind of error

abbrev pub literal_fault : LiteralError → Outcome
literal_fault (literals.Empty at) = fault EMPTY at
literal_fault (literals.Overflow at) = fault OVERFLOW at

abbrev pub parse_fault : ParseError → Outcome
parse_fault (wholes.Empty at) = fault EMPTY at
parse_fault (wholes.Overflow at) = fault OVERFLOW at
parse_fault (wholes.Invalid at) = fault INVALID at

abbrev pub float_fault : FloatError → Outcome
float_fault (floats.Empty at) = fault EMPTY at
float_fault (floats.EmptyExponent at) = fault EMPTY_EXPONENT at
float_fault (floats.Invalid at) = fault INVALID at

abbrev pub scaled_fault : ScaledError → Outcome
scaled_fault (scaled.Empty at) = fault EMPTY at
scaled_fault (scaled.TooLarge at) = fault OVERFLOW at
scaled_fault (scaled.TooFine at) = fault TOO_FINE at
scaled_fault (scaled.Invalid at) = fault INVALID at

abbrev pub price_fault : PriceError → Outcome
price_fault (prices.Number none) = scaled_fault none
price_fault (prices.Group at) = fault GROUP at
price_fault (prices.Places at) = fault PLACES at

abbrev pub language_fault : LanguageError → Outcome
language_fault (languages.Empty at) = fault EMPTY at
language_fault (languages.Overflow at) = fault OVERFLOW at
language_fault (languages.Zero at) = fault FIRST_ZERO at

abbrev pub number_fault : NumberError → Outcome
number_fault (numbers.Empty at) = fault EMPTY at
number_fault (numbers.Overflow at) = fault OVERFLOW at
number_fault (numbers.Invalid at) = fault INVALID at

-- ---- a value and an outcome are those of a call

-- `other` is the value where there is none
abbrev pub Answers : {T : Type 0} → T → Result (T × ℕ) Outcome → T → Outcome → Type 0
Answers other (Ok (number, end)) value outcome = (value ≡ number) × (outcome ≡ done end)
Answers other (Err refused) value outcome = (value ≡ other) × (outcome ≡ refused)

-- the same of an integer that may not be there, with 0 in its place
abbrev pub AnswersIf : Option ℤ → ℤ → Bool → Type 0
AnswersIf (Some number) value there = (value ≡ number) × (there ≡ true)
AnswersIf None value there = (value ≡ pos 0) × (there ≡ false)
