-- The sum of the prices of a stream, in quotes and one in each line.
use Rattle.std.specs.Prelude.{ℕ, ℤ, ◌-◌, ◌^◌, List, Result}
use Rattle.digits.specs.Constants.{LINES, STANDARD}
use Rattle.digits.specs.Words.{BracketError, ReadsText, ScaledError, StreamError, StreamNumbers, bracket_later, bracket_none_at, enclosed_at, read_scaled_at, scaled_later, stream_list}
use Rattle.digit_uses.specs.Sums.{sum_of}

-- the price at a position of a text, in cents: a decimal number of two places between two quotes
abbrev pub price_at : List ℕ → ℕ → Result (ℤ × ℕ) (BracketError ScaledError)
price_at =
    enclosed_at 34 (λ text. read_scaled_at STANDARD text 46 2 (2 ^ 63) (2 ^ 63 - 1)) 34

-- the prices of a text from a position of the stream on, as many as there is room for
abbrev pub prices_from : ℕ → List ℕ → ℕ → StreamNumbers ℤ (BracketError ScaledError)
prices_from = stream_list price_at bracket_none_at (bracket_later scaled_later) LINES

-- What is answered of a text: the sum of its prices, which are all of it; or where it is at fault.
abbrev pub IsPriceSum : List ℕ → Result ℤ (StreamError (BracketError ScaledError)) → Type 0
IsPriceSum text result = ReadsText (prices_from 0) sum_of text result
