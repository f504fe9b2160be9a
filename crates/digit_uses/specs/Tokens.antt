-- The tokens of numbers of JSON.
use Rattle.std.specs.Prelude.{ℕ, Bool, true, ◌==◌, ◌||◌, if◌then◌else◌, List, slice_get, Option, Some, None, Result, Ok, Err}
use Rattle.std.specs.Float.Ieee.{Float}
use Rattle.digits.specs.Forms.{JSON}
use Rattle.digits.specs.NumberErrors.{Invalid}
use Rattle.digits.specs.Words.{binary64, Number, NumberError, number_of_at}

-- whether a token may end before this byte, or with the text
abbrev pub may_follow : Option ℕ → Bool
may_follow None = true
may_follow (Some byte) =
    byte == 32 || byte == 9 || byte == 10 || byte == 13 || byte == 44 || byte == 93 || byte == 125

module _ (text : List ℕ) where
  -- the number, if it may end where it does
  abbrev pub if_ended : Result (Number Float × ℕ) NumberError
      → Result (Number Float × ℕ) NumberError
  if_ended (Ok read) =
      if may_follow (slice_get text read.1) then Ok read else Err (Invalid read.1)
  if_ended (Err error) = Err error

  -- the token of a number that begins at a position, and where it ends
  abbrev pub token_at : ℕ → Result (Number Float × ℕ) NumberError
  token_at start = if_ended (number_of_at JSON text start binary64)
