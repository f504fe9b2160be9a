-- JSON arrays of numbers.
use Rattle.std.specs.Prelude.{ℕ, ◌+◌, ◌==◌, if◌then◌else◌, List, [], length, Result, Ok, Err}
use Rattle.std.specs.Float.Ieee.{Float}
use Rattle.digits.specs.Bytes.{BLANKS}
use Rattle.digits.specs.Forms.{JSON}
use Rattle.digits.specs.Gaps.{COMMAS}
use Rattle.digits.specs.ListEnds as ends
use Rattle.digits.specs.Words.{binary64, ListEnd, Number, NumberError, has_byte, list_at, number_of_at, number_none_at, past_bytes, position}
use Rattle.digit_uses.specs.declared.lists.ArrayError.{ArrayError}
use Rattle.digit_uses.specs.declared.lists.ArrayError.TheVariants.{Fault, Full}

module _ (text : List ℕ) where
  -- the end of the text, if a bracket here ends the array, and nothing follows it
  abbrev pub closed : ℕ → Result ℕ ArrayError
  closed at =
      if has_byte text at 93
      then if past_bytes text (at + 1) BLANKS == length text then Ok (length text)
      else Err (Fault (past_bytes text (at + 1) BLANKS))
      else Err (Fault at)

  -- the same of why a list is read no further
  abbrev pub ended : ListEnd NumberError → Result ℕ ArrayError
  ended (ends.Over at) = closed at
  ended (ends.Full at) = Err (Full at)
  ended (ends.Fault error) = Err (Fault (position error))

  -- the numbers, if the array ends after them
  abbrev pub if_ended : List (Number Float) → Result ℕ ArrayError
      → Result (List (Number Float)) ArrayError
  if_ended numbers (Ok end) = Ok numbers
  if_ended numbers (Err error) = Err error

  -- the numbers after the first bracket, if there is room for them
  abbrev pub inner : ℕ → ℕ → Result (List (Number Float)) ArrayError
  inner room start =
      if has_byte text start 93 then if_ended [] (closed start) else
      let list =
      list_at (λ at. number_of_at JSON text at binary64) number_none_at COMMAS text room start in
      if_ended list.0 (ended list.1)

  -- the numbers of an array that is the text
  abbrev pub array_of : ℕ → Result (List (Number Float)) ArrayError
  array_of room =
      let open_at = past_bytes text 0 BLANKS in
      if has_byte text open_at 91 then inner room (past_bytes text (open_at + 1) BLANKS)
      else Err (Fault open_at)
