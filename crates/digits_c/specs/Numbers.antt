-- Numbers by a form, as C has them.
use Rattle.std.specs.Prelude.{ℕ, ℤ, ◌==◌, ◌+◌, ◌*◌, ◌%◌, ◌/◌, ◌^◌, nat_lt, if◌then◌else◌, false, List, length, Option, None, Some, Result, Ok, Err}
use Rattle.std.specs.Float.{Float, binary64, float_zero}
use Rattle.digits.specs.Numbers as numbers
use Rattle.digits.specs.Words.{Form, Number, NumberError, float_in, integer_in, number_of_at, number_to_end}
use Rattle.digits_c.specs.declared.outcome.Outcome.{Outcome}
use Rattle.digits_c.specs.declared.outcome.TheConstants.{BAD_FORM}
use Rattle.digits_c.specs.declared.numbers.NumberParts.{NumberParts}
use Rattle.digits_c.specs.declared.numbers.TheConstants.{NONE, INTEGER, FLOAT}
use Rattle.digits_c.specs.Outcomes.{fault, number_fault}
use Rattle.digits_c.specs.Calls.{or_fault, whole_or_fault, within}

-- a number in its parts
abbrev pub parts_of : Number Float → NumberParts
parts_of (numbers.Integer negative magnitude word) = record {
  value = float_in binary64 (λ x. x) (numbers.Integer negative magnitude word);
  low = magnitude % 2 ^ 64;
  high = magnitude / 2 ^ 64;
  kind = INTEGER;
  is_negative = negative;
}
parts_of (numbers.Float x) =
    record { value = x; low = 0; high = 0; kind = FLOAT; is_negative = false }

abbrev pub no_parts : NumberParts
no_parts = record { value = float_zero; low = 0; high = 0; kind = NONE; is_negative = false }

-- what was read, in its parts
abbrev pub in_parts : Result (Number Float × ℕ) NumberError → Result (NumberParts × ℕ) NumberError
in_parts (Ok (n, end)) = Ok (parts_of n, end)
in_parts (Err error) = Err error

abbrev pub whole_in_parts : Result (Number Float) NumberError → Result NumberParts NumberError
whole_in_parts (Ok n) = Ok (parts_of n)
whole_in_parts (Err error) = Err error

-- a number of a list, in its parts, and where it ends
unfoldable pub parts_at : Form → List ℕ → ℕ → Result (NumberParts × ℕ) NumberError
parts_at form text at = in_parts (number_of_at form text at binary64)

-- the number of a form at a start, and where it ends
module _ (form : Form) (text : List ℕ) where
  abbrev pub number_from : ℕ → Result (NumberParts × ℕ) Outcome
  number_from start = within text start
      (or_fault number_fault (in_parts (number_of_at form text start binary64)))

  -- the number of a form that a text is
  abbrev pub whole_number : Result (NumberParts × ℕ) Outcome
  whole_number = whole_or_fault text number_fault
      (whole_in_parts (number_to_end text (number_of_at form text 0 binary64)))

-- the same by a form that has a number, or has none
module _ (text : List ℕ) where
  abbrev pub number_by : ℕ → Option Form → Result (NumberParts × ℕ) Outcome
  number_by start None = Err (fault BAD_FORM start)
  number_by start (Some form) = number_from form text start

  abbrev pub whole_number_by : Option Form → Result (NumberParts × ℕ) Outcome
  whole_number_by None = Err (fault BAD_FORM 0)
  whole_number_by (Some form) = whole_number form text

-- the integer that a number's parts are, if a type has it: one from `- least` to `most`
abbrev pub integer_of : ℕ → ℕ → NumberParts → Option ℤ
integer_of least most n =
    if n.kind == INTEGER then
    integer_in least most {T = Float} (numbers.Integer n.is_negative (n.low + n.high * 2 ^ 64) 0)
    else None

-- the integer of the number of a form at a start, if it is one and a type has it
abbrev pub integer_read : ℕ → ℕ → Result (Number Float × ℕ) NumberError → Option ℤ
integer_read least most (Ok (n, end)) = integer_in least most n
integer_read least most (Err error) = None

abbrev pub integer_by : ℕ → ℕ → List ℕ → ℕ → Option Form → Option ℤ
integer_by least most text start None = None
integer_by least most text start (Some form) =
    if nat_lt (length text) start then None
    else integer_read least most (number_of_at form text start binary64)
