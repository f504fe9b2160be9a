-- The number that a line has, or why there is none.
use Rattle.std.specs.Prelude.{ℕ, ℤ, ◌-◌, ◌^◌, ◌≤◌, ⊤, if◌then◌else◌, List, slice_range, Result, Ok, Err}
use Rattle.lexical_format.specs.declared.words.TheConstants.{PYTHON_LITERAL}
use Rattle.lexical_format.specs.declared.TheConstants.{STANDARD}
use Rattle.lexical_digits.specs.declared.skip.component.Component.TheVariants.{Integer}
use Rattle.lexical_digits.specs.State.{rule_of}
use Rattle.digit_integers.specs.declared.parse.ParseError.{ParseError}
use Rattle.digit_values.specs.declared.bytes.TheConstants.{BLANKS}
use Rattle.digit_values.specs.Bytes.{past_bytes}
use Rattle.digit_integers.specs.Numbers.{number_at, to_end}
use Rattle.digit_amounts.specs.declared.scaled.ScaledError.{ScaledError}
use Rattle.digit_amounts.specs.Scaled.{read_scaled_at, whole_of}
use Rattle.digit_totals.specs.declared.options.Kind.{Kind}
use Rattle.digit_totals.specs.declared.options.Kind.TheVariants.{Integers, Places}
use Rattle.digit_totals.specs.declared.options.Options.{Options}
use Rattle.digit_totals.specs.declared.options.Request.{Request}
use Rattle.digit_totals.specs.declared.options.Request.TheVariants.{Exact, Floats, Help}
use Rattle.digit_totals.specs.declared.fault.NumberError.{NumberError}
use Rattle.digit_totals.specs.declared.fault.NumberError.TheVariants as errors
use Rattle.digit_totals.specs.Errors.{of_field_at}
use Rattle.digit_totals.specs.Field.{span_in}

-- ---- options

-- the separators of the numbers
abbrev pub word_of : Options → ℕ
word_of options = if options.underscores then PYTHON_LITERAL else STANDARD

-- at most 38 places
abbrev pub HasFewPlaces : Kind → Type 0
HasFewPlaces Integers = ⊤
HasFewPlaces (Places places) = places ≤ 38

abbrev pub MayServe : Request → Type 0
MayServe (Exact options) = HasFewPlaces options.kind
MayServe (Floats options) = ⊤
MayServe Help = ⊤

-- ---- a number with blanks around it

-- a number that ends at a position, as one that ends after the blanks there
abbrev pub with_blanks : {A E : Type 0} → List ℕ → Result (A × ℕ) E → Result (A × ℕ) E
with_blanks text (Ok (value, end)) = Ok (value, past_bytes text end BLANKS)
with_blanks text (Err error) = Err error

-- a reader's error as one of a line
abbrev pub as_integer : Result ℤ ParseError → Result ℤ NumberError
as_integer (Ok value) = Ok value
as_integer (Err error) = Err (errors.Integer error)

abbrev pub as_decimal : Result ℤ ScaledError → Result ℤ NumberError
as_decimal (Ok value) = Ok value
as_decimal (Err error) = Err (errors.Decimal error)

module _ (word : ℕ) (text : List ℕ) where
  -- where a number begins: after the blanks
  abbrev pub begin : ℕ
  begin = past_bytes text 0 BLANKS

  -- the integer that a text is
  abbrev pub integer_in : Result ℤ ParseError
  integer_in = to_end text
      (with_blanks text (number_at (2 ^ 127) (2 ^ 127 - 1) (rule_of word Integer) text begin))

  -- the decimal number, in units of its last place
  abbrev pub decimal_in : ℕ → Result ℤ ScaledError
  decimal_in places = whole_of text
      (with_blanks text (read_scaled_at word text 46 places (2 ^ 127) (2 ^ 127 - 1) begin))

  abbrev pub number_in : Kind → Result ℤ NumberError
  number_in Integers = as_integer integer_in
  number_in (Places places) = as_decimal (decimal_in places)

-- ---- of a line

-- the number of a field, by its bytes alone
abbrev pub in_span : Options → List ℕ → Result (ℕ × ℕ) NumberError → Result ℤ NumberError
in_span options line (Err error) = Err error
in_span options line (Ok (start, end)) =
    of_field_at start (number_in (word_of options) (slice_range line start end) options.kind)

-- the number in the column of a line
abbrev pub value_of : Options → List ℕ → Result ℤ NumberError
value_of options line = in_span options line (span_in options.column line)
