-- The float that a line has, and what some floats are together.
use Rattle.std.specs.Prelude.{ℕ, ◌+◌, ◌==◌, ◌||◌, true, if◌then◌else◌, List, slice_range, Result, Ok, Err}
use Rattle.std.specs.Float.{float_zero, binary64}
use Rattle.std.specs.Float.Ieee.{Float, add, lt}
use Rattle.lexical_format.specs.declared.words.TheConstants.{PYTHON_LITERAL}
use Rattle.lexical_format.specs.declared.TheConstants.{STANDARD}
use Rattle.digit_values.specs.declared.bytes.TheConstants.{BLANKS}
use Rattle.digit_values.specs.Bytes.{past_bytes}
use Rattle.digit_floats.specs.declared.error.FloatError.{FloatError}
use Rattle.digit_floats.specs.Float.{read_at, whole_of, plain_marks}
use Rattle.digit_totals.specs.declared.options.FloatOptions.{FloatOptions}
use Rattle.digit_totals.specs.declared.totals.FloatTotals.{FloatTotals}
use Rattle.digit_totals.specs.declared.fault.NumberError.{NumberError}
use Rattle.digit_totals.specs.declared.fault.NumberError.TheVariants as errors
use Rattle.digit_totals.specs.declared.fault.LineFault.{LineFault}
use Rattle.digit_totals.specs.Errors.{of_field_at}
use Rattle.digit_totals.specs.Field.{span_in}
use Rattle.digit_totals.specs.Report.{Adding}
use Rattle.digit_totals.specs.Report as Report
use Rattle.digit_totals.specs.Value.{with_blanks}

-- ---- the float of a line

-- the float that a text is, with any blanks around it: the nearest one
abbrev pub float_in : ℕ → List ℕ → Result Float FloatError
float_in word text =
    whole_of word text (with_blanks text
    (read_at word text plain_marks binary64 (past_bytes text 0 BLANKS)))

-- a reader's error as one of a line
abbrev pub as_float : Result Float FloatError → Result Float NumberError
as_float (Ok value) = Ok value
as_float (Err error) = Err (errors.Float error)

-- the separators of the numbers
abbrev pub word_of : FloatOptions → ℕ
word_of options = if options.underscores then PYTHON_LITERAL else STANDARD

-- the float of a field, by its bytes alone
abbrev pub in_span : FloatOptions → List ℕ → Result (ℕ × ℕ) NumberError → Result Float NumberError
in_span options line (Err error) = Err error
in_span options line (Ok (start, end)) =
    of_field_at start (as_float (float_in (word_of options) (slice_range line start end)))

-- the float in the column of a line
abbrev pub value_of : FloatOptions → List ℕ → Result Float NumberError
value_of options line = in_span options line (span_in options.column line)

-- ---- totals

-- of no number
abbrev pub no_floats : FloatTotals
no_floats = record {
  count = 0;
  sum = float_zero;
  least = float_zero;
  greatest = float_zero;
}

-- with one number more
abbrev pub plus : FloatTotals → Float → FloatTotals
plus t value = record {
  count = t.count + 1;
  sum = add binary64 t.sum value;
  least = if (t.count == 0) || lt value t.least then value else t.least;
  greatest = if (t.count == 0) || lt t.greatest value then value else t.greatest;
}

-- the floats of lines, and their sum, which always fits
abbrev pub adding : FloatOptions → Adding FloatTotals Float
adding options = record {
  value_of = value_of options;
  none = no_floats;
  count_of = λ t. t.count;
  plus = plus;
  fits = λ t value. true;
  header = options.header;
}

abbrev pub report_of : FloatOptions → List ℕ → Result FloatTotals LineFault
report_of options = Report.report_of (adding options)

abbrev pub input_report : FloatOptions → List ℕ → Result FloatTotals LineFault
input_report options = Report.input_report (adding options)
