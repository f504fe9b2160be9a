-- What is written: the totals, or why there are none.
use Rattle.std.specs.Prelude.{◌≡◌, ℕ, zero, suc, ℤ, ◌-◌, ◌/◌, ◌%◌, ◌^◌, ◌==◌, if◌then◌else◌, List, ◌++◌, length, replicate, Option, None, Some, codes, decimal, unsigned_abs}
use Rattle.std.specs.Float.{binary64, nan, inf, fin}
use Rattle.std.specs.Float.Ieee.{Float}
use Rattle.std.specs.Float.Parse.{parse_float}
use Rattle.std.specs.Fmt.{sign_text, signed_decimal}
use Rattle.std.specs.Int.{is_negative}
use Rattle.digit_integers.specs.Errors as integers
use Rattle.digit_amounts.specs.Scaled as decimals
use Rattle.digit_floats.specs.Errors as floats
use Rattle.float_writers.specs.Write as writers
use Rattle.float_writers.specs.declared.write.FloatLayout.TheVariants.{Plain}
use Rattle.std.specs.declared.io.ErrorKind.{ErrorKind}
use Rattle.digit_totals.specs.ErrorKinds.{words_of}
use Rattle.digit_totals.specs.declared.fault.Fault.{Fault}
use Rattle.digit_totals.specs.declared.fault.Fault.TheVariants.{Line, Read, Write, Memory}
use Rattle.digit_totals.specs.declared.fault.LineFault.{LineFault}
use Rattle.digit_totals.specs.declared.fault.LineFault.TheVariants.{Number, Sum, LongLine}
use Rattle.digit_totals.specs.declared.fault.NumberError.{NumberError}
use Rattle.digit_totals.specs.declared.fault.NumberError.TheVariants as errors
use Rattle.digit_totals.specs.declared.options.Column.{Column}
use Rattle.digit_totals.specs.declared.options.Kind.{Kind}
use Rattle.digit_totals.specs.declared.options.Kind.TheVariants.{Integers, Places}
use Rattle.digit_totals.specs.declared.totals.FloatTotals.{FloatTotals}
use Rattle.digit_totals.specs.declared.totals.Totals.{Totals}

-- ---- the totals

-- digits, with zeros before them up to so many
abbrev pub padded : ℕ → List ℕ → List ℕ
padded places digits = replicate (places - length digits) 48 ++ digits

-- a number in units of its last place, with a point before the places
unfoldable pub with_point : ℕ → ℤ → List ℕ
with_point places value =
    sign_text (is_negative value) ++ decimal (unsigned_abs value / 10 ^ places)
    ++ codes "." ++ padded places (decimal (unsigned_abs value % 10 ^ places))

unfoldable pub amount : Kind → ℤ → List ℕ
amount Integers value = signed_decimal value
amount (Places places) value =
    if places == 0 then signed_decimal value else with_point places value

-- an amount of some numbers; of none a `-`
unfoldable pub amount_of_some : ℕ → Kind → ℤ → List ℕ
amount_of_some count kind value = if count == 0 then codes "-" else amount kind value

unfoldable pub count_and_sum : ℕ → List ℕ → List ℕ
count_and_sum count sum = codes "count=" ++ decimal count ++ codes " sum=" ++ sum

unfoldable pub extremes : List ℕ → List ℕ → List ℕ
extremes least greatest =
    codes " min=" ++ least ++ codes " max=" ++ greatest ++ codes "\n"

abbrev pub line_of : Kind → Totals → List ℕ
line_of kind t =
    count_and_sum t.count (amount kind t.sum)
    ++ extremes (amount_of_some t.count kind t.least) (amount_of_some t.count kind t.greatest)

-- that line is the one that is written
abbrev pub IsLineOf : Kind → Totals → List ℕ → Type 0
IsLineOf kind t line = line ≡ line_of kind t

-- ---- the totals of floats

-- the shortest text of a number, as Rust's `{}` lays it out: the fewest digits that are read as it,
-- of these the closest to it; an infinity is `inf` with its sign
abbrev pub IsShortestText : Float → List ℕ → Type 0
IsShortestText nan text = text ≡ codes "NaN"
IsShortestText (inf negative) text = text ≡ sign_text negative ++ codes "inf"
IsShortestText (fin negative m e) text = writers.IsTextOf binary64 (fin negative m e) Plain text

-- it is that, and std's `parse` reads it as the float
pub record IsTextOf (x : Float) (text : List ℕ) : Type 0 where
  pub shortest : IsShortestText x text
  pub reads : parse_float binary64 text ≡ Some x

-- a text of one of so many floats; of none a `-`
abbrev pub IsTextOfSome : ℕ → Float → List ℕ → Type 0
IsTextOfSome zero x text = text ≡ codes "-"
IsTextOfSome (suc n) x text = IsTextOf x text

-- the line of the totals
pub record IsFloatLineOf (t : FloatTotals) (line : List ℕ) : Type 0 where
  pub sum : List ℕ
  pub least : List ℕ
  pub greatest : List ℕ
  pub sum_is : IsTextOf t.sum sum
  pub least_is : IsTextOfSome t.count t.least least
  pub greatest_is : IsTextOfSome t.count t.greatest greatest
  pub line_is : line ≡ count_and_sum t.count sum ++ extremes least greatest

-- ---- faults

-- what is wrong with a line, by the readers' words
abbrev pub message : NumberError → List ℕ
message errors.Missing = codes "there is no such column"
message (errors.Quoted column) =
    codes "column " ++ decimal column ++ codes " begins with a quote, and no quotes are read"
message errors.OpenQuotes = codes "the line ends inside quotes, and no line feed is read there"
message errors.WrongQuote =
    codes "a quote neither begins nor ends a column, and is not doubled inside quotes"
message (errors.Integer error) = integers.message error
message (errors.Decimal error) = decimals.message error
message (errors.Float error) = floats.message error

-- where it is
abbrev pub place : Option Column → ℕ → List ℕ
place None line = codes "error: line " ++ decimal line ++ codes ": "
place (Some column) line =
    codes "error: line " ++ decimal line ++ codes ", column " ++ decimal column.number
    ++ codes ": "

-- and what
abbrev pub told : Option Column → ℕ → List ℕ → List ℕ
told column line what = place column line ++ what ++ codes "\n"

-- a call of a reader or a writer that failed, and the kind of its error
abbrev pub failed : List ℕ → ErrorKind → List ℕ
failed call kind = codes "error: " ++ call ++ codes " failed: " ++ words_of kind ++ codes "\n"

-- the line that is written for the fault of a line
abbrev pub line_fault : Option Column → LineFault → List ℕ
line_fault column (Number line error) = told column line (message error)
line_fault column (Sum line) = told column line (codes "the sum leaves 128 bits")
line_fault column (LongLine line) = told column line (codes "the line is too long")

-- for a fault
abbrev pub error_line : Option Column → Fault → List ℕ
error_line column (Line fault) = line_fault column fault
error_line column (Read kind) = failed (codes "read") kind
error_line column (Write kind) = failed (codes "write") kind
error_line column Memory = codes "error: out of memory\n"

abbrev pub status_of : Fault → ℕ
status_of (Line (Number line error)) = 3
status_of (Line (Sum line)) = 4
status_of (Line (LongLine line)) = 5
status_of (Read kind) = 6
status_of (Write kind) = 7
status_of Memory = 8
