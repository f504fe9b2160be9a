-- The fields of a line, and where they are in it.
use Rattle.std.specs.Prelude.{ℕ, ◌+◌, ◌-◌, ◌==◌, if◌then◌else◌, Bool, List, [], ◌∷◌, length, take, slice_get, sum_by, fold, Option, None, Some, Result, Ok, Err}
use Rattle.std.specs.List.{onto_first, position_from}
use Rattle.digit_values.specs.declared.bytes.TheConstants.{BLANKS}
use Rattle.digit_values.specs.Bytes.{past_bytes}
use Rattle.digit_values.specs.Bytes.{has_byte}
use Rattle.digit_totals.specs.declared.fault.NumberError.{NumberError}
use Rattle.digit_totals.specs.declared.fault.NumberError.TheVariants.{Missing, OpenQuotes, WrongQuote}
use Rattle.digit_totals.specs.declared.fault.NumberError.TheVariants as errors
use Rattle.digit_totals.specs.declared.csv.Place.{Place}
use Rattle.digit_totals.specs.declared.csv.Place.TheVariants.{Start, Plain, Quoted, Closed, Wrong}
use Rattle.digit_totals.specs.declared.options.Column.{Column}

-- a field ends before a separator or at the end of the line
abbrev pub fields_of : ℕ → List ℕ → List (List ℕ)
fields_of separator [] = [] ∷ []
fields_of separator (byte ∷ bytes) =
    if byte == separator
    then [] ∷ fields_of separator bytes
    else onto_first byte (fields_of separator bytes)

-- how long these fields are, with a separator after each
abbrev pub length_of : List (List ℕ) → ℕ
length_of fields = sum_by (λ field. length field + 1) fields

-- where a field is, after others: its start and its end
abbrev pub span_after : ℕ → Option (List ℕ) → Option (ℕ × ℕ)
span_after start None = None
span_after start (Some field) = Some (start, start + length field)

-- where the field is that has n fields before it, of fields that begin at a position
abbrev pub nth_span : ℕ → ℕ → List (List ℕ) → Option (ℕ × ℕ)
nth_span start n fields = span_after (start + length_of (take n fields)) (slice_get fields n)

-- where a column is in a line, if the line has it; without a column it is the whole line
abbrev pub span_of : Option Column → List ℕ → Option (ℕ × ℕ)
span_of None line = Some (0, length line)
span_of (Some column) line = nth_span 0 (column.number - 1) (fields_of column.separator line)

-- ---- quotes

-- whether a field begins with a quote, after any blanks
abbrev pub is_quoted : List ℕ → Bool
is_quoted field = has_byte field (past_bytes field 0 BLANKS) 34

-- the number of the first field that does, of those up to the one that has n fields before it; the
-- first of all has number `first`
abbrev pub first_quoted : ℕ → ℕ → List (List ℕ) → Option ℕ
first_quoted first n fields = position_from is_quoted first (take (n + 1) fields)

-- A field is read if no quote begins it, nor a field before it: a separator may be in quotes.
abbrev pub unless_quoted : Option ℕ → Option (ℕ × ℕ) → Result (ℕ × ℕ) NumberError
unless_quoted (Some column) span = Err (errors.Quoted column)
unless_quoted None None = Err Missing
unless_quoted None (Some span) = Ok span

-- where a column is without CSV, or why it isn't read
abbrev pub plain_span : Column → List ℕ → Result (ℕ × ℕ) NumberError
plain_span column line =
    let fields = fields_of column.separator line in
    unless_quoted (first_quoted 1 (column.number - 1) fields) (span_of (Some column) line)

-- ---- CSV, as in RFC 4180

-- where a line is after one byte more
abbrev pub after : ℕ → Place → ℕ → Place
after separator Start byte =
    if byte == 34 then Quoted else if byte == separator then Start else Plain
after separator Plain byte =
    if byte == 34 then Wrong else if byte == separator then Start else Plain
after separator Quoted byte = if byte == 34 then Closed else Quoted
after separator Closed byte =
    if byte == 34 then Quoted else if byte == separator then Start else Wrong
after separator Wrong byte = Wrong

-- where it is at its end
abbrev pub end_of : ℕ → List ℕ → Place
end_of separator line = fold (after separator) Start line

-- a byte parts two fields if one begins after it
abbrev pub parted : Place → ℕ → List (List ℕ) → List (List ℕ)
parted Start byte fields = [] ∷ fields
parted place byte fields = onto_first byte fields

-- the fields from a place on, with their quotes
abbrev pub csv_fields : ℕ → Place → List ℕ → List (List ℕ)
csv_fields separator place [] = [] ∷ []
csv_fields separator place (byte ∷ bytes) =
    parted (after separator place byte) byte
    (csv_fields separator (after separator place byte) bytes)

-- what is between the quotes of a field; without quotes it is the whole field
abbrev pub between_quotes : List ℕ → ℕ × ℕ → ℕ × ℕ
between_quotes line (start, end) =
    if has_byte line start 34 then (start + 1, start + 1 + (end - start - 2)) else (start, end)

-- where a field is that is read, of a line with these quotes
abbrev pub unless_wrong : List ℕ → Place → Option (ℕ × ℕ) → Result (ℕ × ℕ) NumberError
unless_wrong line Quoted span = Err OpenQuotes
unless_wrong line Wrong span = Err WrongQuote
unless_wrong line place None = Err Missing
unless_wrong line place (Some span) = Ok (between_quotes line span)

-- a line without the carriage return before its line feed
abbrev pub without_return : List ℕ → List ℕ
without_return line =
    if has_byte line (length line - 1) 13 then take (length line - 1) line else line

-- where a column of such a line is, or why it isn't read
abbrev pub csv_span : Column → List ℕ → Result (ℕ × ℕ) NumberError
csv_span column line =
    unless_wrong line (end_of column.separator line)
    (nth_span 0 (column.number - 1) (csv_fields column.separator Start line))

-- ---- both

-- where a column is that is read, or why it isn't
abbrev pub span_in : Option Column → List ℕ → Result (ℕ × ℕ) NumberError
span_in None line = Ok (0, length line)
span_in (Some column) line =
    if column.csv then csv_span column (without_return line) else plain_span column line
