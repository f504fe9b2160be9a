-- What the arguments of the program ask for.
use Rattle.std.specs.Prelude.{ℕ, ℤ, pos, negsuc, ◌+◌, ◌-◌, ◌^◌, nat_le, ◌&&◌, ◌==◌, Bool, false, true, if◌then◌else◌, List, [], ◌∷◌, ◌++◌, take, drop, position, slice_get, unwrap_or, Option, None, Some, Result, Ok, Err, codes, decimal, bytes_eq, is_some}
use Rattle.lexical_format.specs.declared.TheConstants.{STANDARD}
use Rattle.lexical_digits.specs.declared.skip.component.Component.TheVariants.{Integer}
use Rattle.lexical_digits.specs.State.{rule_of}
use Rattle.digit_integers.specs.Numbers.{number_at, to_end}
use Rattle.digit_integers.specs.declared.parse.ParseError.{ParseError}
use Rattle.digit_totals.specs.declared.options.Column.{Column}
use Rattle.digit_totals.specs.declared.options.Kind.{Kind}
use Rattle.digit_totals.specs.declared.options.Kind.TheVariants.{Integers, Places}
use Rattle.digit_totals.specs.declared.options.Options.{Options}
use Rattle.digit_totals.specs.declared.options.Request.{Request}
use Rattle.digit_totals.specs.declared.options.Request.TheVariants.{Exact, Floats, Help}
use Rattle.digit_totals.specs.declared.arguments.Name.{Name}
use Rattle.digit_totals.specs.declared.arguments.Name.TheVariants as names
use Rattle.digit_totals.specs.declared.arguments.Settings.{Settings}
use Rattle.digit_totals.specs.declared.arguments.UsageError.{UsageError}
use Rattle.digit_totals.specs.declared.arguments.UsageError.TheVariants.{Unknown, Twice, NoValue, BadValue, NoColumn, NoCsvColumn, FloatPlaces}

-- ---- words

-- the option that a word names
unfoldable pub name_of : List ℕ → Option Name
name_of word =
    if bytes_eq word (codes "--column") then Some names.Column else
    if bytes_eq word (codes "--separator") then Some names.Separator else
    if bytes_eq word (codes "--csv") then Some names.Csv else
    if bytes_eq word (codes "--places") then Some names.Places else
    if bytes_eq word (codes "--underscores") then Some names.Underscores else
    if bytes_eq word (codes "--floats") then Some names.Floats else
    if bytes_eq word (codes "--header") then Some names.Header else
    if bytes_eq word (codes "--help") then Some names.Help else
    None

-- a number from `least` to `most`
abbrev pub in_range : ℕ → ℕ → Result ℤ ParseError → Option ℕ
in_range least most (Ok (pos n)) = if nat_le least n && nat_le n most then Some n else None
in_range least most (Ok (negsuc n)) = None
in_range least most (Err error) = None

-- the number that a word is, if it is in a range
unfoldable pub number_of : ℕ → ℕ → List ℕ → Option ℕ
number_of least most word =
    in_range least most (to_end word (number_at 0 (2 ^ 64 - 1) (rule_of STANDARD Integer) word 0))

-- the byte that a word is, other than a line feed; `\t` is a tab
abbrev pub byte_of : List ℕ → Option ℕ
byte_of [] = None
byte_of (byte ∷ []) = if byte == 10 then None else Some byte
byte_of (byte ∷ next ∷ []) = if byte == 92 && (next == 116) then Some 9 else None
byte_of (byte ∷ next ∷ more ∷ bytes) = None

-- ---- what they set

-- nothing yet
abbrev pub no_settings : Settings
no_settings = record {
  column = None;
  separator = None;
  csv = false;
  places = None;
  underscores = false;
  floats = false;
  header = false;
  help = false;
  awaits = None;
}

-- with the value of an option, which no option waits for then
abbrev pub with_column : Settings → ℕ → Option ℕ → Result Settings UsageError
with_column s n None = Err (BadValue n)
with_column s n (Some number) = Ok (record s { column = Some number; awaits = None })

abbrev pub with_separator : Settings → ℕ → Option ℕ → Result Settings UsageError
with_separator s n None = Err (BadValue n)
with_separator s n (Some byte) = Ok (record s { separator = Some byte; awaits = None })

abbrev pub with_places : Settings → ℕ → Option ℕ → Result Settings UsageError
with_places s n None = Err (BadValue n)
with_places s n (Some places) = Ok (record s { places = Some places; awaits = None })

-- word n, where an option waits for its value
abbrev pub with_value : Settings → Name → ℕ → List ℕ → Result Settings UsageError
with_value s names.Column n word = with_column s n (number_of 1 (2 ^ 64 - 1) word)
with_value s names.Separator n word = with_separator s n (byte_of word)
with_value s names.Places n word = with_places s n (number_of 0 38 word)
with_value s names.Csv n word = Err (BadValue n)
with_value s names.Underscores n word = Err (BadValue n)
with_value s names.Floats n word = Err (BadValue n)
with_value s names.Header n word = Err (BadValue n)
with_value s names.Help n word = Err (BadValue n)

-- whether an option was given before
abbrev pub is_set : Settings → Name → Bool
is_set s names.Column = is_some s.column
is_set s names.Separator = is_some s.separator
is_set s names.Csv = s.csv
is_set s names.Places = is_some s.places
is_set s names.Underscores = s.underscores
is_set s names.Floats = s.floats
is_set s names.Header = s.header
is_set s names.Help = s.help

-- with an option: one without a value is set, another waits for its value
abbrev pub with_option : Settings → Name → Settings
with_option s names.Column = record s { awaits = Some names.Column }
with_option s names.Separator = record s { awaits = Some names.Separator }
with_option s names.Csv = record s { csv = true }
with_option s names.Places = record s { awaits = Some names.Places }
with_option s names.Underscores = record s { underscores = true }
with_option s names.Floats = record s { floats = true }
with_option s names.Header = record s { header = true }
with_option s names.Help = record s { help = true }

-- word n, where an option may be
abbrev pub with_name : Settings → ℕ → Option Name → Result Settings UsageError
with_name s n None = Err (Unknown n)
with_name s n (Some name) = if is_set s name then Err (Twice n) else Ok (with_option s name)

-- word n, which is an option and after a `=` its value
abbrev pub with_both : Settings → ℕ → Option Name → List ℕ → Result Settings UsageError
with_both s n None value = Err (Unknown n)
with_both s n (Some name) value =
    if is_set s name then Err (Twice n) else with_value s name n value

-- word n, with its first `=`
abbrev pub by_equals : Settings → ℕ → List ℕ → Option ℕ → Result Settings UsageError
by_equals s n word None = with_name s n (name_of word)
by_equals s n word (Some at) =
    with_both s n (name_of (take at word)) (drop (at + 1) word)

abbrev pub by_awaits : Option Name → Settings → ℕ → List ℕ → Result Settings UsageError
by_awaits None s n word = by_equals s n word (position (λ byte. byte == 61) word)
by_awaits (Some name) s n word = with_value s name n word

-- with word n
unfoldable pub with_word : Settings → ℕ → List ℕ → Result Settings UsageError
with_word s n word = by_awaits s.awaits s n word

-- ---- what they ask for

abbrev pub column_of : Option ℕ → Option ℕ → Bool → Result (Option Column) UsageError
column_of None None csv = if csv then Err NoCsvColumn else Ok None
column_of None (Some byte) csv = Err NoColumn
column_of (Some n) None csv = Ok (Some (record { number = n; separator = 44; csv = csv }))
column_of (Some n) (Some byte) csv =
    Ok (Some (record { number = n; separator = byte; csv = csv }))

abbrev pub kind_of : Option ℕ → Kind
kind_of None = Integers
kind_of (Some places) = Places places

-- an exact sum
abbrev pub exact_sum : Settings → Option Column → Options
exact_sum s column = record {
  column = column;
  kind = kind_of s.places;
  underscores = s.underscores;
  header = s.header;
}

-- a sum of floats, which have no number of places
abbrev pub float_sum : Settings → Option Column → Option ℕ → Result Request UsageError
float_sum s column None = Ok (Floats (record {
  column = column;
  underscores = s.underscores;
  header = s.header;
}))
float_sum s column (Some places) = Err FloatPlaces

abbrev pub request_of : Settings → Option Column → Result Request UsageError
request_of s column =
    if s.floats then float_sum s column s.places else Ok (Exact (exact_sum s column))

abbrev pub with_kind : Settings → Result (Option Column) UsageError → Result Request UsageError
with_kind s (Ok column) = request_of s column
with_kind s (Err error) = Err error

abbrev pub asked_by : Option Name → Settings → ℕ → Result Request UsageError
asked_by None s n =
    if s.help then Ok Help else with_kind s (column_of s.column s.separator s.csv)
asked_by (Some name) s n = Err (NoValue n)

-- what the settings of n words ask for
unfoldable pub asked_of : Settings → ℕ → Result Request UsageError
asked_of s n = asked_by s.awaits s n

-- the words from the one after n words on
abbrev pub continue : (Settings → Result Request UsageError) → Result Settings UsageError
    → Result Request UsageError
continue rest (Ok s) = rest s
continue rest (Err error) = Err error

abbrev pub read_from : Settings → ℕ → List (List ℕ) → Result Request UsageError
read_from s n [] = asked_of s n
read_from s n (word ∷ words) =
    continue (λ t. read_from t (n + 1) words) (with_word s (n + 1) word)

abbrev pub asked : List (List ℕ) → Result Request UsageError
asked words = read_from no_settings 0 words

-- ---- what is written where they ask for nothing

-- what is allowed
unfoldable pub usage : List ℕ
usage = codes "usage: digit_sum [--column N [--separator C] [--csv]] [--places N | --floats] "
    ++ codes "[--underscores] [--header] [--help]\n"

-- word n
abbrev pub word_at : List (List ℕ) → ℕ → List ℕ
word_at words n = unwrap_or (slice_get words (n - 1)) []

-- what is wrong with it
abbrev pub wrong_word : List (List ℕ) → ℕ → List ℕ → List ℕ
wrong_word words n what =
    (codes "error: argument " ++ decimal n ++ codes ", `") ++ word_at words n
    ++ (codes "`, " ++ what ++ codes "\n")

abbrev pub usage_error : List (List ℕ) → UsageError → List ℕ
usage_error words (Unknown n) = wrong_word words n (codes "is no option")
usage_error words (Twice n) = wrong_word words n (codes "was given before")
usage_error words (NoValue n) = wrong_word words n (codes "has no value")
usage_error words (BadValue n) = wrong_word words n (codes "is no such value")
usage_error words NoColumn = codes "error: a separator without a column\n"
usage_error words NoCsvColumn = codes "error: csv without a column\n"
usage_error words FloatPlaces = codes "error: floats with places\n"

abbrev pub usage_line : List (List ℕ) → UsageError → List ℕ
usage_line words error = usage_error words error ++ usage

-- ---- what is written for `--help`

unfoldable pub help : List ℕ
help = usage
    ++ codes "Adds up the numbers of its input, one a line.\n"
    ++ codes "  --column N     the number is in column N, from 1, and not the whole line\n"
    ++ codes "  --separator C  the byte between two columns, \\t for a tab; otherwise a comma\n"
    ++ codes "  --csv          quotes are read, as in RFC 4180; otherwise a column has none\n"
    ++ codes "  --places N     decimal numbers of at most N places, 0 to 38; otherwise integers\n"
    ++ codes "  --floats       floats: each number and each sum is the nearest one\n"
    ++ codes "  --underscores  one _ may be between two digits\n"
    ++ codes "  --header       the first line is a header, and is passed\n"
    ++ codes "  --help         this text, and no sum\n"
