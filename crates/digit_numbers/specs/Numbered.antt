-- The form with a number.
use Rattle.std.specs.Prelude.{ℕ, ◌==◌, nat_lt, if◌then◌else◌, Option, None, Some}
use Rattle.digit_numbers.specs.declared.form.Form.{Form}
use Rattle.digit_numbers.specs.declared.forms.TheConstants as forms

-- the form with a number, in five parts
unfoldable pub source_form : ℕ → Option Form
source_form n =
    if n == 0 then Some forms.LITERAL
    else if n == 1 then Some forms.FLOAT
    else if n == 2 then Some forms.RUST
    else if n == 3 then Some forms.C89
    else if n == 4 then Some forms.C99
    else if n == 5 then Some forms.CXX14
    else if n == 6 then Some forms.CXX17
    else if n == 7 then Some forms.JAVA
    else if n == 8 then Some forms.KOTLIN
    else if n == 9 then Some forms.SCALA
    else if n == 10 then Some forms.CSHARP
    else if n == 11 then Some forms.FSHARP
    else if n == 12 then Some forms.GO
    else if n == 13 then Some forms.D
    else if n == 14 then Some forms.SWIFT
    else if n == 15 then Some forms.NIM
    else if n == 16 then Some forms.ADA
    else if n == 17 then Some forms.COBOL
    else if n == 18 then Some forms.FORTRAN
    else None

unfoldable pub script_form : ℕ → Option Form
script_form n =
    if n == 19 then Some forms.PYTHON
    else if n == 20 then Some forms.RUBY
    else if n == 21 then Some forms.PERL
    else if n == 22 then Some forms.PHP
    else if n == 23 then Some forms.LUA
    else if n == 24 then Some forms.R
    else if n == 25 then Some forms.OCTAVE
    else if n == 26 then Some forms.MATLAB
    else if n == 27 then Some forms.ERLANG
    else if n == 28 then Some forms.ELIXIR
    else if n == 29 then Some forms.HASKELL
    else if n == 30 then Some forms.SCHEME
    else if n == 31 then Some forms.OCAML
    else if n == 32 then Some forms.JAVASCRIPT
    else if n == 33 then Some forms.COFFEESCRIPT
    else if n == 34 then Some forms.POSTGRESQL
    else if n == 35 then Some forms.SQLITE
    else if n == 36 then Some forms.MYSQL
    else if n == 37 then Some forms.HCL
    else None

unfoldable pub format_form : ℕ → Option Form
format_form n =
    if n == 38 then Some forms.JSON
    else if n == 39 then Some forms.JSON_FLOATS
    else if n == 40 then Some forms.JSON5
    else if n == 41 then Some forms.YAML
    else if n == 42 then Some forms.TOML
    else if n == 43 then Some forms.EDN
    else if n == 44 then Some forms.CSS
    else if n == 45 then Some forms.DECIMAL
    else if n == 46 then Some forms.XML_DOUBLE
    else if n == 47 then Some forms.PROMETHEUS
    else if n == 48 then Some forms.PROTOBUF_TEXT
    else None

unfoldable pub parse_form : ℕ → Option Form
parse_form n =
    if n == 49 then Some forms.STRTOD
    else if n == 50 then Some forms.FROM_CHARS
    else if n == 51 then Some forms.RUST_PARSE
    else if n == 52 then Some forms.PYTHON_FLOAT
    else if n == 53 then Some forms.JAVA_PARSE_DOUBLE
    else if n == 54 then Some forms.GO_PARSE_FLOAT
    else if n == 55 then Some forms.CSHARP_PARSE
    else None

unfoldable pub take_form : ℕ → Option Form
take_form n =
    if n == 56 then Some forms.RUBY_FLOAT
    else if n == 57 then Some forms.LUA_TONUMBER
    else if n == 58 then Some forms.JAVASCRIPT_NUMBER
    else if n == 59 then Some forms.JAVASCRIPT_PARSE_FLOAT
    else if n == 60 then Some forms.POSTGRESQL_NUMERIC
    else if n == 61 then Some forms.FORTRAN_READ
    else if n == 62 then Some forms.STR2DOUBLE
    else None

unfoldable pub form_of : ℕ → Option Form
form_of n =
    if nat_lt n 19 then source_form n
    else if nat_lt n 38 then script_form n
    else if nat_lt n 49 then format_form n
    else if nat_lt n 56 then parse_form n
    else take_form n
