-- Integer literals of a language, as C has them.
use Rattle.std.specs.Prelude.{ℕ, ℤ, ◌==◌, ◌%◌, ◌/◌, ◌-◌, ◌^◌, if◌then◌else◌, List, Option, None, Some, Result, Ok, Err}
use Rattle.lexical_format.specs.Word.{mantissa_radix}
use Rattle.digits.specs.Languages as languages
use Rattle.digits.specs.Words.{LanguageError, Literal, literal_at, typed}
use Rattle.digit_languages.specs.declared.language.Language.{Language}
use Rattle.digits_c.specs.declared.outcome.Outcome.{Outcome}
use Rattle.digits_c.specs.declared.outcome.TheConstants.{BAD_LANGUAGE}
use Rattle.digits_c.specs.declared.literals.LiteralParts.{LiteralParts}
use Rattle.digits_c.specs.Outcomes.{fault, language_fault}
use Rattle.digits_c.specs.Calls.{or_fault, within}

-- the language with a number
unfoldable pub language_of : ℕ → Option Language
language_of n =
    if n == 0 then Some languages.RUST
    else if n == 1 then Some languages.CXX14
    else if n == 2 then Some languages.PYTHON
    else if n == 3 then Some languages.GO
    else if n == 4 then Some languages.JAVA
    else if n == 5 then Some languages.CSHARP
    else if n == 6 then Some languages.JAVASCRIPT
    else if n == 7 then Some languages.KOTLIN
    else if n == 8 then Some languages.SWIFT
    else if n == 9 then Some languages.RUBY
    else if n == 10 then Some languages.PERL
    else if n == 11 then Some languages.PHP
    else if n == 12 then Some languages.JULIA
    else if n == 13 then Some languages.OCAML
    else if n == 14 then Some languages.FSHARP
    else if n == 15 then Some languages.HASKELL
    else if n == 16 then Some languages.ZIG
    else if n == 17 then Some languages.ELIXIR
    else if n == 18 then Some languages.TOML
    else if n == 19 then Some languages.JSON_NUMBER
    else if n == 20 then Some languages.DIGITS
    else if n == 21 then Some languages.HEX_DIGITS
    else if n == 22 then Some languages.C
    else if n == 23 then Some languages.SCALA
    else if n == 24 then Some languages.ERLANG
    else if n == 25 then Some languages.D
    else None

-- a literal in its parts
abbrev pub parts_of : Literal → LiteralParts
parts_of l = record {
  low = l.value % 2 ^ 64;
  high = l.value / 2 ^ 64;
  digits = l.digits;
  radix = mantissa_radix l.word;
}

abbrev pub no_parts : LiteralParts
no_parts = record { low = 0; high = 0; digits = 0; radix = 0 }

abbrev pub with_parts : Result Literal LanguageError → Result (LiteralParts × ℕ) LanguageError
with_parts (Ok l) = Ok (parts_of l, l.end)
with_parts (Err error) = Err error

module _ (text : List ℕ) (start : ℕ) where
  abbrev pub literal_by : Option Language → Result (LiteralParts × ℕ) Outcome
  literal_by None = Err (fault BAD_LANGUAGE start)
  literal_by (Some l) = within text start
      (or_fault language_fault (with_parts (literal_at l text start (2 ^ 128 - 1))))

  abbrev pub u64_by : Option Language → Result (ℤ × ℕ) Outcome
  u64_by None = Err (fault BAD_LANGUAGE start)
  u64_by (Some l) = within text start
      (or_fault language_fault (typed (literal_at l text start (2 ^ 64 - 1))))

-- the literal at a start, and where it ends
abbrev pub literal_from : ℕ → List ℕ → ℕ → Result (LiteralParts × ℕ) Outcome
literal_from number text start = literal_by text start (language_of number)

abbrev pub u64_from : ℕ → List ℕ → ℕ → Result (ℤ × ℕ) Outcome
u64_from number text start = u64_by text start (language_of number)
