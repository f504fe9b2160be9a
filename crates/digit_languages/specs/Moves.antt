-- A literal of a language, and why there is none, with positions that count from another start.
use Rattle.std.specs.Prelude.{ℕ, ◌+◌, Result, Ok, Err}
use Rattle.digit_languages.specs.declared.literal.Literal.{Literal}
use Rattle.digit_languages.specs.declared.literal.LanguageError.{LanguageError}
use Rattle.digit_languages.specs.declared.literal.LanguageError.TheVariants.{Empty, Overflow, Zero}

-- an error with its position so much later
abbrev pub language_later : ℕ → LanguageError → LanguageError
language_later by (Empty at) = Empty (by + at)
language_later by (Overflow at) = Overflow (by + at)
language_later by (Zero at) = Zero (by + at)

-- a literal, or why there is none, with positions so much later
abbrev pub read_later : ℕ → Result Literal LanguageError → Result Literal LanguageError
read_later by (Ok read) = Ok (record read { digits = by + read.digits; end = by + read.end })
read_later by (Err error) = Err (language_later by error)
