-- The integer literals of a language: what says their word, and what they are worth.
use Rattle.std.specs.Prelude.{ℕ, ℤ, pos, ◌+◌, ◌-◌, ◌==◌, Bool, true, false, ◌&&◌, ◌||◌, nat_lt, if◌then◌else◌, List, ◌++◌, codes, decimal, Option, Some, None, is_some, Result, Ok, Err}
use Rattle.lexical_digits.specs.State.{rule_of}
use Rattle.lexical_digits.specs.declared.skip.component.Component.TheVariants.{Integer}
use Rattle.digit_values.specs.declared.LiteralError.{LiteralError}
use Rattle.digit_values.specs.declared.LiteralError.TheVariants as integers
use Rattle.digit_integers.specs.Integers.{integer_at}
use Rattle.digit_values.specs.Bytes.{has_byte}
use Rattle.digit_languages.specs.declared.language.Language.{Language}
use Rattle.digit_languages.specs.declared.language.FirstZero.{FirstZero}
use Rattle.digit_languages.specs.declared.language.FirstZero.TheVariants.{Plain, Octal, Alone, Zeros}
use Rattle.digit_languages.specs.declared.literal.Literal.{Literal}
use Rattle.digit_languages.specs.declared.literal.LanguageError.{LanguageError}
use Rattle.digit_languages.specs.declared.literal.LanguageError.TheVariants.{Empty, Overflow, Zero}
use Rattle.digit_languages.specs.Words.{octal_of}

abbrev pub word_or : Option ℕ → ℕ → ℕ
word_or None other = other
word_or (Some word) other = word

-- whether a first `0` is refused, by whether more bytes follow it, and a digit that isn't `0`
abbrev pub refused_by : FirstZero → Bool → Bool → Bool
refused_by Plain has_more has_other = false
refused_by (Octal word) has_more has_other = false
refused_by Alone has_more has_other = has_more
refused_by Zeros has_more has_other = has_other

-- an integer's error as one of a language
abbrev pub language_error : LiteralError → LanguageError
language_error (integers.Empty at) = Empty at
language_error (integers.Overflow at) = Overflow at

module _ (l : Language) (text : List ℕ) (start : ℕ) where
  -- `0` and a letter, which may be in upper case where the language says so
  abbrev pub has_prefix : ℕ → Bool
  has_prefix letter =
      has_byte text start 48
      && (has_byte text (start + 1) letter || (l.upper && has_byte text (start + 1) (letter - 32)))

  -- the word that a prefix says
  abbrev pub prefix_word : Option ℕ
  prefix_word =
      if has_prefix 98 then l.binary else
      if has_prefix 111 then l.octal else
      if has_prefix 120 then l.hexadecimal else None

  -- the word of a literal without one
  abbrev pub plain_word : ℕ
  plain_word =
      if has_byte text start 48 then word_or (octal_of l.first_zero) l.decimal else l.decimal

  -- the word by which the literal is read
  abbrev pub word_at : ℕ
  word_at = word_or prefix_word plain_word

  -- where its digits begin
  abbrev pub digits_at : ℕ
  digits_at = if is_some prefix_word then start + 2 else start

  -- whether the language refuses a literal without a prefix for its first `0`
  abbrev pub refuses : Bool → Bool → Bool
  refuses has_more has_other =
      has_byte text start 48 && refused_by l.first_zero has_more has_other

  -- whether it refuses the literal here
  abbrev pub is_refused : Bool → Bool → Bool
  is_refused has_more has_other =
      if is_some prefix_word then false else refuses has_more has_other

  -- Its digits as a literal: their value and where they end, or why there is none. Too large ones
  -- are more than a first `0`, and not all `0`.
  abbrev pub literal_of : Result (ℕ × ℕ) LiteralError → Result Literal LanguageError
  literal_of (Ok (value, end)) =
      if is_refused (nat_lt (start + 1) end) (nat_lt 0 value)
      then Err (Zero start)
      else Ok (record { value = value; word = word_at; digits = digits_at; end = end })
  literal_of (Err (integers.Overflow over)) =
      if is_refused true true then Err (Zero start) else Err (Overflow over)
  literal_of (Err (integers.Empty at)) = Err (Empty at)

  -- the literal that begins here, if its value is at most `most`, or why there is none
  abbrev pub literal_at : ℕ → Result Literal LanguageError
  literal_at most = literal_of (integer_at (rule_of word_at Integer) text digits_at most)

-- a literal's value and where it ends, as a number of a type
abbrev pub typed : Result Literal LanguageError → Result (ℤ × ℕ) LanguageError
typed (Ok read) = Ok (pos read.value, read.end)
typed (Err error) = Err error

-- the position that an error holds
abbrev pub position : LanguageError → ℕ
position (Empty at) = at
position (Overflow at) = at
position (Zero at) = at

-- whether it says that no literal begins at a position
abbrev pub none_at : ℕ → LanguageError → Bool
none_at place (Empty at) = at == place
none_at place (Overflow at) = false
none_at place (Zero at) = false

-- what is printed of an error
abbrev pub message : LanguageError → List ℕ
message (Empty at) = codes "there is no digit at " ++ decimal at
message (Overflow at) = codes "the number is too large with the digit at " ++ decimal at
message (Zero at) = codes "the number has a first 0 at " ++ decimal at
