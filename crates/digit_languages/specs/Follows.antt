-- Two texts with the same bytes before a position where a literal ends, whatever follows.
use Rattle.std.specs.Prelude.{◌≡◌, ℕ, ◌≤◌, Bool, false, not, ◌==◌, ◌&&◌, ◌||◌, List, length, take, slice_get, Option, Some, None}
use Rattle.std.specs.Char.{is_ascii_alphanumeric}
use Rattle.lexical_format.specs.Word.{separator}
use Rattle.lexical_digits.specs.Cursor.{holds_of}
use Rattle.digit_languages.specs.declared.language.Language.{Language}
use Rattle.digit_languages.specs.Words.{octal_of}

-- two texts are the same up to a position, where each ends or has a byte that doesn't pass
pub record AreSameBefore (p : ℕ → Bool) (one other : List ℕ) (at : ℕ) : Type 0 where
  pub same : take at one ≡ take at other
  pub one_within : at ≤ length one
  pub other_within : at ≤ length other
  pub one_ends : holds_of p (slice_get one at) ≡ false
  pub other_ends : holds_of p (slice_get other at) ≡ false

-- whether a byte is the separator of a word, if there is one
abbrev pub separates : Option ℕ → ℕ → Bool
separates None byte = false
separates (Some word) byte = not (separator word == 0) && (byte == separator word)

-- whether a byte may be in a literal of a language: a letter, a digit or a separator
abbrev pub is_literal_byte : Language → ℕ → Bool
is_literal_byte l byte =
    is_ascii_alphanumeric byte || separates (Some l.decimal) byte || separates l.binary byte
    || separates l.octal byte || separates l.hexadecimal byte
    || separates (octal_of l.first_zero) byte
