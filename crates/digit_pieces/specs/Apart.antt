-- Bytes that may be between two numbers, beside those that may be in one.
use Rattle.std.specs.Prelude.{◌≡◌, ℕ, ◌<◌, Bool, true, not, ◌||◌, List, filter}
use Rattle.std.specs.Char.{is_ascii_alphanumeric}
use Rattle.std.specs.List.{list_all, range_with_len}
use Rattle.lexical_digits.specs.ByteSet.{accepts}
use Rattle.digit_literals.specs.declared.list.Gap.{Gap}
use Rattle.digit_floats.specs.Bytes.{is_sign, is_point}
use Rattle.digit_languages.specs.Follows.{separates}
use Rattle.std.specs.Prelude.{Some}

-- whether a byte may be between two numbers
abbrev pub is_between : Gap → ℕ → Bool
is_between gap byte = accepts gap.separators byte || accepts gap.blanks byte

-- the bytes that may be between two numbers
abbrev pub bytes_between : Gap → List ℕ
bytes_between gap = filter (is_between gap) (range_with_len 0 256)

-- whether none of these may be in a number
abbrev pub are_apart : (ℕ → Bool) → Gap → Bool
are_apart has gap = list_all (λ byte. not (has byte)) (bytes_between gap)

-- a byte that may be in a number, and between two
pub record IsShared (has : ℕ → Bool) (gap : Gap) (byte : ℕ) : Type 0 where
  pub is_byte : byte < 256
  pub in_number : has byte ≡ true
  pub between : is_between gap byte ≡ true

-- whether a byte may be in an integer by a word, whatever its radix is: a letter, a digit, a sign,
-- or the separator
abbrev pub is_word_byte : ℕ → ℕ → Bool
is_word_byte word byte =
    is_ascii_alphanumeric byte || is_sign byte || separates (Some word) byte

-- the same of a number with a point
abbrev pub is_pointed_byte : ℕ → ℕ → ℕ → Bool
is_pointed_byte word point byte = is_word_byte word byte || is_point point byte
