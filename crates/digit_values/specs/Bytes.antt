-- Bytes of a text, beside its numbers.
use Rattle.std.specs.Prelude.{◌≡◌, ℕ, ◌<◌, ◌+◌, ◌==◌, ◌||◌, nat_le, if◌then◌else◌, Bool, List, length, drop, take_while, Result, Ok, Err, slice_get}
use Rattle.std.specs.Char.{is_ascii_alphanumeric}
use Rattle.std.specs.List.{starts_with}
use Rattle.lexical_digits.specs.ByteSet.{accepts}
use Rattle.lexical_digits.specs.declared.ops.ByteSet.{ByteSet}
use Rattle.lexical_digits.specs.Cursor.{holds_of}

-- whether a byte is at a position
abbrev pub has_byte : List ℕ → ℕ → ℕ → Bool
has_byte text at byte = holds_of (λ there. there == byte) (slice_get text at)

-- a set has the bytes that pass a test, and no other
pub record HasBytes (set : ByteSet) (test : ℕ → Bool) : Type 0 where
  pub has : (byte : ℕ) → byte < 256 → accepts set byte ≡ test byte

-- whether a byte may be part of a name
abbrev pub is_name_byte : ℕ → Bool
is_name_byte byte = is_ascii_alphanumeric byte || byte == 95 || nat_le 128 byte

module _ (text : List ℕ) (at : ℕ) where
  -- the position after a byte that is to be here, or else this one
  abbrev pub expect_byte : ℕ → Result ℕ ℕ
  expect_byte byte = if has_byte text at byte then Ok (at + 1) else Err at

  -- whether these bytes begin here
  abbrev pub has_bytes : List ℕ → Bool
  has_bytes bytes = starts_with (λ a b. a == b) (drop at text) bytes

  -- the position after bytes that are to begin here, or else this one
  abbrev pub expect_bytes : List ℕ → Result ℕ ℕ
  expect_bytes bytes = if has_bytes bytes then Ok (at + length bytes) else Err at

  -- the first position from here on whose byte isn't in a set, or the length
  unfoldable pub past_bytes : ByteSet → ℕ
  past_bytes set = at + length (take_while (accepts set) (drop at text))

  -- where the bytes of a name end that begin here
  unfoldable pub name_end : ℕ
  name_end = at + length (take_while is_name_byte (drop at text))
