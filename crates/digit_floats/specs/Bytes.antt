-- The byte at a position.
use Rattle.std.specs.Prelude.{ℕ, Bool, ◌==◌, ◌||◌, List, slice_get}
use Rattle.std.specs.Char.{to_ascii_uppercase}
use Rattle.lexical_digits.specs.Cursor.{holds_of}

-- whether the byte at a position passes a test
abbrev pub stands : (ℕ → Bool) → List ℕ → ℕ → Bool
stands p text at = holds_of p (slice_get text at)

-- the point
abbrev pub is_point : ℕ → ℕ → Bool
is_point point byte = byte == point

-- the mark of an exponent; of a letter in lower case, the upper case too
abbrev pub is_mark : ℕ → ℕ → Bool
is_mark mark byte = byte == mark || byte == to_ascii_uppercase mark

-- `+` and `-`
abbrev pub is_sign : ℕ → Bool
is_sign byte = byte == 43 || byte == 45

-- `-`
abbrev pub is_minus : ℕ → Bool
is_minus byte = byte == 45
