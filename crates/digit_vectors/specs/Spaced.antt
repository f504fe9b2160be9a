-- What a `Spaced` means: a cursor over a text in which spaces are passed over.
use Rattle.std.specs.Prelude.{◌≡◌, ℕ, ◌+◌, ◌-◌, ◌≤◌, ◌^◌, min, ◌==◌, ◌&&◌, not, Bool, if◌then◌else◌, nat_le, List, length, drop, filter, slice_get, Option}
use Rattle.std.specs.List.{prefix_len}
use Rattle.lexical_digits.specs.Cursor.{holds_of, items}
pub mod Laws

-- ---- a meaning

-- the text, the cursor, and how many digits were counted
pub record Meaning : Type 0 where
  pub buffer : List ℕ
  pub cursor : ℕ
  pub count : ℕ

-- the meanings that values have
abbrev pub IsWithin : Meaning → Type 0
IsWithin m = m.cursor ≤ length m.buffer

-- what a value holds
pub record Held : Type 0 where
  pub state : Meaning
  pub holds : IsWithin state

abbrev pub start : List ℕ → Meaning
start buffer = record { buffer = buffer; cursor = 0; count = 0 }

-- ---- its bytes

abbrev pub is_space : ℕ → Bool
is_space b = b == 32

-- `0` to `9`
abbrev pub is_digit : ℕ → Bool
is_digit b = nat_le 48 b && nat_le b 57

-- the bytes from the cursor on
abbrev pub rest : Meaning → List ℕ
rest m = drop m.cursor m.buffer

-- those of them that are no spaces
abbrev pub kept : Meaning → List ℕ
kept m = filter (λ b. not (is_space b)) (rest m)

-- how many spaces come first
abbrev pub spaces : Meaning → ℕ
spaces m = prefix_len is_space (rest m)

-- the first position from the cursor on that holds no space, or the length
abbrev pub place : Meaning → ℕ
place m = m.cursor + spaces m

-- ---- what each call leaves

-- `set_cursor`
abbrev pub moved : Meaning → ℕ → Meaning
moved m i = record m { cursor = i }

-- `peek` goes to the place
abbrev pub settled : Meaning → Meaning
settled m = moved m (place m)

-- one more, up to `usize::MAX`
abbrev pub raised : ℕ → ℕ
raised count = min (count + 1) (2 ^ 64 - 1)

-- `increment_count`
abbrev pub counted : Meaning → Meaning
counted m = record m { count = raised m.count }

-- `next`, where the place is i, goes one past it, but not past the end, and counts a digit there
abbrev pub taken_from : Meaning → ℕ → Meaning
taken_from m i = record m {
  cursor = min (i + 1) (length m.buffer);
  count = if holds_of is_digit (slice_get m.buffer i) then raised m.count else m.count;
}

abbrev pub taken : Meaning → Meaning
taken m = taken_from m (place m)

-- A call of `next` from s to t: it answers the byte at the place and leaves `taken`.
pub record Nexts (s : Meaning) (result : Option ℕ) (t : Meaning) : Type 0 where
  pub byte : result ≡ slice_get s.buffer (place s)
  pub takes : t ≡ taken s

-- the bytes that `next` answers until None
abbrev pub items_of : Meaning → List ℕ
items_of = items (λ m. m.buffer) (λ m. m.cursor) place taken
