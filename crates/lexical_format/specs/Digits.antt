-- Which bytes are digits, and of what value.
use Rattle.std.specs.Prelude.{ℕ, ◌-◌, Bool, ◌&&◌, if◌then◌else◌, nat_lt, nat_le, is_some, Option, Some, None}

-- `0` to `9` are 0 to 9, and the letters of either case 10 to 35
unfoldable pub digit_value : ℕ → Option ℕ
digit_value byte =
    if nat_le 48 byte && nat_le byte 57 then Some (byte - 48) else
    if nat_le 65 byte && nat_le byte 90 then Some (byte - 55) else
    if nat_le 97 byte && nat_le byte 122 then Some (byte - 87) else None

-- a value, where it is below the radix
abbrev pub value_below : ℕ → Option ℕ → Option ℕ
value_below radix None = None
value_below radix (Some value) = if nat_lt value radix then Some value else None

-- the value of a digit of that radix
abbrev pub digit_of_radix : ℕ → ℕ → Option ℕ
digit_of_radix radix byte = value_below radix (digit_value byte)

-- whether a byte is a digit of a radix
abbrev pub is_digit_of_radix : ℕ → ℕ → Bool
is_digit_of_radix radix byte = is_some (digit_of_radix radix byte)
