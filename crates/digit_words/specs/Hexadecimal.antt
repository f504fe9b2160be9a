-- Eight hexadecimal digits that are read as one word, whose lowest byte is the first of them.
use Rattle.std.specs.Prelude.{◌≡◌, ℕ, zero, suc, ◌+◌, ◌*◌, ◌/◌, ◌%◌, ⊤, Some}
use Rattle.lexical_format.specs.Digits.{digit_of_radix}

-- so many bytes of a word are these digits, from the lowest on
abbrev pub AreSpelt : ℕ → ℕ → ℕ → Type 0
AreSpelt zero word digits = ⊤
AreSpelt (suc n) word digits =
    (digit_of_radix 16 (word % 256) ≡ Some (digits % 256)) × AreSpelt n (word / 256) (digits / 256)

-- the number that so many digits write
abbrev pub hexadecimal : (ℕ → ℕ) → ℕ → ℕ
hexadecimal d zero = 0
hexadecimal d (suc n) = hexadecimal d n * 16 + d n
