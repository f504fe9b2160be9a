-- What the bytes of a number add to a sum.
use Rattle.std.specs.Prelude.{ℕ, unwrap_or}
use Rattle.lexical_format.specs.Digits.{digit_of_radix}

-- the value of a digit of that radix, and 0 of every other byte
abbrev pub worth : ℕ → ℕ → ℕ
worth radix byte = unwrap_or (digit_of_radix radix byte) 0
