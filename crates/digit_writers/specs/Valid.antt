-- Which layouts there are.
use Rattle.std.specs.Prelude.{ℕ, ◌==◌, ◌&&◌, ◌||◌, not, nat_lt, nat_le, Bool}
use Rattle.lexical_format.specs.Digits.{is_digit_of_radix}

-- a radix has digits, and a byte is none of them, nor 0; if there are no groups, any byte serves
abbrev pub is_layout : ℕ → ℕ → ℕ → Bool
is_layout radix separator every =
    nat_le 2 radix && nat_le radix 36
    && (every == 0 || (nat_lt 0 separator && not (is_digit_of_radix radix separator)))
