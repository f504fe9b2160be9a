-- What a format word says, by its bits.
use Rattle.std.specs.Prelude.{ℕ, ◌*◌, ◌/◌, ◌%◌, ◌^◌, Bool, not, ◌&&◌, if◌then◌else◌, nat_le, ◌==◌}
use Rattle.lexical_format.specs.Digits.{is_digit_of_radix}

-- the number in `count` bits, of which `from` is the lowest
abbrev pub bits : ℕ → ℕ → ℕ → ℕ
bits word from count = (word / 2 ^ from) % 2 ^ count

-- whether a bit of a word is set
abbrev pub bit : ℕ → ℕ → Bool
bit word place = bits word place 1 == 1

-- the separator byte of a word; zero means that there is none
abbrev pub separator : ℕ → ℕ
separator word = bits word 64 8

-- the radix of the digits of all components but the exponent
abbrev pub mantissa_radix : ℕ → ℕ
mantissa_radix word = bits word 104 8

-- a zero stands for the mantissa radix
abbrev pub exponent_radix : ℕ → ℕ
exponent_radix word = if bits word 120 8 == 0 then mantissa_radix word else bits word 120 8

-- the thirteen flags, in place
abbrev pub separator_flags : ℕ → ℕ
separator_flags word = bits word 32 13 * 2 ^ 32

-- a radix serves beside a separator: it has digits, and the separator is none of them
abbrev pub serves : ℕ → ℕ → Bool
serves radix separator =
    nat_le 2 radix && nat_le radix 36 && not (is_digit_of_radix radix separator)

-- each of the two radixes serves beside the separator
abbrev pub is_supported : ℕ → Bool
is_supported word =
    serves (mantissa_radix word) (separator word) && serves (exponent_radix word) (separator word)
