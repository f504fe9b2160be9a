-- The digits of a number in a radix, as bytes.
use Rattle.std.specs.Prelude.{ℕ, zero, suc, ◌/◌, ◌%◌, Bool, false, List, [], ◌∷◌, ◌++◌}
use Rattle.std.specs.Fmt.{digit_glyph}

-- so many of its digits, up to the last one: before that of the rest are those of the quotient
unfoldable pub last_digits : ℕ → Bool → ℕ → ℕ → List ℕ
last_digits radix upper zero n = []
last_digits radix upper (suc count) n =
    last_digits radix upper count (n / radix) ++ (digit_glyph upper (n % radix) ∷ [])

abbrev pub last_decimals : ℕ → ℕ → List ℕ
last_decimals count n = last_digits 10 false count n
