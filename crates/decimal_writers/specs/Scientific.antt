-- The text of a float with one digit before the point, so many after it, and an exponent.
use Rattle.std.specs.Prelude.{ℕ, ◌+◌, ◌-◌, ◌*◌, ◌/◌, ◌^◌, ◌==◌, nat_lt, max, if◌then◌else◌, ℤ, pos, negsuc, ◌+ℤ◌, ◌-ℤ◌, unsigned_abs, List, [], ◌∷◌, ◌++◌, length}
use Rattle.std.specs.Float.{Float, nan, inf, fin}
use Rattle.std.specs.Float.Ieee.{up, down}
use Rattle.std.specs.Fmt.{sign_text, signed_decimal}
use lib.Ieee.Nearest.{closest}
use Rattle.decimal_writers.specs.Text.{number_text, last_digits, with_point}
use Rattle.decimal_writers.specs.declared.exponent.ExponentText.{ExponentText}
use Rattle.decimal_writers.specs.declared.exponent.ExponentText.TheVariants.{Short, Signed}

-- ---- a number a / b

-- The power of ten of its first digit, if it is above 0: one less than its whole part has digits.
-- Below 1 it is minus the least k for which (b - 1) / a is below 10 ^ k, and so a / b no less than
-- 1 / 10 ^ k; `negsuc (k - 1)` is -k.
abbrev pub first_of : ℕ → ℕ → ℤ
first_of a b =
    if nat_lt a b
    then negsuc (length (number_text ((b - 1) / a)) - 1)
    else pos (length (number_text (a / b)) - 1)

-- in units of a power of ten, to the nearest whole number and at a tie to the even one
abbrev pub units_in : ℤ → ℕ → ℕ → ℕ
units_in (pos n) a b = closest a (b * 10 ^ n)
units_in (negsuc n) a b = closest (a * 10 ^ (n + 1)) b

-- where rounding made one digit more, as of 9.96 with one place, it is 10.0, and the power goes up
abbrev pub carried : ℕ → ℕ → ℤ → ℕ × ℤ
carried places units first =
    if units == 10 ^ (places + 1) then (10 ^ places, first +ℤ pos 1) else (units, first)

-- its digits, one and so many places, and the power of ten of the first one
abbrev pub rounded : ℕ → ℕ → ℕ → ℕ × ℤ
rounded places a b =
    if a == 0 then (0, pos 0)
    else carried places (units_in (first_of a b -ℤ pos places) a b) (first_of a b)

-- ---- its text

abbrev pub sign_of : ℤ → ℕ
sign_of (pos n) = 43
sign_of (negsuc n) = 45

-- `e-7`, or with a sign and two digits at least `e-07`
abbrev pub mark_text : ExponentText → ℤ → List ℕ
mark_text Short power = 101 ∷ signed_decimal power
mark_text Signed power =
    101 ∷ sign_of power
    ∷ last_digits (max (length (number_text (unsigned_abs power))) 2) (unsigned_abs power)

abbrev pub scientific_text : Float → ℕ → ExponentText → List ℕ
scientific_text nan places style = []
scientific_text (inf negative) places style = []
scientific_text (fin negative significand exponent) places style =
    let number = rounded places (significand * up exponent) (down exponent) in
    sign_text negative ++ (with_point places number.0 ++ mark_text style number.1)

-- the power of ten of the first of so many digits, of which the last so many are places; of 0 it
-- is 0
abbrev pub power_of : ℕ → ℕ → ℤ
power_of len places = if len == 0 then pos 0 else pos len -ℤ pos (places + 1)
