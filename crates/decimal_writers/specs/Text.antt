-- The text of a decimal number, which is digits times ten to a power.
use Rattle.std.specs.Prelude.{ℕ, zero, suc, ◌+◌, ◌-◌, ◌*◌, ◌/◌, ◌%◌, ◌^◌, if◌then◌else◌, Bool, ◌&&◌, int_le, int_lt, ℤ, pos, negsuc, ◌+ℤ◌, List, [], ◌∷◌, ◌++◌, length, map}
use Rattle.std.specs.Fmt.{sign_text, signed_decimal}
use Rattle.std.specs.Int.Digits.{digits_of}

-- ---- digits

-- the digits of a number of any size, and of 0 a zero
unfoldable pub number_text : ℕ → List ℕ
number_text zero = 48 ∷ []
number_text (suc n) = map (λ digit. 48 + digit) (digits_of 10 (suc n))

-- its last digits, with zeros before them where it has fewer
unfoldable pub last_digits : ℕ → ℕ → List ℕ
last_digits zero n = []
last_digits (suc count) n = last_digits count (n / 10) ++ (48 + n % 10) ∷ []

-- its digits with a point before the last so many: `0.05`
abbrev pub with_point : ℕ → ℕ → List ℕ
with_point zero n = number_text n
with_point (suc more) n = number_text (n / 10 ^ suc more) ++ 46 ∷ last_digits (suc more) n

-- ---- digits times ten to a power

-- how many places follow the point
abbrev pub places_of : ℤ → ℕ
places_of (pos n) = 0
places_of (negsuc n) = n + 1

-- the number in units of its last place
abbrev pub units_of : ℕ → ℤ → ℕ
units_of digits (pos n) = digits * 10 ^ n
units_of digits (negsuc n) = digits

-- the power of ten of its first digit
abbrev pub first_power : ℕ → ℤ → ℤ
first_power digits power = power +ℤ pos (length (number_text digits) - 1)

-- without an exponent: `0.00012`, `1.5`, `12000`
abbrev pub plain_text : Bool → ℕ → ℤ → List ℕ
plain_text negative digits power =
    sign_text negative ++ with_point (places_of power) (units_of digits power)

-- its digits, with a point after the first if there are more
abbrev pub mantissa_text : ℕ → List ℕ
mantissa_text digits = with_point (length (number_text digits) - 1) digits

-- one digit before the point, and an exponent: `1.2e-4`, `1.5e0`, `1e23`
abbrev pub exponent_text : Bool → ℕ → ℤ → List ℕ
exponent_text negative digits power =
    sign_text negative
    ++ (mantissa_text digits ++ 101 ∷ signed_decimal (first_power digits power))

-- the place that a whole number has besides: `12000.0`
abbrev pub zero_place : ℤ → List ℕ
zero_place (pos n) = 46 ∷ 48 ∷ []
zero_place (negsuc n) = []

-- it isn't below 1e-5, and below 1e16
abbrev pub is_plain : ℕ → ℤ → Bool
is_plain digits power =
    int_le (negsuc 4) (first_power digits power) && int_lt (first_power digits power) (pos 16)

-- with one place at least from 1e-5 to below 1e16, and by an exponent else
abbrev pub usual_text : Bool → ℕ → ℤ → List ℕ
usual_text negative digits power =
    if is_plain digits power
    then plain_text negative digits power ++ zero_place power
    else exponent_text negative digits power
