-- The significant digits of a number: those from the first on that is no zero.
use Rattle.std.specs.Prelude.{◌≡◌, ℕ, ◌-◌, ◌==◌, List, length, take, drop}
use Rattle.std.specs.List.{prefix_len}
use Rattle.std.specs.Str.Parse.{AllDigits, digits_value}

unfoldable pub significant : List ℕ → List ℕ
significant digits = drop (prefix_len (λ d. d == 48) digits) digits

-- the value of the first n significant digits, and how many more there are
pub record IsOfFirstDigits (radix n : ℕ) (digits : List ℕ) (value more : ℕ) : Type 0 where
  pub digits_all : AllDigits radix digits
  pub is : value ≡ digits_value radix (take n (significant digits))
  pub after : more ≡ length (significant digits) - n
