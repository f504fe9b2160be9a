-- A number of JSON as an integer of 64 bits, or as a float.
use Rattle.std.specs.Prelude.{◌≡◌, ℕ, ◌-◌, ◌^◌, List, Some, None, Ok}
use Rattle.std.specs.Float.Ieee.{Float}
use Rattle.digits.specs.Forms.{JSON}
use Rattle.digits.specs.Words.{Number, binary64, float_in, integer_in, number_of_at, with_value}
use Rattle.digit_uses.specs.declared.values.Value.{Value}
use Rattle.digit_uses.specs.declared.values.Value.TheVariants as values

-- the integer if an `i64` has it, otherwise the nearest float
abbrev pub IsValueOf : Number Float → Value → Type 0
IsValueOf n (values.Integer i) = integer_in (2 ^ 63) (2 ^ 63 - 1) n ≡ Some i
IsValueOf n (values.Float x) =
    (integer_in (2 ^ 63) (2 ^ 63 - 1) n ≡ None) × (x ≡ float_in binary64 (λ x. x) n)

-- the value of the number that begins here
pub record IsValue (text : List ℕ) (start : ℕ) (value : Value) (end : ℕ) : Type 0 where
  pub n : Number Float
  pub number : number_of_at JSON text start binary64 ≡ Ok (with_value (λ x. x) n, end)
  pub is : IsValueOf n value
