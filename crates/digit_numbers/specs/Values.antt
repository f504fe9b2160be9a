-- What a number is as a value of a type of integers, and as a float; what an error says.
use Rattle.std.specs.Prelude.{ℕ, ℤ, ◌==◌, Bool, false, if◌then◌else◌, nat_le, Option, Some, None, ⊤}
use Rattle.std.specs.Prelude.{List, ◌++◌, codes, decimal}
use Rattle.std.specs.Float.{Float, Format, NotNan}
use Rattle.std.specs.Float.Ieee.{round}
use Rattle.digit_integers.specs.Numbers.{signed}
use Rattle.digit_numbers.specs.declared.number.Number.{Number}
use Rattle.digit_numbers.specs.declared.number.Number.TheVariants as numbers
use Rattle.digit_numbers.specs.declared.number.NumberError.{NumberError}
use Rattle.digit_numbers.specs.declared.number.NumberError.TheVariants as errors

-- an integer from `- least` to `most`
abbrev pub integer_in : ℕ → ℕ → {T : Type 0} → Number T → Option ℤ
integer_in least most (numbers.Integer negative magnitude word) =
    if nat_le magnitude (if negative then least else most) then Some (signed negative magnitude)
    else None
integer_in least most (numbers.Float x) = None

-- the float, or that nearest to the integer
abbrev pub float_in : Format → {T : Type 0} → (T → Float) → Number T → Float
float_in format value (numbers.Integer negative magnitude word) =
    round format negative magnitude 1
float_in format value (numbers.Float x) = value x

-- its float in std's word
abbrev pub with_value : {T : Type 0} → (T → Float) → Number T → Number Float
with_value value (numbers.Integer negative magnitude said) =
    numbers.Integer negative magnitude said
with_value value (numbers.Float x) = numbers.Float (value x)

-- it isn't NaN
abbrev pub IsNoNan : {T : Type 0} → (T → Float) → Number T → Type 0
IsNoNan value (numbers.Integer negative magnitude said) = ⊤
IsNoNan value (numbers.Float x) = NotNan (value x)

-- ---- an error

abbrev pub position : NumberError → ℕ
position (errors.Empty at) = at
position (errors.Overflow at) = at
position (errors.Invalid at) = at

-- whether it says that no number begins at a position
abbrev pub none_at : ℕ → NumberError → Bool
none_at place (errors.Empty at) = at == place
none_at place (errors.Overflow at) = false
none_at place (errors.Invalid at) = false

-- what is printed of it
abbrev pub message : NumberError → List ℕ
message (errors.Empty at) = codes "there is no number at " ++ decimal at
message (errors.Overflow at) = codes "the number is too large with the digit at " ++ decimal at
message (errors.Invalid at) =
    codes "the byte at " ++ decimal at ++ codes " is no part of the number"
