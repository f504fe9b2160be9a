-- A window's size and place, as `1920x1080+0+24`.
use Rattle.std.specs.Prelude.{ℕ, ◌+◌, ◌-◌, ◌^◌, if◌then◌else◌, List, Result, Ok, Err}
use Rattle.std.specs.Result.{result_map_both}
use Rattle.digits.specs.LiteralErrors as literals
use Rattle.digits.specs.ParseErrors as wholes
use Rattle.digits.specs.Words.{Integer, LiteralError, ParseError, STANDARD, has_byte, integer_at, rule_of, to_end}
use Rattle.digit_uses.specs.declared.geometry.Geometry.{Geometry}
use Rattle.digit_uses.specs.declared.geometry.GeometryError.{GeometryError}
use Rattle.digit_uses.specs.declared.geometry.GeometryError.TheVariants.{NoDigit, TooLarge, Byte}

infixl 10 ◌>>=◌
abbrev pub ◌>>=◌ : {A B : Type 0} → Result A GeometryError → (A → Result B GeometryError)
    → Result B GeometryError
(Ok x) >>= f = f x
(Err e) >>= f = Err e

abbrev pub no_number : LiteralError → GeometryError
no_number (literals.Empty at) = NoDigit at
no_number (literals.Overflow at) = TooLarge at

abbrev pub no_last : ParseError → GeometryError
no_last (wholes.Empty at) = NoDigit at
no_last (wholes.Invalid at) = Byte at
no_last (wholes.Overflow at) = TooLarge at

module _ (text : List ℕ) where
  -- a number of 16 bits
  abbrev pub number : ℕ → Result (ℕ × ℕ) LiteralError
  number start = integer_at (rule_of STANDARD Integer) text start (2 ^ 16 - 1)

  -- what was read, if this byte follows it
  abbrev pub followed_by : ℕ → Result (ℕ × ℕ) LiteralError → Result (ℕ × ℕ) GeometryError
  followed_by mark (Ok (value, end)) =
      if has_byte text end mark then Ok (value, end + 1) else Err (Byte end)
  followed_by mark (Err error) = Err (no_number error)

  -- a field, and the position after the byte that follows it
  unfoldable pub field_at : ℕ → ℕ → Result (ℕ × ℕ) GeometryError
  field_at start mark = followed_by mark (number start)

  -- the last field
  abbrev pub last_at : ℕ → Result ℕ GeometryError
  last_at start = result_map_both (λ value. value) no_last (to_end text (number start))

  abbrev pub geometry_of : Result Geometry GeometryError
  geometry_of = do
    width ← field_at 0 120
    height ← field_at width.1 43
    x ← field_at height.1 43
    y ← last_at x.1
    Ok (record { width = width.0; height = height.0; x = x.0; y = y })
