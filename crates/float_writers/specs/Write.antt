-- The shortest decimal of any float, and its text.
use Rattle.std.specs.Prelude.{◌≡◌, ◌⊎◌, ℕ, pos, negsuc, ◌%◌, ◌^◌, ◌<◌, ◌≤◌, ◌≤ℤ◌, Bool, false, IsTrue, List, ◌++◌, length, is_nan, codes, decimal}
use Rattle.std.specs.Float.{Float, Format, float_is_finite, float_is_infinite, float_with_sign, is_sign_negative}
use Rattle.decimal_writers.specs.Text.{plain_text, exponent_text, usual_text}
use Rattle.decimal_writers.specs.declared.room.TheConstants.{FLOAT_ROOM}
use Rattle.float_writers.specs.Decimals.{Reads, HasNoMoreDigits, IsNearer, IsAsNear}
use Rattle.float_writers.specs.declared.decimal.Decimal.{Decimal}
use Rattle.float_writers.specs.declared.write.FloatLayout.{FloatLayout}
use Rattle.float_writers.specs.declared.write.FloatLayout.TheVariants.{Plain, Exponent, Usual}
use Rattle.float_writers.specs.declared.write.FloatTextError.{FloatTextError}
use Rattle.float_writers.specs.declared.write.TheConstants.{PLAIN_ROOM}
use Rattle.float_writers.specs.declared.write.FloatTextError.TheVariants.{NoRoom, Infinite, NaN}

-- of the decimals that read as x, which isn't below zero: none has fewer digits than this one, none
-- with as many is closer, and of two as close this is the one whose last digit is even. It has no
-- zero at its end, and that of 0.0 is 0.
pub record IsShortest (f : Format) (x : Float) (d : Decimal) : Type 0 where
  pub reads : Reads f x d
  pub shortest : (other : Decimal) → Reads f x other → HasNoMoreDigits d other
  pub closest : (other : Decimal) → Reads f x other → HasNoMoreDigits other d
      → (IsNearer x d other) ⊎ (IsAsNear x d other)
  pub even : (other : Decimal) → Reads f x other → HasNoMoreDigits other d → IsAsNear x d other
      → (other.digits ≡ d.digits) ⊎ (d.digits % 2 ≡ 0)
  pub last : d.digits % 10 ≡ 0 → (d.digits ≡ 0) × (d.power ≡ pos 0)

-- the text of a decimal
abbrev pub text_of : FloatLayout → Bool → Decimal → List ℕ
text_of Plain negative d = plain_text negative d.digits d.power
text_of Exponent negative d = exponent_text negative d.digits d.power
text_of Usual negative d = usual_text negative d.digits d.power

-- a text is that of a float: its sign, and the shortest decimal of its size
pub record IsTextOf (f : Format) (x : Float) (layout : FloatLayout) (text : List ℕ) : Type 0 where
  pub finite : IsTrue (float_is_finite x)
  pub written : Decimal
  pub is : text ≡ text_of layout (is_sign_negative x) written
  pub shortest : IsShortest f (float_with_sign false x) written
  pub few : written.digits < 10 ^ 17
  pub least : negsuc 323 ≤ℤ written.power
  pub most : written.power ≤ℤ pos 309

-- so many bytes are enough for the text of each float
abbrev pub HasRoom : FloatLayout → ℕ → Type 0
HasRoom Plain room = PLAIN_ROOM ≤ room
HasRoom Exponent room = FLOAT_ROOM ≤ room
HasRoom Usual room = FLOAT_ROOM ≤ room

-- why a slice of so many bytes has no text of a float
abbrev pub IsReason : Format → Float → FloatLayout → ℕ → FloatTextError → Type 0
IsReason f x layout room (NoRoom needed) =
    (text : List ℕ) × (IsTextOf f x layout text × ((length text ≡ needed) × (room < needed)))
IsReason f x layout room Infinite = IsTrue (float_is_infinite x)
IsReason f x layout room NaN = IsTrue (is_nan x)

-- what is printed of an error
abbrev pub message : FloatTextError → List ℕ
message (NoRoom needed) = codes "the text needs " ++ decimal needed ++ codes " bytes"
message Infinite = codes "an infinity has no text"
message NaN = codes "what is not a number has no text"
