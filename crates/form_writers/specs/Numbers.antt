-- What is written of a number by a form.
use Rattle.std.specs.Prelude.{◌≡◌, ℕ, pos, negsuc, ◌*◌, ◌^◌, ◌-ℤ◌, ◌<◌, ◌≤ℤ◌, false, IsTrue, List, ◌++◌, length, Ok, codes, decimal}
use Rattle.std.specs.Float.{Float, Format, float_is_finite, float_with_sign, is_sign_negative}
use Rattle.std.specs.Float.Ieee.{round}
use Rattle.std.specs.Fmt.{sign_text}
use Rattle.digit_numbers.specs.Numbers.{number_of_at, to_end}
use Rattle.digit_numbers.specs.declared.form.Form.{Form}
use Rattle.digit_numbers.specs.declared.number.Number.{Number}
use Rattle.digit_numbers.specs.declared.number.Number.TheVariants as numbers
use Rattle.decimal_writers.specs.Text.{plain_text, exponent_text, usual_text}
use Rattle.float_writers.specs.Write.{IsShortest}
use Rattle.float_writers.specs.declared.decimal.Decimal.{Decimal}
use Rattle.form_writers.specs.declared.error.FormTextError.{FormTextError}
use Rattle.form_writers.specs.declared.error.FormTextError.TheVariants.{NoRoom, NoNumber}

-- what is read is what was written: of an integer its sign and magnitude, whatever the word, or by
-- a form of which all digits are floats the float nearest to it; and the float itself
abbrev pub IsSame : Format → Number Float → Number Float → Type 0
IsSame f (numbers.Integer negative magnitude word) (numbers.Integer minus value said) =
    (minus ≡ negative) × (value ≡ magnitude)
IsSame f (numbers.Integer negative magnitude word) (numbers.Float x) =
    x ≡ round f negative magnitude 1
IsSame f (numbers.Float x) (numbers.Integer minus value said) = ⊥
IsSame f (numbers.Float x) (numbers.Float y) = y ≡ x

-- a text is a number of a form, to its end, and this one
pub record IsNumberOf (form : Form) (f : Format) (number : Number Float) (text : List ℕ) : Type 0
  where
    pub read : Number Float
    pub is : to_end text (number_of_at form text 0 f) ≡ Ok read
    pub same : IsSame f number read

-- ---- why there is none

-- of a finite float: no text of its shortest decimal is one, neither the usual one nor that with a
-- point and an exponent nor that without an exponent
pub record HasNoText (form : Form) (f : Format) (x : Float) : Type 0 where
  pub d : Decimal
  pub shortest : IsShortest f (float_with_sign false x) d
  pub few : d.digits < 10 ^ 17
  pub least : negsuc 323 ≤ℤ d.power
  pub most : d.power ≤ℤ pos 309
  pub usual : IsNumberOf form f (numbers.Float x)
      (usual_text (is_sign_negative x) d.digits d.power) → ⊥
  pub pointed : IsNumberOf form f (numbers.Float x)
      (exponent_text (is_sign_negative x) (d.digits * 10) (d.power -ℤ pos 1)) → ⊥
  pub plain : IsNumberOf form f (numbers.Float x)
      (plain_text (is_sign_negative x) d.digits d.power) → ⊥

abbrev pub HasNone : Form → Format → Number Float → Type 0
HasNone form f (numbers.Integer negative magnitude word) =
    IsNumberOf form f (numbers.Integer negative magnitude word)
    (sign_text negative ++ decimal magnitude) → ⊥
HasNone form f (numbers.Float x) = IsTrue (float_is_finite x) → HasNoText form f x

-- why a slice of so many bytes has no text of a number
abbrev pub IsReason : Form → Format → Number Float → ℕ → FormTextError → Type 0
IsReason form f number room (NoRoom needed) =
    (text : List ℕ) × (IsNumberOf form f number text × ((length text ≡ needed) × (room < needed)))
IsReason form f number room NoNumber = HasNone form f number

-- what is printed of an error
abbrev pub message : FormTextError → List ℕ
message (NoRoom needed) = codes "the text needs " ++ decimal needed ++ codes " bytes"
message NoNumber = codes "the form has no such number"
