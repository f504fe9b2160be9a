-- The text of a float isn't empty.
use Rattle.std.proofs.Common.{◌≡◌, ℕ, ℤ, zero, suc, ◌-◌, ◌/◌, ◌^◌, ◌<◌, Bool, true, false, List, ◌∷◌, ◌++◌, length, ap, arith, length-append}
use Rattle.std.specs.Prelude.{if◌then◌else◌}
use Rattle.std.specs.Float.{Float, Format, is_sign_negative}
use Rattle.std.specs.Fmt.{sign_text, signed_decimal}
use Rattle.decimal_writers.specs.Text.{number_text, last_digits, with_point, places_of, units_of, first_power, plain_text, mantissa_text, exponent_text, zero_place, is_plain, usual_text}
use Rattle.decimal_writers.proofs.Numerals.{some_digits}
use Rattle.float_writers.specs.declared.decimal.Decimal.{Decimal}
use Rattle.float_writers.specs.declared.write.FloatLayout.TheVariants.{Plain, Exponent, Usual}
use Rattle.digits.specs.Words.{FloatLayout, IsTextOf, text_of}

point_some : (places n : ℕ) → 0 < length (with_point places n)
point_some zero n = some_digits n
point_some (suc more) n =
    omega (
      arith,
      length-append (number_text (n / 10 ^ suc more)) (46 ∷ last_digits (suc more) n),
      some_digits (n / 10 ^ suc more),
    )

module _ (negative : Bool) (digits : ℕ) (power : ℤ) where
  plain_some : 0 < length (plain_text negative digits power)
  plain_some =
      omega (
        arith,
        length-append (sign_text negative) (with_point (places_of power) (units_of digits power)),
        point_some (places_of power) (units_of digits power),
      )

  exponent_some : 0 < length (exponent_text negative digits power)
  exponent_some =
      let places = length (number_text digits) - 1 in
      let ends = 101 ∷ signed_decimal (first_power digits power) in
      omega (
        arith,
        length-append (sign_text negative) (mantissa_text digits ++ ends),
        length-append (mantissa_text digits) ends,
        point_some places digits,
      )

  usual_some : 0 < length (usual_text negative digits power)
  usual_some = by (is_plain digits power)
    where
      by : (plain : Bool) → 0 < length (if plain then plain_text negative digits power
          ++ zero_place power else exponent_text negative digits power)
      by true =
          omega (
            arith,
            length-append (plain_text negative digits power) (zero_place power),
            plain_some,
          )
      by false = exponent_some

text_some : (layout : FloatLayout) (negative : Bool) (d : Decimal)
    → 0 < length (text_of layout negative d)
text_some Plain negative d = plain_some negative d.digits d.power
text_some Exponent negative d = exponent_some negative d.digits d.power
text_some Usual negative d = usual_some negative d.digits d.power

-- so no text of a float has no byte
pub never_empty : (f : Format) (x : Float) (layout : FloatLayout) (text : List ℕ)
    → IsTextOf f x layout text → length text ≡ 0 → ⊥
never_empty f x layout text is none =
    omega (arith, ap length is.is, none, text_some layout (is_sign_negative x) is.written)
