-- Which number is at a position, and where it ends, doesn't depend on the float's format.
use Rattle.std.proofs.Common.{◌≡◌, ℕ, Bool, true, false, List, refl, arith}
use Rattle.std.specs.Prelude.{not, ◌&&◌, if◌then◌else◌, Option, None, Some, Result, Ok, Err, ◌^◌, ◌-◌}
use Rattle.std.specs.Float.{Float, Format}
use Rattle.std.specs.Float.Numeral.{has_digits}
use Rattle.lexical_format.specs.Word.{separator}
use Rattle.lexical_digits.specs.Separators.{is_separator}
use Rattle.digit_values.specs.Bytes.{has_byte}
use Rattle.digit_floats.specs.Bytes.{stands}
use Rattle.digit_languages.specs.declared.literal.Literal.{Literal}
use Rattle.digit_languages.specs.declared.literal.LanguageError.{LanguageError}
use Rattle.digit_languages.specs.declared.literal.LanguageError.TheVariants as literals
use Rattle.digit_languages.specs.Literals.{literal_at}
use Rattle.digit_numbers.specs.declared.form.Form.{Form}
use Rattle.digit_numbers.specs.declared.form.Special.{Special}
use Rattle.digit_numbers.specs.declared.number.Number.{Number}
use Rattle.digit_numbers.specs.declared.number.Number.TheVariants as numbers
use Rattle.digit_numbers.specs.declared.number.NumberError.{NumberError}
use Rattle.digit_numbers.specs.Alike.{AreAlike, but_for_float, integer_of}
use Rattle.digit_numbers.specs.Forms.{is_always_float, may_be_float}
use Rattle.digit_numbers.specs.Numbers.{Outcome, word, at, parts, is_float, has_more_zeros, language}
use Rattle.digit_numbers.specs.Numbers.{special_here, hex_word_here, float_here, whole_here}
use Rattle.digit_numbers.specs.Numbers.{integer_here, plain_at, or_hex, or_special, number_of_at}

if_alike : (b : Bool) (x y x' y' : Outcome) → AreAlike x x' → AreAlike y y'
    → AreAlike (if b then x else y) (if b then x' else y')
if_alike true x y x' y' one other = one
if_alike false x y x' y' one other = other

module _ (f : Form) (text : List ℕ) (start : ℕ) (one other : Format) where
  float_alike : AreAlike (float_here f text start one) (float_here f text start other)
  float_alike = refl

  whole_alike : AreAlike (whole_here f text start one) (whole_here f text start other)
  whole_alike =
      if_alike (has_more_zeros f text (at f text start)) _ _ _ _ refl
      (if_alike (has_digits (parts f text (at f text start))) _ _ _ _ float_alike refl)

  integer_alike : (read : Result Literal LanguageError)
      → AreAlike (integer_here f text start one read) (integer_here f text start other read)
  integer_alike (Ok read) = refl
  integer_alike (Err (literals.Overflow over)) =
      if_alike (may_be_float f.whole && not (has_byte text (at f text start) 48)) _ _ _ _
      float_alike refl
  integer_alike (Err (literals.Empty e)) = refl
  integer_alike (Err (literals.Zero e)) = refl

  plain_alike : AreAlike (plain_at f text start one) (plain_at f text start other)
  unfolding plain_at
  plain_alike =
      if_alike (is_float f text (at f text start)) _ _ _ _ float_alike
      (if_alike (is_always_float f.whole) _ _ _ _ whole_alike
      (integer_alike
      (literal_at (language f text start) text (at f text start) (2 ^ 128 - 1))))

  hex_alike : (said : Option ℕ)
      → AreAlike (or_hex f text start one said) (or_hex f text start other said)
  hex_alike (Some said) = refl
  hex_alike None =
      if_alike (stands (is_separator (separator (word f text))) text (at f text start)) _ _ _ _
      refl plain_alike

  special_alike : (special : Option Special)
      → AreAlike (or_special f text start one special) (or_special f text start other special)
  special_alike (Some s) = refl
  special_alike None = hex_alike (hex_word_here f text start)

  pub alike : AreAlike (number_of_at f text start one) (number_of_at f text start other)
  unfolding number_of_at
  alike = special_alike (special_here f text start)

-- ---- what outcomes that are alike say

pub same_end : (x y : Outcome) (n m : Number Float) (end stop : ℕ) → AreAlike x y
    → x ≡ Ok (n, end) → y ≡ Ok (m, stop) → end ≡ stop
same_end x y n m end stop like a b =
    let ends : Ok (integer_of n, end) ≡ but_for_float (Ok (m, stop)) = rw (a, b) at like in
    grind (arith, ends)

pub same_integer : (x y : Outcome) (negative : Bool) (magnitude said end : ℕ) → AreAlike x y
    → x ≡ Ok (numbers.Integer negative magnitude said, end)
    → y ≡ Ok (numbers.Integer negative magnitude said, end)
same_integer x (Ok (numbers.Integer n m w, e)) negative magnitude said end like a =
    let same = rw a at like in
    grind (arith, same)
same_integer x (Ok (numbers.Float v, e)) negative magnitude said end like a =
    let same = rw a at like in
    absurd (grind (arith, same))
same_integer x (Err error) negative magnitude said end like a =
    let same = rw a at like in
    absurd (grind (arith, same))

pub same_error : (x y : Outcome) (error : NumberError) → AreAlike x y → x ≡ Err error
    → y ≡ Err error
same_error x (Ok (n, e)) error like a =
    let same = rw a at like in
    absurd (grind (arith, same))
same_error x (Err other) error like a =
    let same = rw a at like in
    grind (arith, same)
