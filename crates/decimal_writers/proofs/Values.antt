-- The value of digits that were written.
use Rattle.std.proofs.Common.{◌≡◌, ℕ, zero, suc, ◌+◌, ◌*◌, ◌/◌, ◌%◌, ◌^◌, ◌<◌, ◌≤◌, Bool, true, false, List, [], ◌∷◌, ◌++◌, length, sym, ap, subst, ◌∙◌, arith, append_assoc}
use Rattle.std.specs.Prelude.{if◌then◌else◌}
use Rattle.std.specs.Char.{digit_value}
use Rattle.std.specs.Float.{Format}
use Rattle.std.specs.Float.Ieee.{round}
use Rattle.std.specs.Float.Numeral as std
use Rattle.std.specs.Str.Parse.{AllDigits, digits_value}
use Rattle.std.proofs.Math.Nat.{div-one, mul-le-mul_right}
use Rattle.std.proofs.lemmas.Bool.Decides.{nat_tests}
use Rattle.std.proofs.lemmas.Int.Digits.{digits_push, digits_value_push}
use native.Mathlib.Nat.{pow-suc}
use lib.Pow.{pow-add}
use Rattle.decimal_writers.specs.Text.{number_text, last_digits, with_point}
use Rattle.decimal_writers.proofs.Numerals.{ten_pos, length-last, last_none, last_step, last_split, counted}

digit_is : (d : ℕ) → d < 10 → digit_value (48 + d) ≡ d
digit_is d few = grind (arith, nat_tests)

pub last_are : (count n : ℕ) → AllDigits 10 (last_digits count n)
last_are zero n = subst (AllDigits 10) (sym (last_none n)) tt
last_are (suc count) n =
    subst (AllDigits 10) (sym (last_step count n))
    (digits_push 10 (last_digits count (n / 10)) (48 + n % 10) (last_are count (n / 10))
    (omega (arith, digit_is (n % 10) (omega arith))))

last_value : (count n : ℕ) → n < 10 ^ count → digits_value 10 (last_digits count n) ≡ n
last_value zero n few =
    let none : n ≡ 0 = omega arith in
    ap (digits_value 10) (last_none n) ∙ sym none
last_value (suc count) n few =
    let front = last_value count (n / 10) (omega (arith, pow-suc 10 count)) in
    ap (digits_value 10) (last_step count n)
    ∙ digits_value_push 10 (last_digits count (n / 10)) (48 + n % 10)
    ∙ omega (arith, front, digit_is (n % 10) (omega arith))

pub number_are : (n : ℕ) → AllDigits 10 (number_text n)
number_are n = subst (AllDigits 10) (sym (counted n).same) (last_are (length (number_text n)) n)

-- the digits before and after the point are the number
value_of_both : (places n : ℕ)
    → digits_value 10 (number_text (n / 10 ^ places) ++ last_digits places n) ≡ n
value_of_both places n =
    let front = n / 10 ^ places in
    let count = length (number_text front) in
    let is = counted front in
    let all : number_text front ++ last_digits places n ≡ last_digits (count + places) n =
    ap (λ (ds : List ℕ). ds ++ last_digits places n) is.same ∙ sym (last_split count places n) in
    let most : suc front * 10 ^ places ≤ 10 ^ count * 10 ^ places =
    mul-le-mul_right (10 ^ places) is.below in
    let few : n < 10 ^ (count + places) =
    omega (arith, most, pow-add 10 count places, ten_pos places) in
    ap (digits_value 10) all ∙ last_value (count + places) n few

-- ---- the parts of a text, in std's words

abbrev pub has_point : ℕ → Bool
has_point zero = false
has_point (suc more) = true

abbrev pub parts_of : ℕ → ℕ → Bool → List ℕ → ℕ → std.Parts
parts_of places n down exponent len = record {
  whole = number_text (n / 10 ^ places);
  point = has_point places;
  fraction = last_digits places n;
  exponent_negative = down;
  exponent = exponent;
  len = len;
}

pub text_is : (places n : ℕ) (down : Bool) (exponent : List ℕ) (len : ℕ)
    → with_point places n ++ std.exponent_text down exponent ≡ std.text_of
    (parts_of places n down exponent len)
text_is zero n down exponent len =
    let same : n ≡ n / 10 ^ 0 = sym (div-one n) in
    ap (λ (x : ℕ). number_text x ++ std.exponent_text down exponent) same
text_is (suc more) n down exponent len =
    append_assoc (number_text (n / 10 ^ suc more)) (46 ∷ last_digits (suc more) n)
    (std.exponent_text down exponent)

module _ (places n : ℕ) (down : Bool) (exponent : List ℕ) (digits : AllDigits 10 exponent)
    (some : exponent ≡ [] → down ≡ false) where
  abbrev pub parts : std.Parts
  parts = parts_of places n down exponent
      (length (with_point places n ++ std.exponent_text down exponent))

  pub well : std.IsWellFormed parts
  well = record {
    whole_digits = number_are (n / 10 ^ places);
    fraction_digits = last_are places n;
    exponent_digits = digits;
    no_point = none places;
    no_exponent = some;
    len_is = ap length
        (text_is places n down exponent
        (length (with_point places n ++ std.exponent_text down exponent)));
  }
    where
      none : (places : ℕ) → has_point places ≡ false → last_digits places n ≡ []
      none zero e = last_none n
      none (suc more) e = cc

  -- the float that is read
  pub nearest_is : (f : Format) (negative : Bool)
      → std.nearest_float f negative parts
      ≡ round f negative (n * 10 ^ (if down then 0 else digits_value 10 exponent))
      (10 ^ (places + (if down then digits_value 10 exponent else 0)))
  nearest_is f negative =
      let value = value_of_both places n in
      let long = length-last places n in
      (λ i. round f negative (value i * 10 ^ (if down then 0 else digits_value 10 exponent))
      (10 ^ (long i + (if down then digits_value 10 exponent else 0))))
