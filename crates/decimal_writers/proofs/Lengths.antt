-- How long the texts of floats are.
use Rattle.std.proofs.Common.{◌≡◌, ℕ, ℤ, zero, suc, ◌+◌, ◌-◌, ◌*◌, ◌^◌, ◌<◌, ◌≤◌, Bool, true, false, ◌&&◌, [], ◌∷◌, ◌++◌, length, refl, ap, arith, length-append, unsigned_abs}
use Rattle.std.specs.Prelude.{pos, negsuc, int_le, int_lt, ◌+ℤ◌, ◌-ℤ◌, ◌≤ℤ◌, if◌then◌else◌}
use Rattle.std.specs.Fmt.{sign_text, signed_decimal}
use Rattle.std.proofs.lemmas.Bool.Decides.{nat_tests}
use Rattle.std.proofs.lemmas.Int.{ints}
use mir.Val.{bool_byte}
use Rattle.decimal_writers.specs.Text.{number_text, with_point, first_power, plain_text, mantissa_text, exponent_text, zero_place, is_plain, usual_text}
use Rattle.decimal_writers.proofs.Exponents.{long_signed}
use Rattle.decimal_writers.proofs.Numerals.{few_digits, some_digits, number_one}
use Rattle.decimal_writers.proofs.Points.{long_with_point, long_tens, no_tens}

sign_few : (negative : Bool) → length (sign_text negative) ≤ 1
sign_few true = omega arith
sign_few false = omega arith

byte_few : (b : Bool) → bool_byte b ≤ 1
byte_few true = omega arith
byte_few false = omega arith

mantissa_few : (digits places : ℕ) → length (number_text digits) ≡ places + 1
    → length (with_point places digits) ≤ places + 2
mantissa_few digits zero long = omega (arith, long)
mantissa_few digits (suc more) long =
    omega (arith, long, long_with_point digits (suc more) (omega arith))

power_few : (z : ℤ) → unsigned_abs z < 1000 → length (signed_decimal z) ≤ 4
power_few z few =
    omega (
      arith,
      long_signed z (omega (arith, few)),
      few_digits (unsigned_abs z) 3 (omega arith) (omega (arith, few)),
      byte_few (int_lt z (pos 0)),
    )

-- the power of ten of the first digit is small
pub sum_few : (power : ℤ) (n : ℕ) → unsigned_abs power ≤ 400 → n < 18
    → unsigned_abs (power +ℤ pos n) < 1000
sum_few (pos a) n few small = omega (arith, few, small)
sum_few (negsuc a) n few small = go (negsuc a +ℤ pos n) refl
  where
    go : (z : ℤ) → negsuc a +ℤ pos n ≡ z → unsigned_abs z < 1000
    go (pos k) e = omega (arith, ints, e, small)
    go (negsuc k) e = omega (arith, ints, e, few)

module _ (negative : Bool) (digits : ℕ) (power : ℤ) (k : ℕ) (some : 1 ≤ k) (less : k ≤ 18)
    (few : digits < 10 ^ k) (near : unsigned_abs power ≤ 400) where
  abbrev count : ℕ
  count = length (number_text digits)

  most : count ≤ k
  most = few_digits digits k some few

  exponent_few : length (exponent_text negative digits power) ≤ k + 7
  exponent_few =
      let a = length-append (sign_text negative)
      (mantissa_text digits ++ 101 ∷ signed_decimal (first_power digits power)) in
      let b = length-append (mantissa_text digits)
      (101 ∷ signed_decimal (first_power digits power)) in
      let c = mantissa_few digits (count - 1) (omega (arith, some_digits digits)) in
      let d = power_few (first_power digits power)
      (sum_few power (count - 1) near (omega (arith, most, less, some_digits digits))) in
      omega (arith, a, b, c, d, most, some_digits digits, sign_few negative)

pub exponent_fits : (negative : Bool) (digits : ℕ) (power : ℤ) → digits < 10 ^ 17
    → unsigned_abs power ≤ 400 → length (exponent_text negative digits power) ≤ 24
exponent_fits negative digits power few near =
    exponent_few negative digits power 17 (omega arith) (omega arith) few near

-- with a zero after the digits
pub pointed_fits : (negative : Bool) (digits : ℕ) (power : ℤ) → digits < 10 ^ 17
    → negsuc 323 ≤ℤ power → power ≤ℤ pos 309
    → length (exponent_text negative (digits * 10) (power -ℤ pos 1)) ≤ 25
pointed_fits negative digits power few least most =
    exponent_few negative (digits * 10) (power -ℤ pos 1) 18 (omega arith) (omega arith)
    (omega (arith, few)) (down power least most)
  where
    down : (z : ℤ) → negsuc 323 ≤ℤ z → z ≤ℤ pos 309 → unsigned_abs (z -ℤ pos 1) ≤ 400
    down z l m = go (z -ℤ pos 1) refl
      where
        go : (y : ℤ) → z -ℤ pos 1 ≡ y → unsigned_abs y ≤ 400
        go (pos n) e = omega (arith, ints, e, m)
        go (negsuc n) e = omega (arith, ints, e, l)

tens_few : (digits n : ℕ) → length (number_text digits) + n ≤ 16
    → length (number_text (digits * 10 ^ n)) ≤ 16
tens_few zero n l = omega (arith, ap length (no_tens n), number_one 0 (omega arith))
tens_few (suc d) n l = omega (arith, long_tens (suc d) n (omega arith), l)

plain_above : (k : ℕ) → (int_le (negsuc 4) (pos k) && int_lt (pos k) (pos 16)) ≡ true → k < 16
plain_above k e = grind (arith, nat_tests, e)

plain_below : (k : ℕ) → (int_le (negsuc 4) (negsuc k) && int_lt (negsuc k) (pos 16)) ≡ true → k ≤ 4
plain_below k e = grind (arith, nat_tests, e)

places_few : (n count : ℕ) → 1 ≤ count
    → (int_le (negsuc 4) (negsuc n +ℤ pos (count - 1)) && int_lt (negsuc n +ℤ pos (count - 1))
    (pos 16)) ≡ true
    → n ≤ count + 3
places_few n count some e = go (negsuc n +ℤ pos (count - 1)) refl e
  where
    go : (z : ℤ) → negsuc n +ℤ pos (count - 1) ≡ z
        → (int_le (negsuc 4) z && int_lt z (pos 16)) ≡ true → n ≤ count + 3
    go (pos k) sum test = omega (arith, ints, sum)
    go (negsuc k) sum test = omega (arith, ints, sum, plain_below k test, some)

module _ (negative : Bool) (digits : ℕ) (few : length (number_text digits) ≤ 17) where
  placed_fits : (power : ℤ) → is_plain digits power ≡ true
      → length (plain_text negative digits power ++ zero_place power) ≤ 24
  placed_fits (pos n) plain =
      let a = length-append (plain_text negative digits (pos n)) (46 ∷ 48 ∷ []) in
      let b = length-append (sign_text negative) (number_text (digits * 10 ^ n)) in
      let l : length (number_text digits) + n ≤ 16 =
      omega (
        arith,
        plain_above (n + (length (number_text digits) - 1)) plain,
        some_digits digits,
      ) in
      omega (arith, a, b, tens_few digits n l, sign_few negative)
  placed_fits (negsuc n) plain =
      let a = length-append (plain_text negative digits (negsuc n)) [] in
      let b = length-append (sign_text negative) (with_point (n + 1) digits) in
      let c = long_with_point digits (n + 1) (omega arith) in
      let l : n ≤ length (number_text digits) + 3 =
      places_few n (length (number_text digits)) (some_digits digits) plain in
      omega (arith, a, b, c, l, few, sign_few negative)

pub usual_fits : (negative : Bool) (digits : ℕ) (power : ℤ) → digits < 10 ^ 17
    → unsigned_abs power ≤ 400
    → length (usual_text negative digits power) ≤ 24
usual_fits negative digits power few near = go (is_plain digits power) refl
  where
    go : (b : Bool) → is_plain digits power ≡ b
        → length (if b then plain_text negative digits power
        ++ zero_place power else exponent_text negative digits power) ≤ 24
    go true e = placed_fits negative digits (few_digits digits 17 (omega arith) few) power e
    go false e = exponent_fits negative digits power few near

-- ---- without an exponent, of the shortest decimal of a float

tens_most : (digits n : ℕ) → length (number_text digits) ≤ 17
    → length (number_text (digits * 10 ^ n)) ≤ 17 + n
tens_most zero n few = omega (arith, ap length (no_tens n), number_one 0 (omega arith))
tens_most (suc d) n few = omega (arith, long_tens (suc d) n (omega arith), few)

pub plain_fits : (negative : Bool) (digits : ℕ) (power : ℤ) → digits < 10 ^ 17
    → negsuc 323 ≤ℤ power → power ≤ℤ pos 309 → length (plain_text negative digits power) ≤ 327
plain_fits negative digits (pos n) few least most =
    let count = few_digits digits 17 (omega arith) few in
    let low : n ≤ 309 = omega (arith, ints, most) in
    let all = length-append (sign_text negative) (number_text (digits * 10 ^ n)) in
    omega (arith, low, all, tens_most digits n count, sign_few negative)
plain_fits negative digits (negsuc n) few least most =
    let count = few_digits digits 17 (omega arith) few in
    let low : n ≤ 323 = omega (arith, ints, least) in
    let all = length-append (sign_text negative) (with_point (n + 1) digits) in
    let long = long_with_point digits (n + 1) (omega arith) in
    omega (arith, low, all, long, count, sign_few negative)

pub ruleset fits = (exponent_fits, usual_fits)
