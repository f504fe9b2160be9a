-- Eight digits of radix 16 in a word: their test, and the number that they write.
use Rattle.std.proofs.Common.{◌≡◌, ℕ, zero, suc, ◌+◌, ◌*◌, ◌/◌, ◌%◌, ◌^◌, ◌<◌, ◌≤◌, bit_and, refl, ap, ◌∙◌, arith}
use Rattle.std.specs.Prelude.{Some}
use Rattle.std.proofs.Math.Nat.{mod-eq_of_lt}
use Rattle.std.proofs.lemmas.Bool.Decides.{nat_tests}
use Rattle.std.proofs.lemmas.Nat.{and_block, and_mask, and_le_l, and_le_r}
use Rattle.lexical_format.specs.Digits.{digit_of_radix}
use Rattle.lexical_format.specs.Digits as words
use Rattle.digit_words.specs.Eight.{byte_of, AreBelow}
use Rattle.digit_words.specs.Hexadecimal.{AreSpelt, hexadecimal}
use Rattle.digit_words.proofs.WordOfDigits.{repeated, at_most, kept}

-- ---- the test

-- the lower halves of bytes
pub halves_below : (n v : ℕ) → AreBelow 16 n (bit_and v (repeated 15 n))
halves_below zero v = omega (arith, and_mask v 0)
halves_below (suc n) v =
    let parts : v ≡ v / 256 * 2 ^ 8 + v % 256 = omega arith in
    let block = and_block 8 (v / 256) (repeated 15 n) (v % 256) 15 (omega arith) (omega arith) in
    let mask : bit_and (v % 256) 15 ≡ v % 256 % 16 = and_mask (v % 256) 4 in
    let both : bit_and v (repeated 15 n * 256 + 15)
    ≡ bit_and (v / 256) (repeated 15 n) * 2 ^ 8 + v % 256 % 16 =
    ap (λ x. bit_and x (repeated 15 n * 256 + 15)) parts ∙ block ∙ omega (arith, mask) in
    let rest : bit_and v (repeated 15 n * 256 + 15) / 256 ≡ bit_and (v / 256) (repeated 15 n) =
    omega (arith, both) in
    (omega (arith, both), rw rest (halves_below n (v / 256)))

-- a byte: the digit, whether it is a letter, and whether that is small
digit_is : (b x g c : ℕ) → x < 16 → g ≡ (x + 6) / 16 → c ≤ g → b ≡ x + 48 + 7 * g + 32 * c
    → digit_of_radix 16 b ≡ Some x
unfolding words.digit_value
digit_is b x zero zero l e k is = grind (arith, nat_tests)
digit_is b x zero (suc c) l e k is = absurd (omega arith)
digit_is b x (suc zero) zero l e k is = grind (arith, nat_tests)
digit_is b x (suc zero) (suc zero) l e k is = grind (arith, nat_tests)
digit_is b x (suc zero) (suc (suc c)) l e k is = absurd (omega arith)
digit_is b x (suc (suc g)) c l e k is = absurd (omega arith)

-- the letters among digits
letters : (n x : ℕ) → x % 256 < 16
    → bit_and ((x + (repeated 6 n * 256 + 6)) / 16) (repeated 1 n * 256 + 1)
    ≡ bit_and ((x / 256 + repeated 6 n) / 16) (repeated 1 n) * 2 ^ 8 + (x % 256 + 6) / 16
letters n x l =
    let z : ℕ = (x + (repeated 6 n * 256 + 6)) / 16 in
    let parts : z ≡ z / 256 * 2 ^ 8 + z % 256 = omega arith in
    let up : z / 256 ≡ (x / 256 + repeated 6 n) / 16 = omega (arith, l) in
    let low : z % 256 % 2 ≡ (x % 256 + 6) / 16 = omega (arith, l) in
    let block = and_block 8 (z / 256) (repeated 1 n) (z % 256) 1 (omega arith) (omega arith) in
    let mask : bit_and (z % 256) 1 ≡ z % 256 % 2 = and_mask (z % 256) 1 in
    ap (λ y. bit_and y (repeated 1 n * 256 + 1)) parts ∙ block
    ∙ omega (arith, mask, low, ap (λ y. bit_and y (repeated 1 n)) up)

pub are_spelt : (n w x g c y : ℕ) → AreBelow 16 n x
    → g ≡ bit_and ((x + repeated 6 n) / 16) (repeated 1 n) → c ≡ bit_and g y
    → w ≡ x + repeated 48 n + g * 7 + c * 32 → AreSpelt n w x
are_spelt zero w x g c y h gs cs is = tt
are_spelt (suc n) w x g c y h gs cs is =
    let g0 : ℕ = (x % 256 + 6) / 16 in
    let g1 : ℕ = bit_and ((x / 256 + repeated 6 n) / 16) (repeated 1 n) in
    let c0 : ℕ = bit_and g0 (y % 256) in
    let c1 : ℕ = bit_and g1 (y / 256) in
    let own = h.0 in
    let gp : g ≡ g1 * 2 ^ 8 + g0 = gs ∙ letters n x h.0 in
    let yp : y ≡ y / 256 * 2 ^ 8 + y % 256 = omega arith in
    let one : g0 ≤ 1 = omega (arith, own) in
    let block = and_block 8 g1 (y / 256) g0 (y % 256) (omega (arith, one)) (omega arith) in
    let cp : c ≡ c1 * 2 ^ 8 + c0 =
    cs ∙ ap (λ k. bit_and k y) gp ∙ ap (λ k. bit_and (g1 * 2 ^ 8 + g0) k) yp ∙ block in
    let small : c0 ≤ g0 = and_le_l g0 (y % 256) in
    let sum : w ≡ (x / 256 + repeated 48 n + g1 * 7 + c1 * 32) * 256
    + (x % 256 + 48 + 7 * g0 + 32 * c0) = omega (arith, is, gp, cp) in
    let low : w % 256 ≡ x % 256 + 48 + 7 * g0 + 32 * c0 = omega (arith, sum, own, one, small) in
    let up : w / 256 ≡ x / 256 + repeated 48 n + g1 * 7 + c1 * 32 =
    omega (arith, sum, own, one, small) in (
      digit_is (w % 256) (x % 256) g0 c0 own refl small low,
      are_spelt n (w / 256) (x / 256) g1 c1 (y / 256) h.1 refl refl up,
    )

-- the test of `digits_of`
pub are_digits : (w x y : ℕ) → AreBelow 16 8 x
    → (((x + 0x3030_3030_3030_3030) % 2 ^ 64
    + bit_and ((x + 0x0606_0606_0606_0606) % 2 ^ 64 / 16) 0x0101_0101_0101_0101 * 7 % 2 ^ 64)
    % 2 ^ 64
    + bit_and (bit_and ((x + 0x0606_0606_0606_0606) % 2 ^ 64 / 16) 0x0101_0101_0101_0101) y * 32
    % 2 ^ 64) % 2 ^ 64
    ≡ w → AreSpelt 8 w x
are_digits w x y h is =
    let few : x ≤ 0x0f0f_0f0f_0f0f_0f0f = at_most 15 8 x h in
    let sum : (x + 0x0606_0606_0606_0606) % 2 ^ 64 ≡ x + 0x0606_0606_0606_0606 =
    mod-eq_of_lt (omega (arith, few)) in
    let g : ℕ = bit_and ((x + 0x0606_0606_0606_0606) / 16) 0x0101_0101_0101_0101 in
    let g_few : g ≤ 0x0101_0101_0101_0101 =
    and_le_r ((x + 0x0606_0606_0606_0606) / 16) 0x0101_0101_0101_0101 in
    let c_few : bit_and g y ≤ g = and_le_l g y in
    are_spelt 8 w x g (bit_and g y) y h refl refl
    (omega (arith, few, g_few, c_few, rw sum at is))

-- ---- the number

-- two pairs of digits by one product each
low_pairs : (p r : ℕ) → p < 256 → r < 256
    → (p + 2 ^ 32 * r) * 0x0100_0000_0000_0100 % 2 ^ 64
    ≡ p * 256 + 2 ^ 32 * (p * 16777216 + r * 256)
low_pairs p r P R = omega arith

high_pairs : (q s : ℕ) → q < 256 → s < 256
    → (q + 2 ^ 32 * s) * 0x0001_0000_0000_0001 % 2 ^ 64 ≡ q + 2 ^ 32 * (q * 65536 + s)
high_pairs q s Q S = omega arith

sum_of : (p q r s : ℕ) → p < 256 → q < 256 → r < 256 → s < 256
    → (p * 256 + 2 ^ 32 * (p * 16777216 + r * 256) + (q + 2 ^ 32 * (q * 65536 + s))) % 2 ^ 64 / 2 ^
    32
    ≡ p * 16777216 + q * 65536 + r * 256 + s
sum_of p q r s P Q R S = omega arith

-- four pairs of digits, and what is between them
four_pairs : (pairs p q r s x y z w : ℕ) → p < 256 → q < 256 → r < 256 → s < 256
    → x < 256 → y < 256 → z < 256 → w < 256
    → pairs ≡ p + 2 ^ 8 * (x + 2 ^ 8 * (q + 2 ^ 8 * y)) + 2 ^ 32 *
    (r + 2 ^ 8 * (z + 2 ^ 8 * (s + 2 ^ 8 * w)))
    → (bit_and pairs 0x0000_00ff_0000_00ff * 0x0100_0000_0000_0100 % 2 ^ 64
    + bit_and (pairs / 65536) 0x0000_00ff_0000_00ff * 0x0001_0000_0000_0001 % 2 ^ 64) % 2 ^ 64
    / 2 ^ 32
    ≡ p * 16777216 + q * 65536 + r * 256 + s
four_pairs pairs p q r s x y z w P Q R S X Y Z W e =
    let first : bit_and pairs 0x0000_00ff_0000_00ff ≡ p + 2 ^ 32 * r =
    ap (λ v. bit_and v 0x0000_00ff_0000_00ff) e
    ∙ kept p (x + 2 ^ 8 * (q + 2 ^ 8 * y)) r (z + 2 ^ 8 * (s + 2 ^ 8 * w)) (omega arith)
    (omega arith) (omega arith) in
    let down : pairs / 65536 ≡ q + 2 ^ 8 * (y + 2 ^ 8 * (r + 2 ^ 8 * z)) + 2 ^ 32 * (s + 2 ^ 8 * w)
    =
    omega (arith, e) in
    let second : bit_and (pairs / 65536) 0x0000_00ff_0000_00ff ≡ q + 2 ^ 32 * s =
    ap (λ v. bit_and v 0x0000_00ff_0000_00ff) down
    ∙ kept q (y + 2 ^ 8 * (r + 2 ^ 8 * z)) s w (omega arith) (omega arith) (omega arith) in
    rw (first, second, low_pairs p r P R, high_pairs q s Q S) (sum_of p q r s P Q R S)

eight_digits : (x a b c d e f g h : ℕ)
    → a < 16 → b < 16 → c < 16 → d < 16 → e < 16 → f < 16 → g < 16 → h < 16
    → x ≡ a + 256 * (b + 256 * (c + 256 * (d + 256 * (e + 256 * (f + 256 * (g + 256 * h))))))
    → (bit_and ((x * 16 % 2 ^ 64 + x / 256) % 2 ^ 64) 0x0000_00ff_0000_00ff * 0x0100_0000_0000_0100
    % 2 ^ 64
    + bit_and ((x * 16 % 2 ^ 64 + x / 256) % 2 ^ 64 / 65536) 0x0000_00ff_0000_00ff
    * 0x0001_0000_0000_0001 % 2 ^ 64) % 2 ^ 64 / 2 ^ 32
    ≡ ((((((a * 16 + b) * 16 + c) * 16 + d) * 16 + e) * 16 + f) * 16 + g) * 16 + h
eight_digits x a b c d e f g h A B C D E F G H is =
    let rest : x / 256 ≡ b + 256 * (c + 256 * (d + 256 * (e + 256 * (f + 256 * (g + 256 * h))))) =
    omega (arith, is, A) in
    let pairs : (x * 16 % 2 ^ 64 + x / 256) % 2 ^ 64
    ≡ a * 16 + b + 2 ^ 8 * (b * 16 + c + 2 ^ 8 * (c * 16 + d + 2 ^ 8 * (d * 16 + e)))
    + 2 ^ 32 * (e * 16 + f + 2 ^ 8 * (f * 16 + g + 2 ^ 8 * (g * 16 + h + 2 ^ 8 * (h * 16)))) =
    omega (arith, is, rest) in
    four_pairs _ (a * 16 + b) (c * 16 + d) (e * 16 + f) (g * 16 + h) (b * 16 + c) (d * 16 + e)
    (f * 16 + g) (h * 16)
    (omega arith) (omega arith) (omega arith) (omega arith) (omega arith) (omega arith)
    (omega arith) (omega arith) pairs
    ∙ omega arith

-- the three products of `value_of`
pub number_is : (x : ℕ) → AreBelow 16 8 x
    → (bit_and ((x * 16 % 2 ^ 64 + x / 256) % 2 ^ 64) 0x0000_00ff_0000_00ff * 0x0100_0000_0000_0100
    % 2 ^ 64
    + bit_and ((x * 16 % 2 ^ 64 + x / 256) % 2 ^ 64 / 65536) 0x0000_00ff_0000_00ff
    * 0x0001_0000_0000_0001 % 2 ^ 64) % 2 ^ 64 / 2 ^ 32
    ≡ hexadecimal (byte_of x) 8
number_is x k =
    let none : x / 256 / 256 / 256 / 256 / 256 / 256 / 256 / 256 ≡ 0 = k.1.1.1.1.1.1.1.1 in
    let is : x ≡ x % 256 + 256 * (x / 256 % 256 + 256 * (x / 256 / 256 % 256
    + 256 * (x / 256 / 256 / 256 % 256 + 256 * (x / 256 / 256 / 256 / 256 % 256
    + 256 * (x / 256 / 256 / 256 / 256 / 256 % 256
    + 256 * (x / 256 / 256 / 256 / 256 / 256 / 256 % 256
    + 256 * (x / 256 / 256 / 256 / 256 / 256 / 256 / 256 % 256))))))) = omega (arith, none) in
    eight_digits x _ _ _ _ _ _ _ _ k.0 k.1.0 k.1.1.0 k.1.1.1.0 k.1.1.1.1.0 k.1.1.1.1.1.0
    k.1.1.1.1.1.1.0 k.1.1.1.1.1.1.1.0 is
    ∙ omega arith

-- ---- the bytes

-- 16 by the doubling of 1
pub sixteen_power : (n : ℕ) → n ≤ 8 → 2 ^ (4 * n) ≡ 16 ^ n
sixteen_power zero l = refl
sixteen_power (suc zero) l = refl
sixteen_power (suc (suc zero)) l = refl
sixteen_power (suc (suc (suc zero))) l = refl
sixteen_power (suc (suc (suc (suc zero)))) l = refl
sixteen_power (suc (suc (suc (suc (suc zero))))) l = refl
sixteen_power (suc (suc (suc (suc (suc (suc zero)))))) l = refl
sixteen_power (suc (suc (suc (suc (suc (suc (suc zero))))))) l = refl
sixteen_power (suc (suc (suc (suc (suc (suc (suc (suc zero)))))))) l = refl
sixteen_power (suc (suc (suc (suc (suc (suc (suc (suc (suc n))))))))) l = absurd (omega arith)
