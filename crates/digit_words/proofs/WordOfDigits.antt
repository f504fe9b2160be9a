-- Eight decimal digits in a word: their test, and the number that they write.
use Rattle.std.proofs.Common.{◌≡◌, ℕ, zero, suc, ◌+◌, ◌*◌, ◌/◌, ◌%◌, ◌^◌, ◌<◌, ◌≤◌, bit_and, refl, sym, ap, ◌∙◌, arith}
use Rattle.std.proofs.Math.Nat.{mod-eq_of_lt}
use Rattle.std.proofs.lemmas.Nat.{and_block, and_mask}
use Rattle.digit_words.specs.Eight.{byte_of, AreBelow, spelt, number_of, written}

-- ---- the test

-- a word that has the same in each of so many bytes
abbrev pub repeated : ℕ → ℕ → ℕ
repeated byte zero = 0
repeated byte (suc n) = repeated byte n * 256 + byte

-- the highest bit of a byte
high : (y : ℕ) → y < 256 → bit_and y 128 ≡ 0 → y < 128
high y l e =
    let parts : y ≡ y / 128 * 2 ^ 7 + y % 128 = omega arith in
    let block = and_block 7 (y / 128) 1 (y % 128) 0 (omega arith) (omega arith) in
    let mask : bit_and (y / 128) 1 ≡ y / 128 % 2 = and_mask (y / 128) 1 in
    let sum : bit_and (y / 128) 1 * 2 ^ 7 + bit_and (y % 128) 0 ≡ 0 =
    sym block ∙ ap (λ x. bit_and x 128) (sym parts) ∙ e in
    omega (arith, sum, mask)

-- the lowest byte of a word, and the others
lowest : (x m : ℕ) → bit_and x (m * 256 + 128) ≡ 0
    → (x % 256 < 128) × (bit_and (x / 256) m ≡ 0)
lowest x m e =
    let parts : x ≡ x / 256 * 2 ^ 8 + x % 256 = omega arith in
    let block = and_block 8 (x / 256) m (x % 256) 128 (omega arith) (omega arith) in
    let sum : bit_and (x / 256) m * 2 ^ 8 + bit_and (x % 256) 128 ≡ 0 =
    sym block ∙ ap (λ y. bit_and y (m * 256 + 128)) (sym parts) ∙ e in
    (high (x % 256) (omega arith) (omega (arith, sum)), omega (arith, sum))

-- no byte has its highest bit
pub low_bytes : (n x : ℕ) → x < 256 ^ n → bit_and x (repeated 128 n) ≡ 0 → AreBelow 128 n x
low_bytes zero x l e = omega arith
low_bytes (suc n) x l e =
    let both = lowest x (repeated 128 n) e in
    (both.0, low_bytes n (x / 256) (omega (arith, l)) both.1)

-- and none with 118 added
pub below_ten : (n x : ℕ) → AreBelow 128 n x → AreBelow 128 n (x + repeated 118 n) → AreBelow 10 n x
below_ten zero x h k = h
below_ten (suc n) x h k =
    let small : x % 256 < 10 = omega (arith, h.0, k.0) in
    let rest : (x + (repeated 118 n * 256 + 118)) / 256 ≡ x / 256 + repeated 118 n =
    omega (arith, h.0) in
    (small, below_ten n (x / 256) h.1 (rw rest at k.1))

-- a word whose bytes are at most so much
pub at_most : (byte n x : ℕ) → AreBelow (suc byte) n x → x ≤ repeated byte n
at_most byte zero x h = omega (arith, h)
at_most byte (suc n) x h = omega (arith, h.0, at_most byte n (x / 256) h.1)

-- the test of `digits_of`
pub are_digits : (x : ℕ) → x < 2 ^ 64 → bit_and x 0x8080_8080_8080_8080 ≡ 0
    → bit_and ((x + 0x7676_7676_7676_7676) % 2 ^ 64) 0x8080_8080_8080_8080 ≡ 0 → AreBelow 10 8 x
are_digits x l low high =
    let bytes : AreBelow 128 8 x = low_bytes 8 x l low in
    let few : x ≤ 0x7f7f_7f7f_7f7f_7f7f = at_most 127 8 x bytes in
    let sum : x + 0x7676_7676_7676_7676 < 2 ^ 64 = omega (arith, few) in
    below_ten 8 x bytes (low_bytes 8 (x + 0x7676_7676_7676_7676) sum
    (rw (mod-eq_of_lt sum) at high))

-- ---- the number

-- the mask keeps the bytes 0 and 4
pub kept : (p m q n : ℕ) → p < 256 → q < 256 → m < 2 ^ 24
    → bit_and (p + 2 ^ 8 * m + 2 ^ 32 * (q + 2 ^ 8 * n)) 0x0000_00ff_0000_00ff ≡ p + 2 ^ 32 * q
kept p m q n P Q M =
    let parts : p + 2 ^ 8 * m + 2 ^ 32 * (q + 2 ^ 8 * n)
    ≡ (q + 2 ^ 8 * n) * 2 ^ 32 + (p + 2 ^ 8 * m) = omega arith in
    let block = and_block 32 (q + 2 ^ 8 * n) 255 (p + 2 ^ 8 * m) 255 (omega arith) (omega arith) in
    let upper : bit_and (q + 2 ^ 8 * n) 255 ≡ (q + 2 ^ 8 * n) % 256 = and_mask (q + 2 ^ 8 * n) 8 in
    let lower : bit_and (p + 2 ^ 8 * m) 255 ≡ (p + 2 ^ 8 * m) % 256 = and_mask (p + 2 ^ 8 * m) 8 in
    ap (λ y. bit_and y 0x0000_00ff_0000_00ff) parts ∙ block ∙ omega (arith, upper, lower)

-- two pairs of digits by one product each
low_pairs : (p r : ℕ) → p < 100 → r < 100
    → (p + 2 ^ 32 * r) * 4294967296000100 % 2 ^ 64 ≡ p * 100 + 2 ^ 32 * (p * 1000000 + r * 100)
low_pairs p r P R = omega arith

high_pairs : (q s : ℕ) → q < 100 → s < 100
    → (q + 2 ^ 32 * s) * 42949672960001 % 2 ^ 64 ≡ q + 2 ^ 32 * (q * 10000 + s)
high_pairs q s Q S = omega arith

sum_of : (p q r s : ℕ) → p < 100 → q < 100 → r < 100 → s < 100
    → (p * 100 + 2 ^ 32 * (p * 1000000 + r * 100) + (q + 2 ^ 32 * (q * 10000 + s))) % 2 ^ 64 / 2 ^
    32
    ≡ p * 1000000 + q * 10000 + r * 100 + s
sum_of p q r s P Q R S = omega arith

-- four pairs of digits, and what is between them
four_pairs : (pairs p q r s x y z w : ℕ) → p < 100 → q < 100 → r < 100 → s < 100
    → x < 256 → y < 256 → z < 256 → w < 256
    → pairs ≡ p + 2 ^ 8 * (x + 2 ^ 8 * (q + 2 ^ 8 * y)) + 2 ^ 32 *
    (r + 2 ^ 8 * (z + 2 ^ 8 * (s + 2 ^ 8 * w)))
    → (bit_and pairs 0x0000_00ff_0000_00ff * 4294967296000100 % 2 ^ 64
    + bit_and (pairs / 65536) 0x0000_00ff_0000_00ff * 42949672960001 % 2 ^ 64) % 2 ^ 64 / 2 ^ 32
    ≡ p * 1000000 + q * 10000 + r * 100 + s
four_pairs pairs p q r s x y z w P Q R S X Y Z W e =
    let first : bit_and pairs 0x0000_00ff_0000_00ff ≡ p + 2 ^ 32 * r =
    ap (λ v. bit_and v 0x0000_00ff_0000_00ff) e
    ∙ kept p (x + 2 ^ 8 * (q + 2 ^ 8 * y)) r (z + 2 ^ 8 * (s + 2 ^ 8 * w)) (omega arith)
    (omega arith) (omega arith) in
    let down : pairs / 65536 ≡ q + 2 ^ 8 * (y + 2 ^ 8 * (r + 2 ^ 8 * z)) + 2 ^ 32 * (s + 2 ^ 8 * w)
    =
    omega (arith, e) in
    let second : bit_and (pairs / 65536) 0x0000_00ff_0000_00ff ≡ q + 2 ^ 32 * s =
    ap (λ v. bit_and v 0x0000_00ff_0000_00ff) down
    ∙ kept q (y + 2 ^ 8 * (r + 2 ^ 8 * z)) s w (omega arith) (omega arith) (omega arith) in
    rw (first, second, low_pairs p r P R, high_pairs q s Q S) (sum_of p q r s P Q R S)

eight_digits : (x a b c d e f g h : ℕ)
    → a < 10 → b < 10 → c < 10 → d < 10 → e < 10 → f < 10 → g < 10 → h < 10
    → x ≡ a + 256 * (b + 256 * (c + 256 * (d + 256 * (e + 256 * (f + 256 * (g + 256 * h))))))
    → (bit_and ((x * 10 % 2 ^ 64 + x / 256) % 2 ^ 64) 0x0000_00ff_0000_00ff * 4294967296000100 % 2 ^
    64
    + bit_and ((x * 10 % 2 ^ 64 + x / 256) % 2 ^ 64 / 65536) 0x0000_00ff_0000_00ff * 42949672960001
    % 2 ^ 64) % 2 ^ 64 / 2 ^ 32
    ≡ ((((((a * 10 + b) * 10 + c) * 10 + d) * 10 + e) * 10 + f) * 10 + g) * 10 + h
eight_digits x a b c d e f g h A B C D E F G H is =
    let rest : x / 256 ≡ b + 256 * (c + 256 * (d + 256 * (e + 256 * (f + 256 * (g + 256 * h))))) =
    omega (arith, is, A) in
    let pairs : (x * 10 % 2 ^ 64 + x / 256) % 2 ^ 64
    ≡ a * 10 + b + 2 ^ 8 * (b * 10 + c + 2 ^ 8 * (c * 10 + d + 2 ^ 8 * (d * 10 + e)))
    + 2 ^ 32 * (e * 10 + f + 2 ^ 8 * (f * 10 + g + 2 ^ 8 * (g * 10 + h + 2 ^ 8 * (h * 10)))) =
    omega (arith, is, rest) in
    four_pairs _ (a * 10 + b) (c * 10 + d) (e * 10 + f) (g * 10 + h) (b * 10 + c) (d * 10 + e)
    (f * 10 + g) (h * 10)
    (omega arith) (omega arith) (omega arith) (omega arith) (omega arith) (omega arith)
    (omega arith) (omega arith) pairs
    ∙ omega arith

-- the three products of `value_of`
pub number_is : (x : ℕ) → AreBelow 10 8 x
    → (bit_and ((x * 10 % 2 ^ 64 + x / 256) % 2 ^ 64) 0x0000_00ff_0000_00ff * 4294967296000100 % 2 ^
    64
    + bit_and ((x * 10 % 2 ^ 64 + x / 256) % 2 ^ 64 / 65536) 0x0000_00ff_0000_00ff * 42949672960001
    % 2 ^ 64) % 2 ^ 64 / 2 ^ 32
    ≡ number_of (byte_of x)
number_is x k =
    let none : x / 256 / 256 / 256 / 256 / 256 / 256 / 256 / 256 ≡ 0 = k.1.1.1.1.1.1.1.1 in
    let is : x ≡ x % 256 + 256 * (x / 256 % 256 + 256 * (x / 256 / 256 % 256
    + 256 * (x / 256 / 256 / 256 % 256 + 256 * (x / 256 / 256 / 256 / 256 % 256
    + 256 * (x / 256 / 256 / 256 / 256 / 256 % 256
    + 256 * (x / 256 / 256 / 256 / 256 / 256 / 256 % 256
    + 256 * (x / 256 / 256 / 256 / 256 / 256 / 256 / 256 % 256))))))) = omega (arith, none) in
    eight_digits x _ _ _ _ _ _ _ _ k.0 k.1.0 k.1.1.0 k.1.1.1.0 k.1.1.1.1.0 k.1.1.1.1.1.0
    k.1.1.1.1.1.1.0 k.1.1.1.1.1.1.1.0 is

pub few_number : (x : ℕ) → AreBelow 10 8 x → number_of (byte_of x) < 10 ^ 8
few_number x k =
    omega (
      arith,
      k.0,
      k.1.0,
      k.1.1.0,
      k.1.1.1.0,
      k.1.1.1.1.0,
      k.1.1.1.1.1.0,
      k.1.1.1.1.1.1.0,
      k.1.1.1.1.1.1.1.0,
    )

-- ---- the bytes

-- each byte is `0` and a digit
pub byte_is : (n : ℕ) (b : ℕ → ℕ) (x : ℕ) → ((i : ℕ) → b i < 256) → AreBelow 10 n x
    → spelt n b ≡ x + repeated 48 n → (i : ℕ) → i < n
    → (b i ≡ byte_of x i + 48) × (byte_of x i < 10)
byte_is zero b x fit h e i l = absurd (omega arith)
byte_is (suc n) b x fit h e zero l = (omega (arith, fit 0, h.0, e), h.0)
byte_is (suc n) b x fit h e (suc i) l =
    byte_is n (λ j. b (suc j)) (x / 256) (λ j. fit (suc j)) h.1 (omega (arith, fit 0, h.0, e)) i
    (omega arith)

-- digits that are the same write the same number
pub same_written : (d e : ℕ → ℕ) (n : ℕ) → ((i : ℕ) → i < n → d i ≡ e i) → written d n ≡ written e n
same_written d e zero h = refl
same_written d e (suc n) h =
    omega (arith, same_written d e n (λ i l. h i (omega arith)), h n (omega arith))

-- shifted down and up again, a word loses nothing above
pub not_wrapped : (x k : ℕ) → x < 2 ^ 64
    → x / 2 ^ k * 2 ^ k % 2 ^ 64 ≡ x / 2 ^ k * 2 ^ k
not_wrapped x k l = mod-eq_of_lt (grind arith)
